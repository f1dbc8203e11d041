use Rattle.std.proofs.Common.{arith}
use Rattle.hh_period.proofs.GatherFacts.{counterparties_more}
use Rattle.hh_period.proofs.gather.add_counterparties.Goals as goal

pub loop-row-preserved : goal.loop-row-preserved
loop-row-preserved c = λ names old.
    counterparties_more c.args.rows.now c.loop-row.row-index c.row-item.result (omega arith) c.row-item.is names _ _ _ (c.loop-row.invariant names old)
    c.in_ok-insert.ensures.keys c.in_ok-insert-2.ensures.keys
