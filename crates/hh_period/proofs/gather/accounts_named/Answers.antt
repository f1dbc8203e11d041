use Rattle.std.proofs.Common.{arith}
use Rattle.hh_period.proofs.GatherFacts.{named_more}
use Rattle.hh_period.proofs.gather.accounts_named.Goals as goal

pub loop-row-preserved : goal.loop-row-preserved
loop-row-preserved c =
    named_more (λ r. r.lead) c.args.meters.now c.loop-row.row-index c.row-item.result (omega arith) c.row-item.is _ _ c.loop-row.invariant c.in_ok-insert.ensures.keys
