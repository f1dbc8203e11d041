use Rattle.std.proofs.Common.{rules}
use Rattle.hh_day.proofs.FitLaws.{next_fits}
use Rattle.hh_day.proofs.NetLaws.{nets_next}
use Rattle.hh_day.proofs.nets.nets_of.Goals as goal

pub loop-row-preserved : goal.loop-row-preserved
loop-row-preserved g c =
    nets_next c.args.rows.now c.loop-row.row-index c.row-item.result c.loop-row.nets c.add_row.new.nets c.loop-row-test.true c.row-item.is c.loop-row.invariant c.in_ok-add_row.ensures.added

pub returns-in_err-add_row-clause-memory_alone : goal.returns-in_err-add_row-clause-memory_alone
returns-in_err-add_row-clause-memory_alone g c small =
    let fault = c.in_err-add_row.ensures.memory_alone (next_fits c.args.rows.now small c.loop-row.row-index c.row-item.result c.loop-row.nets c.loop-row-test.true c.row-item.is c.loop-row.invariant) in
    search (rules, fault)
