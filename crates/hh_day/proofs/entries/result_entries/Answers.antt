use Rattle.std.proofs.Common.{◌∙◌, ap}
use Rattle.hh_day.proofs.EntryLaws.{results_next}
use Rattle.hh_day.proofs.entries.result_entries.Goals as goal

pub loop-settled-preserved : goal.loop-settled-preserved
loop-settled-preserved c =
    results_next c.args.run.now c.args.day.now c.loop-settled.settled-index c.settled-item.result c.loop-settled-test.true c.settled-item.is _ _ _ _ c.at.ensures
    (c.accounts-rows.ensures ∙ ap (λ s. s.accounts) c.result.ensures) c.loop-settled.invariant c.in_ok-push_results.ensures
