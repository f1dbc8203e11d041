use Rattle.std.proofs.Common.{◌∙◌, ap}
use Rattle.hh_day.proofs.EntryLaws.{credits_next}
use Rattle.hh_day.proofs.entries.credit_entries.Goals as goal

pub loop-settled-preserved : goal.loop-settled-preserved
loop-settled-preserved c =
    credits_next c.args.run.now c.args.day.now c.loop-settled.settled-index c.settled-item.result c.loop-settled-test.true c.settled-item.is _ _ _ _ c.at.ensures
    (c.credits-credits.ensures ∙ ap (λ s. s.credits) c.result.ensures) c.loop-settled.invariant c.in_ok-push_credits.ensures
