use Rattle.std.proofs.Common.{Ok, sym, ap, ◌∙◌}
use Rattle.hh_period.specs.Outcome.{settled_text, ◌>>=◌}
use Rattle.hh_period.proofs.PeriodFacts.{settled_is}
use Rattle.hh_period.proofs.inputs.settle_inputs.Goals as goal

pub returns-in-Ok : goal.returns-in-Ok
returns-in-Ok c =
    ap (λ input. input >>= settled_text) c.in_ok-period.ensures.gathered
    ∙ settled_is c.in_ok-period.period c.in-Ok.settled c.in-Ok.ensures.settled c.in-Ok.ensures.within
    ∙ ap Ok (sym (rw c.new-text.ensures.items at c.in_ok-push_period-in-Ok.ensures))
