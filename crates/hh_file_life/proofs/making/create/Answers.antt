use Rattle.std.proofs.Common.{subst, sym}
use Rattle.sqlite.specs.Held.{state}
use Rattle.hh_file_life.specs.steps.Answers.{HoldsNew}
use Rattle.hh_file_life.proofs.making.create.Goals as goal

pub returns-in-Ok : goal.returns-in-Ok
returns-in-Ok g c =
    subst (λ h. HoldsNew c.args.settings (state g.S.Store h)) (sym c.into_connection.ensures.same)
    (λ clean. let up = c.in-Ok.ensures.open clean in (up, λ midnight. (c.in-Ok.ensures.is_new up).holds))
