use Rattle.std.proofs.Common.{[], ◌∷◌, OnOk, subst, sym}
use Rattle.std.proofs.lemmas.Result.{on_ok_weaker}
use Rattle.sqlite.specs.Held.{state}
use Rattle.hh_registrations.specs.declared.unit_steps.UnitStep.{UnitStep}
use Rattle.hh_sqlchanges.specs.steps.Becoming.{Becomes}
use Rattle.hh_sqlchanges.specs.steps.FileRows.{with_unit_steps}
use Rattle.hh_sqlchanges.proofs.UnitStepLaws.{lead_put, lead_removed, unit_put}
use Rattle.hh_sqlchanges.proofs.unit_writing.write_unit_step.Goals as goal

pub returns-in-Unit-clause-writes : goal.returns-in-Unit-clause-writes
returns-in-Unit-clause-writes g c clean inside is =
    let old = (state g.S.Store c.args.tx.now.conn.now).now in
    let new = (state g.S.Store c.replace.new.tx.conn.now).now in
    subst (λ (s : UnitStep). OnOk c.replace.result (Becomes (with_unit_steps (s ∷ [])) old new)) (sym c.in-Unit.is)
    (on_ok_weaker c.replace.result (unit_put c.in-Unit.unit c.in-Unit.registration old new) (c.replace.ensures.puts clean inside is))

pub returns-in-Put-clause-writes : goal.returns-in-Put-clause-writes
returns-in-Put-clause-writes g c clean inside is =
    let old = (state g.S.Store c.args.tx.now.conn.now).now in
    let new = (state g.S.Store c.replace-in-Put.new.tx.conn.now).now in
    subst (λ (s : UnitStep). OnOk c.replace-in-Put.result (Becomes (with_unit_steps (s ∷ [])) old new)) (sym c.in-Put.is)
    (on_ok_weaker c.replace-in-Put.result (lead_put c.in-Put.key c.in-Put.term old new) (c.replace-in-Put.ensures.puts clean inside is))

pub returns-in-Removed-clause-writes : goal.returns-in-Removed-clause-writes
returns-in-Removed-clause-writes g c clean inside is =
    let old = (state g.S.Store c.args.tx.now.conn.now).now in
    let new = (state g.S.Store c.remove_under.new.tx.conn.now).now in
    subst (λ (s : UnitStep). OnOk c.remove_under.result (Becomes (with_unit_steps (s ∷ [])) old new)) (sym c.in-Removed.is)
    (on_ok_weaker c.remove_under.result (lead_removed c.in-Removed.key old new) (c.remove_under.ensures.removes clean inside is))
