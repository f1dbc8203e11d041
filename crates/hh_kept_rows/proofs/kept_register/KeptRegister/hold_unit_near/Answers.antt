use Rattle.std.proofs.Common.{◌∙◌, ap, subst, sym}
use Rattle.std.specs.FinMap.{find}
use Rattle.hh_names.specs.Accounts.{bytes_cmp}
use Rattle.hh_rules.specs.History.{Registered}
use Rattle.hh_rules.specs.RegisterView.{AgreesOnUnit, tables_in}
use Rattle.hh_kept_rows.specs.steps.Parts.{Grows}
use Rattle.hh_kept_rows.proofs.PartLaws.{agrees_unit, grows_unit, grows_none, no_unit}
use Rattle.hh_kept_rows.proofs.kept_register.KeptRegister.hold_unit_near.Goals as goal

pub returns-in_ok-hold_unit-in-Some-clause-grows : goal.returns-in_ok-hold_unit-in-Some-clause-grows
returns-in_ok-hold_unit-in-Some-clause-grows c =
    let has = sym (c.in-Some.ensures ∙ ap (λ (t : Registered). find bytes_cmp c.args.unit.now t.units) c.self.view_is) in
    subst (Grows c.args.self.now c.args.part.now) (sym c.in_ok-hold_unit-in-Some.ensures.ok)
    (grows_unit c.args.self.now c.args.part.now c.args.unit.now c.in-Some.registration has)

pub returns-in_ok-hold_unit-in-Some-clause-agrees : goal.returns-in_ok-hold_unit-in-Some-clause-agrees
returns-in_ok-hold_unit-in-Some-clause-agrees c lead_minutes part =
    let has = sym (c.in-Some.ensures ∙ ap (λ (t : Registered). find bytes_cmp c.args.unit.now t.units) c.self.view_is) in
    subst (λ n. AgreesOnUnit c.args.self.now (tables_in n) c.args.unit.now) (sym c.in_ok-hold_unit-in-Some.ensures.ok)
    (agrees_unit c.args.self.now c.args.part.now c.args.unit.now c.in-Some.registration has)

pub returns-in-None-clause-grows : goal.returns-in-None-clause-grows
returns-in-None-clause-grows c = grows_none c.args.self.now c.args.part.now

pub returns-in-None-clause-agrees : goal.returns-in-None-clause-agrees
returns-in-None-clause-agrees c lead_minutes part =
    let none = sym (c.in-None.ensures ∙ ap (λ (t : Registered). find bytes_cmp c.args.unit.now t.units) c.self.view_is) in
    no_unit c.args.self.now lead_minutes c.args.part.now part c.args.unit.now none
