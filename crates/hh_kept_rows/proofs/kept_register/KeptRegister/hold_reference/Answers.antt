use Rattle.std.proofs.Common.{subst, sym}
use Rattle.hh_rules.specs.RegisterView.{AgreesOnReference, tables_in}
use Rattle.hh_kept_rows.specs.steps.Parts.{Grows}
use Rattle.hh_kept_rows.proofs.PartLaws.{agrees_reference, grows_reference}
use Rattle.hh_kept_rows.proofs.kept_register.KeptRegister.hold_reference.Goals as goal

pub returns-in_ok-hold_reference-in-Some-clause-grows : goal.returns-in_ok-hold_reference-in-Some-clause-grows
returns-in_ok-hold_reference-in-Some-clause-grows c =
    subst (Grows c.args.self.now c.args.part.now) (sym c.in_ok-hold_reference-in-Some.ensures.ok)
    (grows_reference c.args.self.now c.args.part.now c.args.reference.now c.in-Some.counterparties (sym c.in-Some.ensures))

pub returns-in_ok-hold_reference-in-Some-clause-agrees : goal.returns-in_ok-hold_reference-in-Some-clause-agrees
returns-in_ok-hold_reference-in-Some-clause-agrees c lead_minutes part =
    subst (λ n. AgreesOnReference c.args.self.now (tables_in n) c.args.reference.now) (sym c.in_ok-hold_reference-in-Some.ensures.ok)
    (agrees_reference c.args.self.now c.args.part.now c.args.reference.now c.in-Some.counterparties (sym c.in-Some.ensures))
