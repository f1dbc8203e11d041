use Rattle.std.proofs.Common.{subst, sym}
use Rattle.hh_rules.specs.RegisterView.{AgreesOnParty, tables_in}
use Rattle.hh_kept_rows.specs.steps.Parts.{Grows}
use Rattle.hh_kept_rows.proofs.PartLaws.{agrees_party, grows_party, grows_none, no_party}
use Rattle.hh_kept_rows.proofs.kept_register.KeptRegister.hold_party.Goals as goal

pub returns-in_ok-hold_party-in-Some-clause-grows : goal.returns-in_ok-hold_party-in-Some-clause-grows
returns-in_ok-hold_party-in-Some-clause-grows c =
    subst (Grows c.args.self.now c.args.part.now) (sym c.in_ok-hold_party-in-Some.ensures.ok)
    (grows_party c.args.self.now c.args.part.now c.args.party.now c.in-Some.registration (sym c.in-Some.ensures))

pub returns-in_ok-hold_party-in-Some-clause-agrees : goal.returns-in_ok-hold_party-in-Some-clause-agrees
returns-in_ok-hold_party-in-Some-clause-agrees c lead_minutes part =
    subst (λ n. AgreesOnParty c.args.self.now (tables_in n) c.args.party.now) (sym c.in_ok-hold_party-in-Some.ensures.ok)
    (agrees_party c.args.self.now c.args.part.now c.args.party.now c.in-Some.registration (sym c.in-Some.ensures))

pub returns-in-None-clause-grows : goal.returns-in-None-clause-grows
returns-in-None-clause-grows c = grows_none c.args.self.now c.args.part.now

pub returns-in-None-clause-agrees : goal.returns-in-None-clause-agrees
returns-in-None-clause-agrees c lead_minutes part = no_party c.args.self.now lead_minutes c.args.part.now part c.args.party.now (sym c.in-None.ensures)
