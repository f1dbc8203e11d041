use Rattle.std.proofs.Common.{◌≡◌, subst, sym}
use Rattle.std.specs.FinMap.{find}
use Rattle.hh_rows.specs.Keys.{unit_period_cmp}
use Rattle.hh_rules.specs.RegisterView.{tables_in}
use Rattle.hh_kept_rows.specs.steps.Parts.{Grows}
use Rattle.hh_kept_rows.proofs.PartLaws.{agrees_reading, grows_reading, grows_none, no_reading}
use Rattle.hh_kept_rows.proofs.kept_register.KeptRegister.hold_reading.Goals as goal

pub returns-in_ok-hold_reading-in-Some-clause-grows : goal.returns-in_ok-hold_reading-in-Some-clause-grows
returns-in_ok-hold_reading-in-Some-clause-grows c =
    subst (Grows c.args.self.now c.args.part.now) (sym c.in_ok-hold_reading-in-Some.ensures.ok)
    (grows_reading c.args.self.now c.args.part.now c.args.key.now c.in-Some.reading (sym c.in-Some.ensures))

pub returns-in_ok-hold_reading-in-Some-clause-agrees : goal.returns-in_ok-hold_reading-in-Some-clause-agrees
returns-in_ok-hold_reading-in-Some-clause-agrees c lead_minutes part =
    subst (λ n. find unit_period_cmp c.args.key.now (tables_in n).meters ≡ find unit_period_cmp c.args.key.now c.args.self.now.meters) (sym c.in_ok-hold_reading-in-Some.ensures.ok)
    (agrees_reading c.args.self.now c.args.part.now c.args.key.now c.in-Some.reading (sym c.in-Some.ensures))

pub returns-in-None-clause-grows : goal.returns-in-None-clause-grows
returns-in-None-clause-grows c = grows_none c.args.self.now c.args.part.now

pub returns-in-None-clause-agrees : goal.returns-in-None-clause-agrees
returns-in-None-clause-agrees c lead_minutes part = no_reading c.args.self.now lead_minutes c.args.part.now part c.args.key.now (sym c.in-None.ensures)
