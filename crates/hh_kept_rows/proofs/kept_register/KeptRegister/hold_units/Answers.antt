use Rattle.std.proofs.Common.{arith, subst, ◌∙◌, ap}
use Rattle.std.specs.Prelude.{All}
use Rattle.std.proofs.lemmas.List.{take_all}
use Rattle.hh_rules.specs.History.{Registered}
use Rattle.hh_rules.specs.RegisterView.{AgreesOnUnit, tables_in}
use Rattle.hh_kept_rows.proofs.PartLaws.{all_units, grows_none, grows_twice, part_grown, units_more}
use Rattle.hh_kept_rows.proofs.kept_register.KeptRegister.hold_units.Goals as goal

pub loop-place-init : goal.loop-place-init
loop-place-init c = record {
  grows = grows_none c.args.self.now c.args.part.now;
  agrees = λ lead_minutes part k d below. absurd (omega arith);
}

pub loop-place-preserved : goal.loop-place-preserved
loop-place-preserved c = record {
  grows = grows_twice c.args.self.now c.args.part.now c.loop-place.part c.hold_unit_near.new.part c.loop-place.invariant.grows c.in_ok-hold_unit_near.ensures.grows;
  agrees = λ lead_minutes part.
      units_more c.args.self.now c.loop-place.part c.hold_unit_near.new.part c.in_ok-hold_unit_near.ensures.grows c.rows-row-items.result.now c.loop-place.place c.row-item.result c.loop-place-test.true c.row-item.is
      (c.loop-place.invariant.agrees lead_minutes part)
      (c.in_ok-hold_unit_near.ensures.agrees lead_minutes (part_grown c.args.self.now lead_minutes c.args.part.now c.loop-place.part part c.loop-place.invariant.grows));
}

pub returns-clause-agrees : goal.returns-clause-agrees
returns-clause-agrees c lead_minutes part =
    let lent = c.rows-row-items.ensures.value ∙ ap (λ (t : Registered). t.units) c.self.view_is in
    all_units c.args.self.now lead_minutes c.loop-place.part (part_grown c.args.self.now lead_minutes c.args.part.now c.loop-place.part part c.loop-place.invariant.grows)
    (subst (All (λ e. AgreesOnUnit c.args.self.now (tables_in c.loop-place.part) e.0)) (take_all c.loop-place.place c.rows-row-items.result.now c.loop-place-test.false ∙ lent)
    (c.loop-place.invariant.agrees lead_minutes part))
