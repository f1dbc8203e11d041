use Rattle.std.proofs.Common.{◌∙◌, ap, arith, length, subst, sym}
use Rattle.hh_rules.specs.History.{Registered}
use Rattle.hh_kept_rows.specs.Parts.{whole_of}
use Rattle.hh_kept_rows.specs.steps.Parts.{IsPartOf}
use Rattle.hh_kept_rows.proofs.NamedLaws.{names_more}
use Rattle.hh_kept_rows.proofs.PartLaws.{empty_is_part, part_grown, units_grown}
use Rattle.hh_kept_rows.proofs.kept_register.KeptRegister.names_of.Goals as goal

pub loop-row-init : goal.loop-row-init
loop-row-init c =
    let empty = subst (IsPartOf (whole_of c.args.lead_minutes c.args.self.now)) (sym c.part-part.ensures)
    (empty_is_part c.args.self.now c.args.lead_minutes c.in_ok-parties.parties c.in_ok-units.units
    (c.in_ok-parties.ensures.value ∙ c.len.ensures ∙ ap (λ (t : Registered). length t.parties) c.self.view_is)
    (c.in_ok-units.ensures.value ∙ c.len-2.ensures ∙ ap (λ (t : Registered). length t.units) c.self.view_is)) in
    record {
      part = part_grown c.args.self.now c.args.lead_minutes c.part-part.result c.hold_units_for.new.part empty c.in_ok-all_units.ensures.grows;
      units = c.in_ok-all_units.ensures.agrees c.args.lead_minutes empty;
      agrees = λ k d below. absurd (omega arith);
    }

pub loop-row-preserved : goal.loop-row-preserved
loop-row-preserved c = record {
  part = part_grown c.args.self.now c.args.lead_minutes c.loop-row.part c.hold_names.new.part c.loop-row.invariant.part c.in_ok-hold_names.ensures.grows;
  units = λ all. units_grown c.args.self.now c.loop-row.part c.hold_names.new.part c.in_ok-hold_names.ensures.grows (c.loop-row.invariant.units all);
  agrees = names_more c.args.self.now c.args.rows.now c.loop-row.row-index c.row-item.result c.loop-row-test.true c.row-item.is c.loop-row.part c.hold_names.new.part c.in_ok-hold_names.ensures.grows
      c.loop-row.invariant.agrees (c.in_ok-hold_names.ensures.agrees c.args.lead_minutes c.loop-row.invariant.part);
}
