use Rattle.std.proofs.Common.{ℕ, ◌≡◌, sym, ap, ◌∙◌, None, Some, map, List}
use Rattle.std.specs.Prelude.{Bool, find, is_none, option_map}
use Rattle.std.proofs.lemmas.List.{take_all}
use Rattle.hh_rows.specs.declared.keys.UnitPeriod.{UnitPeriod}
use Rattle.hh_rows.specs.declared.rows.UnitRegistration.{UnitRegistration}
use Rattle.hh_rows.specs.declared.settlement_period.SettlementPeriod.{SettlementPeriod}
use Rattle.hh_rules.specs.History.{Registered}
use Rattle.hh_states.specs.PeriodSettlement.{reading_of, units_on}
use Rattle.hh_kept_rows.proofs.DayLaws.{find-map, not_yet, now_found, periods_led}
use Rattle.hh_kept_rows.proofs.kept_register.KeptRegister.missing_meter_at.Goals as goal

module _ (tables : Registered) (at : SettlementPeriod) where
  -- a unit in the Settlement Period
  abbrev here : List ℕ × UnitRegistration → UnitPeriod
  here e = record { unit = e.0; at = at }

  -- whether it lacks a reading
  abbrev lacks : List ℕ × UnitRegistration → Bool
  lacks e = is_none (reading_of tables (here e))

pub loop-place-preserved : goal.loop-place-preserved
loop-place-preserved c =
    not_yet (lacks c.args.self.now c.args.at.now) c.args.units.now c.loop-place.place c.index-units-place.result c.loop-place-test.true c.index-units-place.is c.loop-place.invariant
    (ap (λ key. is_none (reading_of c.args.self.now key)) (sym c.unit_period-key.ensures) ∙ sym c.lacks_reading.ensures ∙ c.if-lacks_reading.false)

pub returns-then-lacks_reading : goal.returns-then-lacks_reading
returns-then-lacks_reading c =
    let tables = c.args.self.now in
    let at = c.args.at.now in
    let found = now_found (lacks tables at) c.args.units.now c.loop-place.place c.index-units-place.result c.loop-place-test.true c.index-units-place.is c.loop-place.invariant
    (ap (λ key. is_none (reading_of tables key)) (sym c.unit_period-key.ensures) ∙ sym c.lacks_reading.ensures ∙ c.if-lacks_reading.true) in
    ap Some c.unit_period-key.ensures
    ∙ sym (ap (find (λ key. is_none (reading_of tables key))) (sym (periods_led tables at (units_on tables at.date)) ∙ ap (map (here tables at)) (sym c.requires))
    ∙ find-map (λ key. is_none (reading_of tables key)) (here tables at) c.args.units.now
    ∙ ap (option_map (here tables at)) found)

pub returns : goal.returns
returns c =
    let tables = c.args.self.now in
    let at = c.args.at.now in
    let all = take_all c.loop-place.place c.args.units.now c.loop-place-test.false in
    let none : find (lacks tables at) c.args.units.now ≡ None = ap (find (lacks tables at)) (sym all) ∙ c.loop-place.invariant in
    sym (ap (find (λ key. is_none (reading_of tables key))) (sym (periods_led tables at (units_on tables at.date)) ∙ ap (map (here tables at)) (sym c.requires))
    ∙ find-map (λ key. is_none (reading_of tables key)) (here tables at) c.args.units.now
    ∙ ap (option_map (here tables at)) none)
