use Rattle.std.proofs.Common.{◌≡◌, ◌∙◌, IsTrue, ap, rules, subst, sym}
use Rattle.sqlite.specs.Effect.{Database}
use Rattle.sqlite.specs.Held.{state}
use Rattle.hh_tables.specs.Tables.{IsTable}
use Rattle.hh_tables.proofs.MergeLaws.{from_true}
use Rattle.hh_rows.specs.Keys.{reallocation_key_cmp}
use Rattle.hh_rows.proofs.KeyLaws.{contract_key_total, reallocation_key_total}
use Rattle.hh_rules.specs.History.{Registered, nothing_registered}
use Rattle.hh_kept_rows.specs.DayRows.{HasRowsOn}
use Rattle.hh_sqlrows.specs.Contents.{registered_of}
use Rattle.hh_sqlrows.specs.OfficeTables as tables
use Rattle.hh_sqlparts.specs.steps.Readings.{SelectsOnly}
use Rattle.hh_sqlparts.specs.steps.DayParts.{with_day_contracts, with_registered, with_rows_of_units}
use Rattle.hh_sqlparts.proofs.DayLaws.{day_part, rows_of_day_part}
use Rattle.hh_sqlparts.proofs.NamedForms.{rows_rise}
use Rattle.hh_sqlparts.proofs.ReadingLaws.{only, found_first, found_last, reading_then}
use Rattle.hh_sqlparts.proofs.day_rows.select_day.Goals as goal

pub returns-clause-value : goal.returns-clause-value
returns-clause-value g c stands is settled =
    let old = state g.S.Store c.args.conn.now in
    let first = state g.S.Store c.select_contracts.new.conn in
    let second = state g.S.Store c.select_registered.new.conn in
    let new = state g.S.Store c.select_of_units.new.conn in
    let date = c.args.date in
    let whole = registered_of old.now.trees in
    let one : SelectsOnly old first = (only _ _ _ c.in_ok-select_contracts.ensures.frame) in
    let two : SelectsOnly first second = (only _ _ _ c.in_ok-select_registered.ensures.frame) in
    let three : SelectsOnly second new = (only _ _ _ c.in_ok-select_of_units.ensures.frame) in
    let contracts : IsTrue first.is_open → c.select_contracts.new.part ≡ with_day_contracts date whole nothing_registered = λ stood. search rules in
    let registered = found_first old second new (reading_then old first second one two) three (c.select_registered.new.part ≡ with_registered date whole c.select_contracts.new.part)
    (found_last old first second one two (λ (db : Database). c.select_registered.new.part ≡ with_registered date (registered_of db.trees) c.select_contracts.new.part) c.in_ok-select_registered.ensures.value) stands is settled in
    let of_units = found_last old second new (reading_then old first second one two) three (λ (db : Database). c.select_of_units.new.part ≡ with_rows_of_units date (registered_of db.trees) c.select_registered.new.part)
    c.in_ok-select_of_units.ensures.value stands is settled in
    let same : c.select_of_units.new.part ≡ day_part date whole =
    of_units ∙ ap (with_rows_of_units date whole) (registered ∙ ap (with_registered date whole) (contracts (two.stood (three.stood stands)))) in
    subst (λ (part : Registered). HasRowsOn date whole part) (sym same)
    (rows_of_day_part date whole (rows_rise tables.contracts contract_key_total old.now.trees) (rows_rise tables.reallocations reallocation_key_total old.now.trees)
    (from_true _ (subst (λ (part : Registered). IsTable reallocation_key_cmp part.reallocations) same c.in_ok-select_of_units.ensures.rises)))
