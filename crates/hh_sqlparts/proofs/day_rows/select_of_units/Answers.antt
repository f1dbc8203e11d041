use Rattle.std.proofs.Common.{◌≡◌, ◌∙◌, ap, map}
use Rattle.std.specs.List.{flat_map}
use Rattle.sqlite.specs.Effect.{Database}
use Rattle.sqlite.specs.Held.{state}
use Rattle.hh_sqlrows.specs.Forms.{rows_under_keys}
use Rattle.hh_sqlrows.specs.OfficeTables as tables
use Rattle.hh_sqlparts.specs.steps.DayParts.{ids_on, on_date}
use Rattle.hh_sqlparts.specs.steps.Named.{readings_of, reallocations_of}
use Rattle.hh_sqlparts.proofs.ReadingLaws.{found_both, only}
use Rattle.hh_sqlparts.proofs.day_rows.select_of_units.Goals as goal

pub returns-clause-value : goal.returns-clause-value
returns-clause-value g c stands is settled =
    let s0 = state g.S.Store c.args.conn.now in
    let s1 = state g.S.Store c.select_under_each.new.conn in
    let s2 = state g.S.Store c.select_under_each-2.new.conn in
    let first = c.in_ok-select_under_each.ensures in
    let last = c.in_ok-select_under_each-2.ensures in
    let P : Database → Type 0 = λ db. c.in_ok-select_under_each.field-0.items ≡ flat_map (readings_of (rows_under_keys tables.meters db.trees)) c.deref-2.result.now in
    let Q : Database → Type 0 = λ db. c.in_ok-select_under_each-2.field-0.items ≡ flat_map (reallocations_of (rows_under_keys tables.reallocations db.trees)) c.deref-3.result.now in
    let both = found_both s0 s1 s2 (only _ _ _ first.frame) (only _ _ _ last.frame) P Q first.value last.value stands is settled in
    let named = c.in_ok-units.ensures ∙ ap (ids_on c.args.date) (c.rows.ensures.value ∙ (λ i. (c.part.view_is i).units)) in
    let days = c.deref-2.ensures.value ∙ c.in_ok-days.ensures ∙ ap (map (on_date c.args.date)) (c.deref.ensures.value ∙ named) in
    let meters = c.in_ok-part-inside.ensures.value ∙ both.0 ∙ ap (flat_map (readings_of (rows_under_keys tables.meters s0.now.trees))) days in
    let reallocations = c.in_ok-part-inside-2.ensures.value ∙ both.1 ∙ ap (flat_map (reallocations_of (rows_under_keys tables.reallocations s0.now.trees))) (c.deref-3.ensures.value ∙ named) in
    λ i. record (c.part.view_is i) { meters = meters i; reallocations = reallocations i }
