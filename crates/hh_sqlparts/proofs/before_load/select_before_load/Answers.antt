use Rattle.std.proofs.Common.{◌≡◌, ◌∙◌, List, ap}
use Rattle.std.specs.Prelude.{filter}
use Rattle.sqlite.specs.Effect.{Database}
use Rattle.sqlite.specs.Held.{state}
use Rattle.hh_rows.specs.DateRanges.{Range}
use Rattle.hh_registrations.specs.Registrations.{succession_ranges}
use Rattle.hh_registrations.specs.UnitSteps.{steps_of_rows}
use Rattle.hh_rules.specs.Leads.{registered_units}
use Rattle.hh_kept_rows.specs.Keeping.{is_held, periods_of_runs}
use Rattle.hh_sqlrows.specs.Contents.{registered_of}
use Rattle.hh_sqlrows.specs.Forms.{rows_under_keys}
use Rattle.hh_sqlrows.specs.OfficeTables as tables
use Rattle.hh_sqlparts.proofs.ReadingLaws.{only, found_first, found_last, reading_then}
use Rattle.hh_sqlparts.proofs.before_load.select_before_load.Goals as goal

pub returns-clause-positions : goal.returns-clause-positions
returns-clause-positions g c stands office settled =
    let placed = state g.S.Store c.select_positions_after.new.conn in
    let changed = state g.S.Store c.select_unit_changes.new.conn in
    let new = state g.S.Store c.select_periods_held.new.conn in
    let later = reading_then placed changed new (only _ _ _ c.in_ok-changes.ensures.frame) (only _ _ _ c.in_ok-touched.ensures.frame) in
    found_first (state g.S.Store c.args.conn.now) placed new (only _ _ _ c.in_ok-positions.ensures.frame) later _ c.in_ok-positions.ensures.value stands office settled

pub returns-clause-steps : goal.returns-clause-steps
returns-clause-steps g c stands office settled =
    let placed = state g.S.Store c.select_positions_after.new.conn in
    let changed = state g.S.Store c.select_unit_changes.new.conn in
    let new = state g.S.Store c.select_periods_held.new.conn in
    let second = only _ _ _ c.in_ok-changes.ensures.frame in
    let third = only _ _ _ c.in_ok-touched.ensures.frame in
    found_last (state g.S.Store c.args.conn.now) placed new (only _ _ _ c.in_ok-positions.ensures.frame) (reading_then placed changed new second third)
    (λ db. c.in_ok-changes.changes.steps.items ≡ steps_of_rows c.args.rows.now (registered_units (registered_of db.trees)))
    (found_first placed changed new second third _ (λ up is kept. (c.in_ok-changes.ensures.value up is kept).steps)) stands office settled

pub returns-clause-touched : goal.returns-clause-touched
returns-clause-touched g c stands office settled =
    let old = state g.S.Store c.args.conn.now in
    let placed = state g.S.Store c.select_positions_after.new.conn in
    let changed = state g.S.Store c.select_unit_changes.new.conn in
    let new = state g.S.Store c.select_periods_held.new.conn in
    let first = only _ _ _ c.in_ok-positions.ensures.frame in
    let second = only _ _ _ c.in_ok-changes.ensures.frame in
    let third = only _ _ _ c.in_ok-touched.ensures.frame in
    let found = found_last old changed new (reading_then old placed changed first second) third
    (λ db. c.in_ok-touched.touched.items ≡ periods_of_runs (filter (λ e. is_held c.in_ok-changes.changes.successions.items e.0.date) (rows_under_keys tables.runs db.trees)))
    (rw c.deref.ensures.value at c.in_ok-touched.ensures.value) stands office settled in
    let ranges = found_last old placed new first (reading_then placed changed new second third)
    (λ db. c.in_ok-changes.changes.successions.items ≡ succession_ranges c.args.rows.now (rows_under_keys tables.leads db.trees))
    (found_first placed changed new second third _ (λ up is kept. (c.in_ok-changes.ensures.value up is kept).successions)) stands office settled in
    found ∙ ap (λ (held : List Range). periods_of_runs (filter (λ e. is_held held e.0.date) (rows_under_keys tables.runs old.now.trees))) ranges
