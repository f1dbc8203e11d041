use Rattle.std.proofs.Common.{◌≡◌}
use Rattle.sqlite.specs.Held.{state}
use Rattle.hh_sqlrows.specs.Contents.{registered_of}
use Rattle.hh_sqlrows.specs.Forms.{rows_under_keys}
use Rattle.hh_sqlrows.specs.OfficeTables.{runs}
use Rattle.hh_kept_rows.specs.Keeping.{periods_of_runs, positions_by}
use Rattle.hh_sqlparts.specs.BesideAnew.{HasNothingBeside}
use Rattle.hh_sqlparts.proofs.ReadingLaws.{only, found_first, found_last, reading_then}
use Rattle.hh_sqlparts.proofs.beside_anew.select_beside_anew.Goals as goal

pub returns-clause-value : goal.returns-clause-value
returns-clause-value g c stands is settled =
    let old = state g.S.Store c.args.conn.now in
    let none = state g.S.Store c.select_nothing_beside.new.conn in
    let placed = state g.S.Store c.select_positions_anew.new.conn in
    let new = state g.S.Store c.select_periods_of_runs.new.conn in
    let first = (only _ _ _ c.in_ok-select_nothing_beside.ensures.frame) in
    let second = (only _ _ _ c.in_ok-positions.ensures.frame) in
    let third = (only _ _ _ c.in_ok-touched.ensures.frame) in
    let later = reading_then none placed new second third in
    record {
      nothing = found_first old none new first later (HasNothingBeside old.now.trees) c.in_ok-select_nothing_beside.ensures.value stands is settled;
      positions = found_last old none new first later (λ db. c.in_ok-positions.positions.items ≡ positions_by (registered_of db.trees))
          (found_first none placed new second third _ c.in_ok-positions.ensures.value) stands is settled;
      touched = found_last old placed new (reading_then old none placed first second) third (λ db. c.in_ok-touched.touched.items ≡ periods_of_runs (rows_under_keys runs db.trees))
          (λ later_open office kept. c.in_ok-touched.ensures.value later_open office) stands is settled;
    }
