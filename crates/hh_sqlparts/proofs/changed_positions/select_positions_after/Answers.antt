use Rattle.std.proofs.Common.{◌∙◌}
use Rattle.sqlite.specs.Effect.{Database}
use Rattle.sqlite.specs.Held.{state}
use Rattle.hh_rows.specs.Keys.{contract_key_cmp}
use Rattle.hh_kept_rows.proofs.PositionKeys.{position_key_total}
use Rattle.hh_sqlrows.specs.Forms.{rows_under_keys}
use Rattle.hh_sqlrows.specs.OfficeTables as tables
use Rattle.hh_sqlparts.specs.steps.Moved.{ServesPositions}
use Rattle.hh_sqlparts.specs.steps.Named.{FindsNamed, volume_key_of}
use Rattle.hh_sqlparts.proofs.MovedLaws.{moved_in_whole}
use Rattle.hh_sqlparts.proofs.NamedForms.{rows_rise}
use Rattle.hh_sqlparts.proofs.ReadingLaws.{only, found_both}
use Rattle.hh_sqlparts.proofs.changed_positions.select_positions_after.Goals as goal

pub returns-clause-value : goal.returns-clause-value
returns-clause-value g c stands office settled =
    let rows = c.args.rows.now in
    let old = state g.S.Store c.args.conn.now in
    let mid = state g.S.Store c.select_volumes_named.new.conn in
    let new = state g.S.Store c.select_positions_named.new.conn in
    let volumes = c.in_ok-volumes.ensures in
    let positions = c.in_ok-positions.ensures in
    let P : Database → Type 0 = λ db. FindsNamed contract_key_cmp volume_key_of rows (rows_under_keys tables.contracts db.trees) c.in_ok-volumes.volumes in
    let Q : Database → Type 0 = λ db. ServesPositions rows (rows_under_keys tables.positions db.trees) c.in_ok-positions.positions in
    let both = found_both old mid new (only _ _ _ volumes.frame) (only _ _ _ positions.frame) P Q volumes.value positions.value stands office settled in
    moved_in_whole rows (rows_under_keys tables.contracts old.now.trees) c.in_ok-volumes.volumes (rows_under_keys tables.positions old.now.trees) c.in_ok-positions.positions c.in_ok-rows.field-0.items
    (rows_rise tables.positions position_key_total old.now.trees) both.0 both.1 (c.in_ok-rows.ensures ∙ c.in_ok-move_by_rows.ensures {u = tt})
