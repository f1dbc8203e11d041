use Rattle.std.proofs.Common.{◌≡◌, drop}
use Rattle.hh_kept_rows.specs.Keeping.{positions_with}
use Rattle.hh_sqlparts.proofs.changed_positions.move_by_rows.Given as goal

-- the rows that are left make of the positions now what all rows make of the positions before
abbrev pub invariant-loop-row : goal.invariant-loop-row
invariant-loop-row l =
    positions_with (drop l.row-index l.rows) l.volumes l.positions ≡ positions_with l.rows l.initial.volumes l.initial.positions
