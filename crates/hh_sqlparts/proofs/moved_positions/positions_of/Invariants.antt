use Rattle.std.proofs.Common.{◌≡◌, [], take}
use Rattle.hh_tables.specs.Tables.{put_all}
use Rattle.hh_rules.specs.Positions.{position_key_cmp}
use Rattle.hh_sqlparts.proofs.moved_positions.positions_of.Given as goal

-- the rows so far are in the table
abbrev pub invariant-loop-row : goal.invariant-loop-row
invariant-loop-row l = l.positions ≡ put_all position_key_cmp (take l.row-index l.rows) []
