use Rattle.std.proofs.Common.{◌≡◌, [], take}
use Rattle.hh_tables.specs.Tables.{put_all}
use Rattle.hh_rows.specs.Keys.{contract_key_cmp}
use Rattle.hh_sqlparts.proofs.moved_positions.volumes_of.Given as goal

-- the rows so far are in the table
abbrev pub invariant-loop-row : goal.invariant-loop-row
invariant-loop-row l = l.volumes ≡ put_all contract_key_cmp (take l.row-index l.rows) []
