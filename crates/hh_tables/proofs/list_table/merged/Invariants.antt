use Rattle.std.proofs.Common.{◌≡◌, ◌++◌, take}
use Rattle.hh_tables.proofs.MergeLaws.{AreReached}
use Rattle.hh_tables.specs.Tables.{put_all}
use Rattle.hh_tables.proofs.list_table.merged.Given as goal

abbrev pub invariant-loop-row : goal.invariant-loop-row
invariant-loop-row g l = record {
  so_far : l.merged.items ++ l.rest ≡ put_all g.K.Ord.cmp (take l.row-index l.rows) l.table;
  reached : AreReached g.K.Ord.cmp l.rows l.row-index l.merged.items;
}
