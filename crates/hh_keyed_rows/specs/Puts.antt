-- What writing one row makes of the trees.
use Rattle.std.specs.Prelude.{◌≡◌, ◌≢◌, List, ◌∷◌, None}
use Rattle.std.specs.List.{AllByRecursion}
use Rattle.sqlite_value.specs.declared.value.Value.TheVariants.{Int}
use Rattle.sqlite_value.specs.Order.{Row}
use Rattle.sqlite_trees.specs.Tree.{Trees, put_row}
use Rattle.sqlite.specs.Table.{Table}
use Rattle.sqlite.specs.Schema.{Schema}
use Rattle.sqlite_rules.specs.Keys.{AreConflicts}
use Rattle.sqlite_rules.specs.Calls.{ids_of}
use Rattle.sqlite.specs.Edit.{next_rowid, without_all}

-- the row as it is stored in a table that has these rows
abbrev pub stored_in : List Row → Row → Row
stored_in rows columns = Int (next_rowid rows) ∷ columns

-- the row replaces those that conflict with it, and each other table is as it was
pub record PutsRow (schema : Schema) (table : Table) (old : Trees) (columns : Row) (new : Trees) : Type 0 where
  pub found : List Row
  pub conflicts : AreConflicts None schema.indexes table (old table.tree) (stored_in (old table.tree) columns) found
  pub rows : new table.tree ≡ put_row (stored_in (old table.tree) columns) (without_all (old table.tree) (ids_of found))
  pub others : AllByRecursion (λ t. t.tree ≢ table.tree → new t.tree ≡ old t.tree) schema.tables
