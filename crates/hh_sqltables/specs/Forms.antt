-- Tables of an office as tables of a database, under the schema of any version: the form of their rows, and what a statement makes of them.
use Rattle.std.specs.Prelude.{◌≡◌, ◌≢◌, ℕ, List, [], ◌∷◌, Bool, true, false, Option, Some, None, filter, not}
use Rattle.std.specs.List.{AllByRecursion}
use Rattle.std.specs.FinMap.{find, put}
use Rattle.std.specs.declared.cmp.Ordering.{Ordering}
use Rattle.sqlite_schema.specs.declared.schema.Schema.{Schema}
use Rattle.sqlite_schema.specs.declared.schema.Table.{Table}
use Rattle.sqlite_trees.specs.Tree.{Trees}
use Rattle.sqlite_trees.specs.View.{IsShaped}
use Rattle.sqlite_trees.specs.declared.store.Shape.TheVariants as shape
use Rattle.sqlite.specs.Effect.{Database, IsDatabase}
use Rattle.hh_tables.specs.Tables as tables
use Rattle.hh_keyed_rows.specs.Codecs.{Codec}
use Rattle.hh_keyed_rows.specs.KeyedRows.{stored_entry, table_in}

-- ---- a database with the tables of a schema

-- the rowids of each table of a schema rise
abbrev pub RowidsRise : Schema → Trees → Type 0
RowidsRise schema trees = AllByRecursion (λ t. IsShaped shape.Table (trees t.tree)) schema.tables

-- the database has the tables of a schema, it obeys their rules, and the rowids of each table rise
pub record IsOfficeOf (made : Schema) (db : Database) : Type 0 where
  pub schema : db.schema ≡ made
  pub sound : IsDatabase db
  pub rising : RowidsRise made db.trees

-- these tables have no rows
abbrev pub AreEmpty : List Table → Trees → Type 0
AreEmpty tables trees = AllByRecursion (λ t. trees t.tree ≡ []) tables

-- ---- a table

-- a table of the schema, its place there, the order of its keys, and how keys and values are written in columns
pub record TableForm (K V : Type 0) : Type 0 where
  pub at : ℕ
  pub table : Table
  pub order : K → K → Ordering
  pub key : Codec K
  pub value : Codec V

module _ {K V : Type 0} (form : TableForm K V) where
  -- the rows of the table as keys and values, in the order of the keys
  abbrev pub rows_under_keys : Trees → tables.Table K V
  rows_under_keys trees = table_in form.order (stored_entry form.key form.value) (trees form.table.tree)

-- the entry of a key, if a table has one
abbrev pub found_entry : {K V : Type 0} → K → Option V → List (K × V)
found_entry k None = []
found_entry k (Some v) = (k, v) ∷ []

-- what a table has under a key
abbrev pub entry_under : {K V : Type 0} → (K → K → Ordering) → tables.Table K V → K → tables.Table K V
entry_under order rows k = found_entry k (find order k rows)

-- ---- what a statement makes of it

-- each table of the schema is as it was, except for the one in this tree
abbrev pub KeepsOthersIn : Schema → ℕ → Trees → Trees → Type 0
KeepsOthersIn schema tree old new = AllByRecursion (λ t. t.tree ≢ tree → new t.tree ≡ old t.tree) schema.tables

module _ (schema : Schema) {K V : Type 0} (form : TableForm K V) where
  -- The row is under its key, where it replaces the one there, and the other tables are as they were.
  pub record PutsIn (key : K) (value : V) (old new : Database) : Type 0 where
    pub is_office : IsOfficeOf schema new
    pub rows : rows_under_keys form new.trees ≡ put form.order key value (rows_under_keys form old.trees)
    pub others : KeepsOthersIn schema form.table.tree old.trees new.trees

  -- The rows are under their keys, each of which replaces the one there before it, and the other tables are as they were.
  pub record PutsAllIn (entries : List (K × V)) (old new : Database) : Type 0 where
    pub is_office : IsOfficeOf schema new
    pub rows : rows_under_keys form new.trees ≡ tables.put_all form.order entries (rows_under_keys form old.trees)
    pub others : KeepsOthersIn schema form.table.tree old.trees new.trees

  -- the rows are kept under their keys, or the database is as it was
  abbrev pub PutsAllOrLeavesIn : List (K × V) → Database → Database → Bool → Type 0
  PutsAllOrLeavesIn entries old new true = PutsAllIn entries old new
  PutsAllOrLeavesIn entries old new false = new ≡ old

  -- The rows whose keys pass a test are removed, the others of the table are still there, and the other tables are as they were.
  pub record RemovesIn (test : K → Bool) (old new : Database) : Type 0 where
    pub is_office : IsOfficeOf schema new
    pub rows : rows_under_keys form new.trees ≡ filter (λ e. not (test e.0)) (rows_under_keys form old.trees)
    pub others : KeepsOthersIn schema form.table.tree old.trees new.trees
