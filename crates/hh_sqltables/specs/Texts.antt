-- What a table's form has to be, and what the text of a statement does in it, under the schema of any version.
use Rattle.std.specs.Prelude.{◌≡◌, ◌⊎◌, ℕ, suc, ◌+◌, ◌++◌, ◌/◌, List, [], ◌∷◌, length, map, slice_get, Bool, true, false, Some, None, Ok}
use Rattle.std.specs.List.{list_all, list_any}
use Rattle.std.specs.Cmp.{IsTotalOrder}
use Rattle.std.specs.Ordering.{is_eq}
use Rattle.std.specs.declared.cmp.Ordering.{Ordering}
use Rattle.std.proofs.lemmas.Map.Lookups.{CmpEqualImpliesEq}
use Rattle.sqlite_value.specs.declared.value.Value.{Value}
use Rattle.sqlite_value.specs.declared.value.Value.TheVariants.{Blob, Int, Null, Real, Text}
use Rattle.sqlite_value.specs.declared.keys.Collation.TheVariants.{Binary}
use Rattle.sqlite_value.specs.Keys.{plain}
use Rattle.sqlite_value.specs.Order.{Row, column, row_cmp}
use Rattle.sqlite_trees.specs.Tree.{Trees, rowid}
use Rattle.sqlite_sql.specs.Program.{overlay}
use Rattle.sqlite_sql.specs.Query.{output}
use Rattle.sqlite_sql.specs.Term.{holds}
use Rattle.sqlite_schema.specs.Rules.{agree, clashes, equal, passes}
use Rattle.sqlite_schema.specs.declared.schema.Column.{Column}
use Rattle.sqlite_schema.specs.declared.schema.Constraint.TheVariants.{Unique}
use Rattle.sqlite_schema.specs.declared.schema.Keys.TheVariants.{Enforced}
use Rattle.sqlite_schema.specs.declared.schema.Schema.{Schema}
use Rattle.sqlite_schema.specs.declared.schema.Table.{Table}
use Rattle.sqlite_schema.specs.declared.command.Source.TheVariants.{Values}
use Rattle.sqlite_schema.specs.declared.command.Command.TheVariants.{CreateTable, Delete, Insert, InsertOr, Select}
use Rattle.sqlite_schema.specs.declared.command.Conflict.TheVariants.{Abort, Replace}
use Rattle.sqlite_catalog.specs.Change.{KeepsRows, created, next_tree}
use Rattle.sqlite_rules.specs.Action.{works}
use Rattle.sqlite_rules.specs.Cast.{cast}
use Rattle.sqlite_rules.specs.Keys.{conflicts, shares}
use Rattle.sqlite_rules.specs.Lists.{Has}
use Rattle.sqlite_resolve.specs.Compile.{table_defined_by}
use Rattle.sqlite.specs.Does.{lacks_sequence}
use Rattle.sqlite.specs.Effect.{Database, value_rows}
use Rattle.sqlite.specs.Listing.{reads_listing, understood}
use Rattle.sqlite.specs.Rows.{stamped}
use Rattle.sqlite.proofs.Callers.{IsPlain, command_of, statement_of}
use Rattle.hh_keyed_rows.specs.Codecs.{Codec, IsCodec, places_from}
use Rattle.hh_sqltables.specs.Forms.{IsOfficeOf, TableForm}
use Rattle.hh_sqltables.specs.Terms.{delete_by, delete_program, group_terms, row_terms, select_by, update_by, update_clause}

-- ---- the columns of a row

-- the values are of the kinds of these columns, so that none is converted
abbrev pub AreOfKinds : List Column → Row → Type 0
AreOfKinds [] vs = vs ≡ []
AreOfKinds (c ∷ cs) [] = ⊥
AreOfKinds (c ∷ cs) (v ∷ vs) = (cast c.kind v ≡ v) × AreOfKinds cs vs

-- the columns of a codec compare as its values do
abbrev pub IsOrdered : {A : Type 0} → Codec A → (A → A → Ordering) → Type 0
IsOrdered {A} c R = (a b : A) → row_cmp (c.write a) (c.write b) ≡ R a b

-- a text or a blob
abbrev pub is_lettered : Value → Bool
is_lettered Null = false
is_lettered (Int n) = false
is_lettered (Real x) = false
is_lettered (Text t) = true
is_lettered (Blob b) = true

module _ {K V : Type 0} (form : TableForm K V) where
  abbrev pub columns_in : K → V → Row
  columns_in k v = form.key.write k ++ form.value.write v

  abbrev pub width_of : ℕ
  width_of = form.key.width + form.value.width

  -- the columns at these places of a row are those that a codec writes for a part of the row's key
  abbrev pub StandAt : {A : Type 0} → Codec A → (K → A) → List ℕ → Type 0
  StandAt c part places = (id : Value) (k : K) (v : V) → map (column (id ∷ columns_in k v)) places ≡ c.write (part k)

  -- The columns at these places have the order of the form's keys.
  pub record IsOrderBy (order : List ℕ) : Type 0 where
    pub codec : Codec K
    pub is_codec : IsCodec codec
    pub ordered : IsOrdered codec form.order
    pub wide : length order ≡ codec.width
    pub stand : StandAt codec (λ k. k) order
    pub most : ℕ
    pub some : width_of ≡ suc most

-- ---- a form of a table of a schema

module _ (schema : Schema) {K V : Type 0} (form : TableForm K V) where
  -- The table is at the form's place in the schema, its rows are unique by their keys alone, and keys and values are written in its columns.
  pub record IsFormIn : Type 0 where
    pub total : IsTotalOrder form.order
    pub exact : CmpEqualImpliesEq form.order
    pub is_key : IsCodec form.key
    pub is_value : IsCodec form.value
    pub listed : slice_get schema.tables form.at ≡ Some form.table
    pub there : Has schema.tables form.table
    pub own : (db : Trees) → overlay db [] form.table.tree ≡ db form.table.tree
    pub unkeyed : form.table.key ≡ None
    pub uncounted : form.table.is_counted ≡ false
    pub unstamped : form.table.stamps.terms ≡ []
    pub free : (olds news : List Row) → works schema Enforced 0 form.table.tree olds news ≡ []
    pub indexed : (r new : Row) → list_any (shares None form.table new r) schema.indexes ≡ agree plain (places_from 1 form.key.width) r (places_from 1 form.key.width) new
    pub unique : (db : Trees) (r : Row) → passes Unique schema db form.table r ≡ true → clashes plain (places_from 1 form.key.width) (db form.table.tree) r ≡ false
    pub long : length form.table.columns ≡ width_of form
    pub present : list_all (λ c. c.not_null) form.table.columns ≡ true
    pub kinds : (k : K) (v : V) → AreOfKinds form.table.columns (columns_in form k v)
    pub values : (k : K) (v : V) → value_rows (stamped form.table (columns_in form k v)) (suc (width_of form)) (length (row_terms (width_of form)) / suc (width_of form)) (row_terms (width_of form)) ≡ (Null ∷ columns_in form k v) ∷ []

  -- The columns of the key are texts or blobs, the rows that conflict are those with the key, and the query selects by the rowid.
  pub record IsChangeableIn : Type 0 where
    pub lettered : (k : K) → list_all is_lettered (form.key.write k) ≡ true
    pub aimed : (r new : Row) → conflicts (Some (places_from 1 form.key.width)) schema.indexes form.table new r ≡ agree plain (places_from 1 form.key.width) r (places_from 1 form.key.width) new
    pub tests : (k : K) (v : V) (id : Value) (more r : Row) → list_all (holds ((columns_in form k v ++ id ∷ more) ∷ r ∷ [])) (update_by form).filter ≡ equal Binary (rowid r) id
    pub outputs : (k : K) (v : V) (more r : Row)
        → output (update_by form) ((columns_in form k v ++ more) ∷ r ∷ []) ≡ ([], rowid r ∷ rowid r ∷ (map (column r) (places_from 1 form.key.width) ++ form.value.write v))

  -- A table's form is that of its schema, and its key and value are written by these codecs.
  pub record IsTableOf (key : Codec K) (value : Codec V) : Type 0 where
    pub is_form : IsFormIn
    pub keyed : form.key ≡ key
    pub valued : form.value ≡ value

  -- ---- what a text does

  module _ (sql : List ℕ) where
    -- the statement writes `count` rows, each of which replaces the one with its key
    abbrev pub IsReplaceOf : ℕ → Type 0
    IsReplaceOf count = (command_of (understood schema sql) ≡ InsertOr form.at Replace (Values (group_terms (width_of form) 0 count) (suc (width_of form))) []) × IsPlain (understood schema sql)

    -- the statement writes `count` rows whose keys are new
    abbrev pub IsInsertOf : ℕ → Type 0
    IsInsertOf count = (command_of (understood schema sql) ≡ Insert form.at (Values (group_terms (width_of form) 0 count) (suc (width_of form)))) × IsPlain (understood schema sql)

    -- the statement writes a row, or changes the one with its key
    abbrev pub IsUpdate : Type 0
    IsUpdate =
        (command_of (understood schema sql) ≡ InsertOr form.at Abort (Values (row_terms (width_of form)) (suc (width_of form))) (update_clause form ∷ []))
        × IsPlain (understood schema sql)

    -- the text writes a row, and replaces the one with its key where there may be one
    abbrev pub IsPut : Type 0
    IsPut = IsReplaceOf 1 ⊎ IsInsertOf 1 ⊎ (IsChangeableIn × IsUpdate)

    -- The query selects all columns of the rows that have the parameters at `places`, in the order of the columns at `order`.
    pub record IsSelect (places order : List ℕ) : Type 0 where
      pub names : List (List ℕ)
      pub command : command_of (understood schema sql) ≡ Select (record { lets = []; body = select_by form places order }) names
      pub unlisted : reads_listing schema sql ≡ false
      pub plain : IsPlain (understood schema sql)

    -- the text selects all rows, in the order of their keys
    pub record IsListing : Type 0 where
      pub order : List ℕ
      pub selects : IsSelect [] order
      pub by : IsOrderBy form order

    -- the text selects the row of a key
    pub record IsFinding : Type 0 where
      pub places : List ℕ
      pub order : List ℕ
      pub selects : IsSelect places order
      pub by : IsOrderBy form order
      pub narrow : length places ≡ form.key.width
      pub picked : StandAt form form.key (λ k. k) places

    -- the statement removes the rows that have the parameters at these places
    abbrev pub IsDelete : List ℕ → Type 0
    IsDelete places = (command_of (understood schema sql) ≡ Delete form.at (delete_program form places)) × IsPlain (understood schema sql)

    module _ {A : Type 0} (asked : Codec A) (is_under : A → K → Bool) where
      -- the text selects the rows whose keys are under a value, in the order of their keys
      pub record IsQuery : Type 0 where
        pub places : List ℕ
        pub order : List ℕ
        pub selects : IsSelect places order
        pub by : IsOrderBy form order
        pub asked_order : A → A → Ordering
        pub total : IsTotalOrder asked_order
        pub exact : CmpEqualImpliesEq asked_order
        pub is_codec : IsCodec asked
        pub part : K → A
        pub narrow : length places ≡ asked.width
        pub picked : StandAt form asked part places
        pub same : (a : A) (k : K) → is_eq (asked_order (part k) a) ≡ is_under a k

      -- the text removes the rows whose keys are under a value
      pub record IsRemoval : Type 0 where
        pub places : List ℕ
        pub deletes : IsDelete places
        pub tested : (a : A) (id : Value) (k : K) (v : V) → list_all (holds (asked.write a ∷ (id ∷ columns_in form k v) ∷ [])) (delete_by form places).filter ≡ is_under a k

-- ---- a table that is made

-- The text makes a table, which is the last of the schema after it. `table` is as the text says it, without a tree.
pub record Defines (before after : Schema) (table : Table) (sql : List ℕ) : Type 0 where
  pub command : command_of (understood before sql) ≡ CreateTable
  pub whole : statement_of sql (understood before sql) ≡ sql
  pub plain : IsPlain (understood before sql)
  pub defined : table_defined_by sql ≡ Ok table
  pub makes : created before table ≡ after
  pub extends : after.tables ≡ before.tables ++ record table { tree = next_tree before } ∷ []
  pub uncounted : lacks_sequence after ≡ false

-- The table is made and has no rows, and the tables before it have the rows that they had.
pub record Makes (before after : Schema) (table : Table) (old new : Database) : Type 0 where
  pub is_office : IsOfficeOf after new
  pub empty : new.trees (next_tree before) ≡ []
  pub others : KeepsRows before.tables old.trees new.trees
