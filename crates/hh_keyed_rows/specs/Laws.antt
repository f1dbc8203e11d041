-- What rows of a database say about a table, for any key and value that have columns.
use Rattle.std.specs.Prelude.{◌≡◌, ℕ, List, [], ◌∷◌, Bool, true, None, Some, filter_map, ⊤}
use Rattle.std.specs.List.{AllByRecursion, list_any}
use Rattle.std.specs.List.Sorted.{IsPermutation}
use Rattle.std.specs.Cmp.{IsTotalOrder}
use Rattle.std.specs.declared.cmp.Ordering.{Ordering}
use Rattle.std.specs.declared.cmp.Ordering.TheVariants.{Equal}
use Rattle.std.specs.FinMap.{find, put}
use Rattle.hh_num.specs.Quantities.{Measure}
use Rattle.hh_tables.specs.Tables.{Table, put_all}
use Rattle.sqlite_value.specs.Keys.{plain}
use Rattle.sqlite_value.specs.Order.{Row}
use Rattle.sqlite_schema.specs.Rules.{agree}
use Rattle.sqlite_schema.specs.declared.schema.Schema.{Schema}
use Rattle.sqlite_schema.specs.declared.schema.Table as schema
use Rattle.sqlite_rules.specs.Keys.{shares}
use Rattle.sqlite_trees.specs.Tree.{Trees}
use Rattle.sqlite_trees.specs.View.{IsShaped}
use Rattle.sqlite_trees.specs.declared.store.Shape.TheVariants as shape
use Rattle.hh_keyed_rows.specs.Codecs.{Codec, IsCodec, blob_column, places_from}
use Rattle.hh_keyed_rows.specs.Fields.{account_columns, counterparties_columns, date_column, file_kind_column, lead_minutes_column, mark_column, number_column, operator_key_column, period_column, quantity_column, range_columns, run_kind_column, settlement_period_columns, side_column, word_column}
use Rattle.hh_keyed_rows.specs.KeyedRows.{columns_of, entry_in, stored_entry, table_in}
use Rattle.hh_keyed_rows.specs.Keys.{contract_key_columns, credit_key_columns, file_key_columns, lead_key_columns, one_row_column, position_key_columns, posting_key_columns, reallocation_key_columns, result_key_columns, run_key_columns, unit_period_columns}
use Rattle.hh_keyed_rows.specs.Puts.{PutsRow}
use Rattle.hh_keyed_rows.specs.Values.{amounts_columns, file_columns, lead_term_columns, no_columns, party_columns, position_columns, reading_columns, reallocation_columns, settings_columns_of, summary_columns, unit_columns}

-- ---- columns are codecs

-- the columns of single values
pub record AreColumnCodecs : Type 0 where
  pub words : (allows : ℕ → Bool) (least most : ℕ) → IsCodec (word_column allows least most)
  pub operator_keys : IsCodec operator_key_column
  pub numbers : (most : ℕ) → IsCodec (number_column most)
  pub quantities : (measure : Measure) → IsCodec (quantity_column measure)
  pub dates : IsCodec date_column
  pub periods : IsCodec period_column
  pub lead_minutes : IsCodec lead_minutes_column
  pub sides : IsCodec side_column
  pub marks : IsCodec mark_column
  pub run_kinds : IsCodec run_kind_column
  pub file_kinds : IsCodec file_kind_column
  pub bytes : IsCodec blob_column

-- the columns of keys
pub record AreKeyCodecs : Type 0 where
  pub one_row : IsCodec one_row_column
  pub accounts : IsCodec account_columns
  pub settlement_periods : IsCodec settlement_period_columns
  pub unit_periods : IsCodec unit_period_columns
  pub leads : IsCodec lead_key_columns
  pub contracts : IsCodec contract_key_columns
  pub reallocations : IsCodec reallocation_key_columns
  pub files : IsCodec file_key_columns
  pub runs : IsCodec run_key_columns
  pub results : IsCodec result_key_columns
  pub credits : IsCodec credit_key_columns
  pub postings : IsCodec posting_key_columns
  pub positions : IsCodec position_key_columns

-- the columns of values
pub record AreValueCodecs : Type 0 where
  pub settings : (number : ℕ) → IsCodec (settings_columns_of number)
  pub ranges : IsCodec range_columns
  pub parties : IsCodec party_columns
  pub units : IsCodec unit_columns
  pub leads : IsCodec lead_term_columns
  pub counterparties : IsCodec counterparties_columns
  pub readings : IsCodec reading_columns
  pub reallocations : IsCodec reallocation_columns
  pub files : IsCodec file_columns
  pub summaries : IsCodec summary_columns
  pub amounts : IsCodec amounts_columns
  pub positions : IsCodec position_columns
  pub keys_alone : IsCodec no_columns

-- ---- for any table

-- an order that is total, and by which different keys are never equal
abbrev pub IsKeyOrder : {K : Type 0} → (K → K → Ordering) → Type 0
IsKeyOrder {K} R = IsTotalOrder R × ((a b : K) → R a b ≡ Equal → a ≡ b)

module _ {K V : Type 0} (key : Codec K) (value : Codec V) where
  -- the key and the value are in their ranges
  abbrev pub Fits : K × V → Type 0
  Fits e = (key.fits e.0 ≡ true) × (value.fits e.1 ≡ true)

  -- A row that is written for a key and a value in their ranges is read as them. A row that is read as a key and a value is the row that is
  -- written for them, and they are in their ranges.
  abbrev pub RowsReadBack : Type 0
  RowsReadBack = IsCodec key → IsCodec value
      → ((e : K × V) → Fits e → entry_in key value (columns_of key value e) ≡ Some e)
      × ((columns : Row) (e : K × V) → entry_in key value columns ≡ Some e → (columns ≡ columns_of key value e) × Fits e)

  -- a table and its indexes require that no two rows have the same key, and nothing else
  abbrev pub IsKeyed : Schema → schema.Table → Type 0
  IsKeyed as_schema table = (r new : Row)
      → list_any (shares None table new r) as_schema.indexes ≡ agree plain (places_from 1 key.width) r (places_from 1 key.width) new

module _ {K V : Type 0} (R : K → K → Ordering) where
  -- no key occurs twice
  abbrev pub AreOfOneEach : List (K × V) → Type 0
  AreOfOneEach [] = ⊤
  AreOfOneEach (e ∷ es) = (find R e.0 es ≡ None) × AreOfOneEach es

module _ {K V : Type 0} (key : Codec K) (value : Codec V) where
  -- If no two rows have the same key, rows represent the same table in any order.
  abbrev pub RowsInAnyOrder : Type 0
  RowsInAnyOrder = (R : K → K → Ordering) → IsKeyOrder R → (rows others : List Row) → IsPermutation rows others
      → AreOfOneEach R (filter_map (stored_entry key value) rows) → table_in R (stored_entry key value) others ≡ table_in R (stored_entry key value) rows

  module _ (as_schema : Schema) (table : schema.Table) where
    -- each of the entries is written, in their order
    abbrev pub PutsRows : List (K × V) → Trees → Trees → Type 0
    PutsRows [] old new = new table.tree ≡ old table.tree
    PutsRows (e ∷ es) old new = (middle : Trees) × PutsRow as_schema table old (columns_of key value e) middle × PutsRows es middle new

    -- the rowids of the rows rise, and the rows represent this table
    abbrev pub HoldsTable : (K → K → Ordering) → Trees → Table K V → Type 0
    HoldsTable R trees entries = IsShaped shape.Table (trees table.tree) × (table_in R (stored_entry key value) (trees table.tree) ≡ entries)

  -- Writing a row replaces the one with its key. The same holds for rows that are written one after the other.
  abbrev pub PutsReplace : Type 0
  PutsReplace = IsCodec key → IsCodec value → (R : K → K → Ordering) → IsKeyOrder R
      → (as_schema : Schema) (table : schema.Table) → IsKeyed key value as_schema table → (entries : Table K V) (old new : Trees) → HoldsTable as_schema table R old entries
      → ((e : K × V) → Fits key value e → PutsRow as_schema table old (columns_of key value e) new → HoldsTable as_schema table R new (put R e.0 e.1 entries))
      × ((es : List (K × V)) → AllByRecursion (Fits key value) es → PutsRows as_schema table es old new → HoldsTable as_schema table R new (put_all R es entries))
