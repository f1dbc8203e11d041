-- The laws about rows that represent tables, as contracts state them.
use Rattle.std.proofs.Common.{List, [], ◌∷◌, Ordering, sym, ap, subst, ◌∙◌}
use Rattle.std.specs.List.{AllByRecursion}
use Rattle.std.specs.FinMap.{put}
use Rattle.sqlite_schema.specs.declared.schema.Schema.{Schema}
use Rattle.sqlite_schema.specs.declared.schema.Table as schema
use Rattle.sqlite_trees.specs.Tree.{Trees}
use Rattle.sqlite_trees.specs.View.{IsShaped}
use Rattle.sqlite_trees.specs.declared.store.Shape.TheVariants as shape
use Rattle.hh_tables.specs.Tables.{Table, put_all}
use Rattle.hh_keyed_rows.specs.Codecs.{Codec, IsCodec}
use Rattle.hh_keyed_rows.specs.KeyedRows.{columns_of, stored_entry, table_in}
use Rattle.hh_keyed_rows.specs.Laws.{Fits, HoldsTable, IsKeyOrder, IsKeyed, PutsReplace, PutsRows, RowsInAnyOrder, RowsReadBack}
use Rattle.hh_keyed_rows.specs.Puts.{PutsRow}
use Rattle.hh_keyed_rows.proofs.CodecLaws.{entry_fits, read_only, written_in}
use Rattle.hh_keyed_rows.proofs.OrderLaws.{rows_permuted}
use Rattle.hh_keyed_rows.proofs.ReplaceLaws.{put_in_table, shaped_put}

module _ {K V : Type 0} (key : Codec K) (value : Codec V) where
  pub read_back : RowsReadBack key value
  read_back is_key is_value = (
    λ e fits. written_in key value is_key is_value e.0 e.1 fits.0 fits.1,
    λ columns e is. (read_only key value is_key is_value columns e is, entry_fits key value is_key is_value columns e is),
  )

  pub in_any_order : RowsInAnyOrder key value
  in_any_order R order rows others same each = rows_permuted R order.0 order.1 (stored_entry key value) rows others same each

  module _ (is_key : IsCodec key) (is_value : IsCodec value) (R : K → K → Ordering) (order : IsKeyOrder R) (as_schema : Schema) (table : schema.Table) (keyed : IsKeyed key value as_schema table) where
    put_one : (entries : Table K V) (old new : Trees) → HoldsTable key value as_schema table R old entries → (e : K × V) → Fits key value e
        → PutsRow as_schema table old (columns_of key value e) new → HoldsTable key value as_schema table R new (put R e.0 e.1 entries)
    put_one entries old new holds e fits puts = (
      shaped_put as_schema table old new (columns_of key value e) holds.0 puts,
      put_in_table as_schema table R order.0 order.1 key value is_key is_value keyed old new e.0 e.1 fits.0 fits.1 holds.0 puts ∙ ap (put R e.0 e.1) holds.1,
    )

    put_each : (es : List (K × V)) (entries : Table K V) (old new : Trees) → HoldsTable key value as_schema table R old entries → AllByRecursion (Fits key value) es
        → PutsRows key value as_schema table es old new → HoldsTable key value as_schema table R new (put_all R es entries)
    put_each [] entries old new holds fits puts =
        (subst (IsShaped shape.Table) (sym puts) holds.0, ap (table_in R (stored_entry key value)) puts ∙ holds.1)
    put_each (e ∷ es) entries old new holds fits puts =
        put_each es (put R e.0 e.1 entries) puts.0 new (put_one entries old puts.0 holds e fits.0 puts.1) fits.1 puts.2

  pub replaces : PutsReplace key value
  replaces is_key is_value R order as_schema table keyed entries old new holds = (
    put_one is_key is_value R order as_schema table keyed entries old new holds,
    λ es fits puts. put_each is_key is_value R order as_schema table keyed es entries old new holds fits puts,
  )
