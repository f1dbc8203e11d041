-- The rows of the tables of an office's database are in the order of their keys.
use Rattle.std.specs.Prelude.{filter_map, T}
use Rattle.std.specs.Cmp.{IsTotalOrder}
use Rattle.std.specs.FinMap.{is_sorted}
use Rattle.sqlite_trees.specs.Tree.{Trees}
use Rattle.hh_tables.proofs.TableLaws.{is_sorted-in_key_order}
use Rattle.hh_sqlrows.specs.KeyedRows.{stored_entry}
use Rattle.hh_sqlrows.specs.Forms.{TableForm, rows_under_keys}

pub rows_rise : {K V : Type 0} (form : TableForm K V) → IsTotalOrder form.order → (trees : Trees) → T (is_sorted form.order (rows_under_keys form trees))
rows_rise form o trees = is_sorted-in_key_order o (filter_map (stored_entry form.key form.value) (trees form.table.tree))
