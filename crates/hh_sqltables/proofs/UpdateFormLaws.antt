-- What a statement makes of an schema that changes the row of a key, or writes it if there is none, for a table of any form.
use Rattle.std.proofs.Common.{◌≡◌, ℕ, suc, ℤ, List, [], ◌∷◌, ◌++◌, length, map, filter, drop, cond, Bool, true, false, not, ◌&&◌, Option, Some, Ok, Err, Result, OnOk, Equal, is_eq, inl, inr, refl, sym, ap, subst, ◌∙◌}
use Rattle.sqlite_schema.specs.declared.schema.Schema.{Schema}
use Rattle.std.specs.List.{flat_map, list_all}
use Rattle.std.specs.List.Sorted.{IsPermutation}
use Rattle.std.proofs.lemmas.Bool.{and_parts, cases_Bool, not-true, true≢false}
use Rattle.std.proofs.lemmas.Cmp.{tied_itself}
use Rattle.std.specs.FinMap.{put}
use Rattle.sqlite_value.specs.declared.value.Value.TheVariants.{Null, Int}
use Rattle.sqlite_value.specs.declared.keys.Collation.TheVariants.{Binary}
use Rattle.sqlite_value.specs.Keys.{plain}
use Rattle.sqlite_value.specs.Order.{Row, column, value_cmp}
use Rattle.sqlite_value.proofs.OrderLemmas.{value_cmp-Int, value_cmp_total}
use Rattle.sqlite_trees.specs.Tree.{Trees, has_rowid, put_row, rowid, without_rowid}
use Rattle.sqlite_trees.specs.View.{IsShaped, is_int}
use Rattle.sqlite_trees.specs.declared.store.Shape.TheVariants as shape
use Rattle.sqlite_trees.proofs.TreeLemmas.{IsShaped-filter, IsShaped-put_row}
use Rattle.sqlite_sql.specs.Query.{IsAnswer, Output, output}
use Rattle.sqlite_sql.specs.Program.{overlay}
use Rattle.sqlite_sql.specs.Term.{holds}
use Rattle.sqlite_schema.specs.Rules.{agree, clashes, equal}
use Rattle.sqlite_rules.specs.declared.error.Rowids.TheVariants.{Given}
use Rattle.sqlite_rules.specs.Calls.{ids_of}
use Rattle.sqlite_rules.specs.Cast.{cast_all, cast_row}
use Rattle.sqlite_rules.specs.Edit.{are_fresh, edit_of, edited, id_in, is_taken, left_by, put_all}
use Rattle.sqlite_rules.specs.Keys.{conflicts}
use Rattle.sqlite_rules.specs.Lists.{Has}
use Rattle.sqlite_rules.proofs.ListLemmas.{all_has, has_kept}
use Rattle.sqlite_rules.proofs.PlaceLemmas.{given, tied_same}
use Rattle.sqlite_rules.proofs.TableLemmas.{has_put, int_is}
use Rattle.sqlite.specs.Effect.{IsDatabase}
use Rattle.sqlite.specs.Rows.{shown}
use Rattle.sqlite.specs.State.{Executes, ExecutesInside, State}
use Rattle.sqlite.proofs.Callers.{one_permutation}
use Rattle.hh_keyed_rows.specs.Codecs.{places_from}
use Rattle.hh_keyed_rows.specs.KeyedRows.{stored_entry, table_in}
use Rattle.hh_keyed_rows.specs.Puts.{stored_in}
use Rattle.hh_keyed_rows.proofs.CodecLaws.{entry_written}
use Rattle.hh_keyed_rows.proofs.WriteLaws.{matches, matches_by, table_in-replaced}
use Rattle.hh_keyed_rows.proofs.PlaceLaws.{equal_ints, is_Equal}
use Rattle.hh_keyed_rows.proofs.PutLaws.{cast_int}
use Rattle.hh_keyed_rows.proofs.ReplaceLaws.{matched}
use Rattle.hh_keyed_rows.proofs.RuleLaws.{once}
use Rattle.hh_keyed_rows.proofs.SelectLaws.{map_map, selected}
use Rattle.hh_sqltables.proofs.FormLaws.{of_kinds, risen, shaped_rows, unique_rows}
use Rattle.hh_sqltables.proofs.InsertLaws.{insert_in_table, spares}
use Rattle.hh_sqltables.proofs.UpdateLaws.{AddsRow, ChangesRows, agree_lettered, front_columns, only_row, upsert_by}
use Rattle.hh_sqltables.specs.Forms.{IsOfficeOf, PutsIn, TableForm}
use Rattle.hh_sqltables.specs.Terms.{row_terms, update_by, update_program}
use Rattle.hh_sqltables.specs.Texts.{IsChangeableIn, IsFormIn, IsUpdate, columns_in, width_of}

-- the test of a form, by computing
pub and_true : (b : Bool) → (b && true) ≡ b
and_true true = refl
and_true false = refl

-- ---- the row that is changed

module _ (schema : Schema) {K V : Type 0} (form : TableForm K V) (is_form : IsFormIn schema form) (is_changeable : IsChangeableIn schema form) (k : K) (v : V) (fits_k : form.key.fits k ≡ true) (fits_v : form.value.fits v ≡ true)
    (old new : Trees) (shaped : IsShaped shape.Table (old form.table.tree))
    (changes : ChangesRows schema form.table (columns_in form k v) old new (places_from 1 form.key.width) (update_program form) (columns_in form k v)) where
  abbrev rows : List Row
  rows = old form.table.tree

  abbrev columns : Row
  columns = columns_in form k v

  abbrev entry : Row → Option (K × V)
  entry = stored_entry form.key form.value

  from : (r : Row) × Has rows r × (conflicts (Some (places_from 1 form.key.width)) schema.indexes form.table (stored_in rows columns) r ≡ true) × (changes.there ≡ rowid r ∷ [])
  from = changes.conflicts.sound changes.there (inl refl)

  abbrev n : ℤ
  n = id_in (rowid from.0)

  int_of : (r : Row) → Has rows r → rowid r ≡ Int (id_in (rowid r))
  int_of r h = int_is (rowid r) (let b : is_int (rowid r) ≡ true = all_has _ rows r shaped.1 h in b)

  -- a row with that rowid is the row that is changed
  told : (r : Row) → Has rows r → has_rowid n r ≡ true → r ≡ from.0
  told r h has = tied_same rows r from.0 shaped.0 h from.1 (ap (value_cmp (rowid r)) (int_of from.0 from.1) ∙ is_Equal _ has)

  itself : has_rowid n from.0 ≡ true
  itself = ap (λ i. is_eq (value_cmp i (Int n))) (int_of from.0 from.1) ∙ ap is_eq (tied_itself value_cmp_total (Int n))

  equal_rowid : (r : Row) → Has rows r → equal Binary (rowid r) (Int n) ≡ has_rowid n r
  equal_rowid r h =
      ap (λ i. equal Binary i (Int n)) (int_of r h) ∙ equal_ints (id_in (rowid r)) n ∙ ap is_eq (sym (value_cmp-Int (id_in (rowid r)) n))
      ∙ ap (λ i. is_eq (value_cmp i (Int n))) (sym (int_of r h))

  -- it has the key
  key_is : map (column from.0) (places_from 1 form.key.width) ≡ form.key.write k
  key_is =
      let agrees : agree plain (places_from 1 form.key.width) from.0 (places_from 1 form.key.width) (stored_in rows columns) ≡ true = sym (is_changeable.aimed from.0 (stored_in rows columns)) ∙ from.2 in
      let lengths : form.key.width ≡ length (form.key.write k) = sym (is_form.is_key.wide k) in
      ap (λ w. map (column from.0) (places_from 1 w)) lengths
      ∙ agree_lettered 1 (form.key.write k) from.0 (stored_in rows columns) (form.value.write v) refl (is_changeable.lettered k)
      (subst (λ w. agree plain (places_from 1 w) from.0 (places_from 1 w) (stored_in rows columns) ≡ true) lengths agrees)

  key_of : (q : K) → matches form.order is_form.total is_form.exact entry q from.0 ≡ true → q ≡ k
  key_of q at =
      let m = matched schema form.table form.order is_form.total is_form.exact form.key form.value is_form.is_key is_form.is_value is_form.indexed q from.0 at in
      let columns_are : drop 1 from.0 ≡ form.key.write m.2.0 ++ form.value.write m.2.1 = ap (drop 1) m.3 ∙ m.4 in
      let there = front_columns 1 (form.key.write m.2.0) from.0 (form.value.write m.2.1) columns_are in
      let written : form.key.write m.2.0 ≡ form.key.write k = sym there ∙ ap (λ w. map (column from.0) (places_from 1 w)) (is_form.is_key.wide m.2.0) ∙ key_is in
      m.5 ∙ is_form.is_key.apart m.2.0 k written

  -- ---- what the query selects

  abbrev tail : Row
  tail = shown form.table (stored_in rows columns)

  abbrev full : Row
  full = columns ++ rowid changes.there ∷ tail

  abbrev test : Row → Bool
  test r = list_all (holds (full ∷ r ∷ [])) (update_by form).filter

  there_is : rowid changes.there ≡ Int n
  there_is = ap rowid from.3 ∙ int_of from.0 from.1

  test_is : (r : Row) → Has rows r → test r ≡ has_rowid n r
  test_is r h = is_changeable.tests k v (rowid changes.there) tail r ∙ ap (equal Binary (rowid r)) there_is ∙ equal_rowid r h

  picked_rows : filter test rows ≡ from.0 ∷ []
  picked_rows = only_row test rows from.0 shaped.0 (λ s h is. told s h (sym (test_is s h) ∙ is)) (test_is from.0 from.1 ∙ itself) from.1

  picked_is : changes.picked ≡ (Int n ∷ Int n ∷ columns) ∷ []
  picked_is =
      let a : IsAnswer (update_by form) (overlay old []) full changes.picked = changes.answers.answer Null in
      let out : Row → Output = λ r. output (update_by form) (full ∷ r ∷ []) in
      let staged : a.staged ≡ map (λ r. full ∷ r ∷ []) (filter test rows) = a.grouped ∙ ap (λ (rs : List Row). flat_map (λ r. cond (test r) ((full ∷ r ∷ []) ∷ []) []) rs) (is_form.own old) ∙ selected test (λ r. full ∷ r ∷ []) rows in
      let kept : a.kept ≡ map out (filter test rows) = a.distinct ∙ ap (map (output (update_by form))) staged ∙ map_map (output (update_by form)) (λ r. full ∷ r ∷ []) (filter test rows) in
      let one : a.kept ≡ out from.0 ∷ [] = kept ∙ ap (map out) picked_rows in
      let ordered : a.ordered ≡ out from.0 ∷ [] = one_permutation (out from.0) a.ordered (subst (λ (l : List Output). IsPermutation l a.ordered) one a.same) in
      let is : out from.0 ≡ ([], Int n ∷ Int n ∷ columns) =
      is_changeable.outputs k v (rowid changes.there ∷ tail) from.0
      ∙ (λ i. ([], int_of from.0 from.1 i ∷ int_of from.0 from.1 i ∷ (key_is i ++ form.value.write v))) in
      a.shown ∙ ap (map (λ (o : Output). o.1)) (ordered ∙ ap (λ (o : Output). o ∷ []) is)

  -- ---- what it makes of the rows

  abbrev row : Row
  row = Int n ∷ columns

  cast_is : cast_row form.table row ≡ row
  cast_is = ap (λ i. i ∷ cast_all form.table.columns columns) (cast_int n) ∙ ap (λ vs. Int n ∷ vs) (of_kinds _ _ (is_form.kinds k v))

  news_are : (edit_of old form.table (n ∷ []) Given 1 ((Int n ∷ row) ∷ [])).news ≡ row ∷ []
  news_are = given (without_rowid n rows) _ ∙ ap (λ r. r ∷ []) cast_is

  rows_are : new form.table.tree ≡ put_row row (without_rowid n rows)
  rows_are =
      subst (λ (p : List Row). new form.table.tree ≡ edited old (edit_of old form.table (ids_of p) Given 1 p)) picked_is changes.rows
      ∙ ap (put_all (without_rowid n rows)) news_are

  free : is_taken (without_rowid n rows) row ≡ false
  free =
      let fresh : are_fresh (without_rowid n rows) (edit_of old form.table (n ∷ []) Given 1 ((Int n ∷ row) ∷ [])).news ≡ true =
      subst (λ (p : List Row). are_fresh (left_by old (edit_of old form.table (ids_of p) Given 1 p)) (edit_of old form.table (ids_of p) Given 1 p).news ≡ true) picked_is changes.fresh in
      not-true _ (and_parts _ _ (sym (ap (are_fresh (without_rowid n rows)) news_are) ∙ fresh)).0

  pub shaped_changed : IsShaped shape.Table (new form.table.tree)
  shaped_changed = subst (IsShaped shape.Table) (sym rows_are) (IsShaped-put_row row (without_rowid n rows) refl (IsShaped-filter shape.Table (λ r. not (has_rowid n r)) rows shaped))

  pub table_in-changed : ((r : Row) → Has (new form.table.tree) r → clashes plain (places_from 1 form.key.width) (new form.table.tree) r ≡ false)
      → table_in form.order entry (new form.table.tree) ≡ put form.order k v (table_in form.order entry rows)
  table_in-changed unique =
      ap (table_in form.order entry) rows_are ∙ table_in-replaced form.order is_form.total is_form.exact entry rows row k v is (n ∷ []) free sound complete
    where
      is : entry row ≡ Some (k, v)
      is = entry_written form.key form.value is_form.is_key is_form.is_value (Int n) k v fits_k fits_v

      sound : (r : Row) (id : ℤ) → Has rows r → Has (n ∷ []) id → has_rowid id r ≡ true → (q : K) → matches form.order is_form.total is_form.exact entry q r ≡ true → q ≡ k
      sound r id h (inl same) has q at =
          let it : r ≡ from.0 = told r h (subst (λ i. has_rowid i r ≡ true) same has) in
          key_of q (subst (λ r. matches form.order is_form.total is_form.exact entry q r ≡ true) it at)
      sound r id h (inr none) has q at = absurd none

      here : matches form.order is_form.total is_form.exact entry k row ≡ true
      here = ap (matches_by form.order is_form.total is_form.exact entry k) is ∙ ap is_eq (tied_itself is_form.total k)

      complete : (r : Row) → Has rows r → matches form.order is_form.total is_form.exact entry k r ≡ true → (id : ℤ) × Has (n ∷ []) id × (has_rowid id r ≡ true)
      complete r h at = elim (cases_Bool (has_rowid n r)) [
        | inl has ↦ (n, inl refl, has)
        | inr apart ↦
            let untied : value_cmp (rowid r) (Int n) ≡ Equal → ⊥ = λ tie. true≢false (sym (ap is_eq tie) ∙ apart) in
            let stays : Has (put_row row (without_rowid n rows)) r = spares row (without_rowid n rows) r (has_kept (λ s. not (has_rowid n s)) rows r h (ap not apart)) untied in
            let added : Has (put_row row (without_rowid n rows)) row = has_put row (without_rowid n rows) in
            let there : Has (new form.table.tree) r = subst (λ (rs : List Row). Has rs r) (sym rows_are) stays in
            let there_too : Has (new form.table.tree) row = subst (λ (rs : List Row). Has rs row) (sym rows_are) added in
            absurd (untied (once schema form.table form.order is_form.total is_form.exact form.key form.value is_form.is_key is_form.is_value is_form.indexed (new form.table.tree) shaped_changed unique r row there there_too k at here))
      ]

-- ---- the statement

module _ (schema : Schema) {K V : Type 0} (form : TableForm K V) (is_form : IsFormIn schema form) (is_changeable : IsChangeableIn schema form) (k : K) (v : V) (fits_k : form.key.fits k ≡ true) (fits_v : form.value.fits v ≡ true) (old new : State) (is : IsOfficeOf schema old.now) (sql : List ℕ) where
  added : new.now.schema ≡ schema → IsDatabase new.now → AddsRow schema form.table (columns_in form k v) old.now.trees new.now.trees → PutsIn schema form k v old.now new.now
  added schema_is sound adds =
      let shaped = shaped_rows schema form is_form old.now is in
      let office_is : IsOfficeOf schema new.now = record {
        schema = schema_is;
        sound = sound;
        rising = risen schema.tables form.table.tree old.now.trees new.now.trees is.rising (subst (IsShaped shape.Table) (sym adds.rows) (IsShaped-put_row _ _ refl shaped)) adds.others;
      } in
      let unique = subst (λ (rows : List Row). (r : Row) → Has rows r → clashes plain (places_from 1 form.key.width) rows r ≡ false) adds.rows (unique_rows schema form is_form new.now office_is) in
      record {
        is_office = office_is;
        rows = ap (table_in form.order (stored_entry form.key form.value)) adds.rows ∙ insert_in_table schema form.table form.order is_form.total is_form.exact form.key form.value is_form.is_key is_form.is_value is_form.indexed (old.now.trees form.table.tree) k v fits_k fits_v shaped unique;
        others = adds.others;
      }

  changed : new.now.schema ≡ schema → IsDatabase new.now → ChangesRows schema form.table (columns_in form k v) old.now.trees new.now.trees (places_from 1 form.key.width) (update_program form) (columns_in form k v)
      → PutsIn schema form k v old.now new.now
  changed schema_is sound changes =
      let shaped = shaped_rows schema form is_form old.now is in
      let office_is : IsOfficeOf schema new.now = record {
        schema = schema_is;
        sound = sound;
        rising = risen schema.tables form.table.tree old.now.trees new.now.trees is.rising (shaped_changed schema form is_form is_changeable k v fits_k fits_v old.now.trees new.now.trees shaped changes) changes.others;
      } in
      record {
        is_office = office_is;
        rows = table_in-changed schema form is_form is_changeable k v fits_k fits_v old.now.trees new.now.trees shaped changes (unique_rows schema form is_form new.now office_is);
        others = changes.others;
      }

  updates : IsUpdate schema form sql → (count : ℕ) → Executes sql (columns_in form k v) old new (Ok count) → PutsIn schema form k v old.now new.now
  updates text count h =
      let w = columns_in form k v in
      let it = upsert_by schema form.at form.table is_form.listed is_form.uncounted is_form.free (row_terms (width_of form)) (suc (width_of form)) (places_from 1 form.key.width) (update_program form) sql text.0 text.1 w w (is_form.values k v) (of_kinds _ _ (is_form.kinds k v)) old new count is.schema h in
      elim it.left [ inl adds ↦ added it.schema_is it.sound adds | inr changes ↦ changed it.schema_is it.sound changes ]

-- the values fit if the statement is executed
module _ (schema : Schema) {K V : Type 0} (form : TableForm K V) (is_form : IsFormIn schema form) (is_changeable : IsChangeableIn schema form) (k : K) (v : V) (old new : State) (is : IsOfficeOf schema old.now) (sql : List ℕ) where
  pub updates_by : {E : Type 0} → IsUpdate schema form sql → (r : Result Unit E) → OnOk r ((form.key.fits k ≡ true) × (form.value.fits v ≡ true)) → OnOk r ((count : ℕ) × ExecutesInside 0 sql (columns_in form k v) old new (Ok count))
      → OnOk r (PutsIn schema form k v old.now new.now)
  updates_by text (Ok done) fits h = updates schema form is_form is_changeable k v fits.0 fits.1 old new is sql text h.0 h.1.0
  updates_by text (Err e) fits h = tt
