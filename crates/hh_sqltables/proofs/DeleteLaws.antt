-- What a statement that removes rows from one table makes of an schema, for a table of any form.
use Rattle.std.proofs.Common.{◌≡◌, ◌≢◌, ℕ, ℤ, List, [], ◌∷◌, map, filter, cond, slice_get, Bool, true, false, not, ◌&&◌, ◌||◌, Option, Some, None, Ok, Err, Result, OnOk, Ordering, Equal, is_eq, inl, inr, refl, sym, ap, subst, ◌∙◌}
use Rattle.std.specs.Prelude.{filter_map}
use Rattle.std.specs.List.{AllByRecursion, cons_option, flat_map, list_all, list_any}
use Rattle.std.specs.Cmp.{IsTotalOrder}
use Rattle.std.specs.FinMap.{find}
use Rattle.std.specs.FinMap.Entries.{same_entries}
use Rattle.std.proofs.lemmas.Cmp.{tied_itself}
use Rattle.std.proofs.lemmas.List.Sorted.{IsPermutation-sym}
use Rattle.std.proofs.lemmas.Map.Lookups.{CmpEqualImpliesEq}
use Rattle.sqlite_value.specs.declared.value.Value.{Value}
use Rattle.sqlite_value.specs.declared.value.Value.TheVariants.{Null, Int}
use Rattle.sqlite_value.specs.Order.{Row, value_cmp}
use Rattle.sqlite_value.proofs.OrderLemmas.{value_cmp_total}
use Rattle.sqlite_trees.specs.Tree.{Trees, has_rowid, rowid, without_rowid}
use Rattle.sqlite_trees.specs.View.{IsShaped, is_int}
use Rattle.sqlite_trees.specs.declared.store.Shape.TheVariants as shape
use Rattle.sqlite_trees.proofs.TreeLemmas.{IsShaped-filter}
use Rattle.sqlite_sql.specs.Program.{overlay}
use Rattle.sqlite_sql.specs.Query.{IsAnswer, Output, Query, output}
use Rattle.sqlite_sql.specs.Term.{holds}
use Rattle.sqlite_schema.specs.declared.schema.Keys.TheVariants.{Enforced}
use Rattle.sqlite_schema.specs.declared.schema.Schema.{Schema}
use Rattle.sqlite_schema.specs.declared.schema.Table.{Table}
use Rattle.sqlite_schema.specs.declared.program.Program.{Program}
use Rattle.sqlite_schema.specs.declared.command.Command.TheVariants.{Delete}
use Rattle.sqlite_rules.specs.declared.error.Rowids.TheVariants.{Given}
use Rattle.sqlite_rules.specs.Action.{works}
use Rattle.sqlite_rules.specs.Calls.{ids_of}
use Rattle.sqlite_rules.specs.Edit.{edit_of, id_in, taken_by, without_all}
use Rattle.sqlite_rules.specs.Lists.{Has}
use Rattle.sqlite_rules.proofs.ListLemmas.{all_has, has_filtered, has_kept, some_from, some_has}
use Rattle.sqlite_rules.proofs.PlaceLemmas.{tied_same}
use Rattle.sqlite_rules.proofs.ProbeLemmas.{has_mapped, mapped_has}
use Rattle.sqlite_rules.proofs.TableLemmas.{int_is}
use Rattle.sqlite.specs.declared.run.Mode.{Mode}
use Rattle.sqlite.specs.Effect.{Answers, Database, IsDatabase}
use Rattle.sqlite.specs.Rows.{Deletes, Task, Written}
use Rattle.sqlite.specs.Does.{AtPlace, Does, OnRows, Tally}
use Rattle.sqlite.specs.State.{Executes, ExecutesInside, State}
use Rattle.sqlite.specs.Listing.{understood}
use Rattle.sqlite.proofs.Callers.{IsPlain, command_of, one_step, runs_as, statement_of}
use Rattle.hh_tables.proofs.RowLaws.{sorted-filter}
use Rattle.hh_tables.proofs.TableLaws.{find-in_key_order, is_sorted-in_key_order}
use Rattle.hh_tables.specs.Tables.{in_key_order}
use Rattle.hh_keyed_rows.specs.KeyedRows.{stored_entry, table_in}
use Rattle.hh_keyed_rows.proofs.CodecLaws.{entry_only, none_is_not_some}
use Rattle.hh_keyed_rows.proofs.PlaceLaws.{is_Equal}
use Rattle.hh_keyed_rows.proofs.PutLaws.{same_value, went}
use Rattle.hh_keyed_rows.proofs.SelectLaws.{has_permuted, map_map, selected}
use Rattle.hh_sqltables.proofs.FormLaws.{risen, shaped_rows}
use Rattle.hh_sqltables.proofs.WhereLaws.{same_test}
use Rattle.hh_sqltables.specs.Forms.{IsOfficeOf, RemovesIn, TableForm}
use Rattle.hh_sqltables.specs.Terms.{delete_by, delete_program}
use Rattle.hh_sqltables.specs.Texts.{IsDelete, IsFormIn, columns_in}

-- ---- what the statement makes of the trees

-- the rows that the query selects are removed, and each other table is as it was
pub record TakesRows (schema : Schema) (table : Table) (q : Program) (params : Row) (old new : Trees) : Type 0 where
  pub picked : List Row
  pub answers : Answers (record { schema = schema; trees = old }) q params picked
  pub rows : new table.tree ≡ without_all (old table.tree) (ids_of picked)
  pub others : AllByRecursion (λ t. t.tree ≢ table.tree → new t.tree ≡ old t.tree) schema.tables

takes : (task : Task) → ((olds news : List Row) → works task.schema task.keys 0 task.table.tree olds news ≡ []) → (q : Program) (old : Trees) (w : Written) → Deletes task q old (Ok w)
    → TakesRows task.schema task.table q task.params old w.trees
takes task free q old w h =
    let queried = went h in
    let edit = edit_of old task.table (ids_of queried.0) Given 0 [] in
    let done = went queried.2 in
    let it = one_step task.schema task.keys old done.0 edit (free (taken_by old edit) edit.news) done.1 in
    let trees : w.trees ≡ done.0 = ap (λ (x : Written). x.trees) (same_value done.2) in
    subst (TakesRows task.schema task.table q task.params old) (sym trees) (record { picked = queried.0; answers = queried.1; rows = it.rows; others = it.tables })

-- ---- as a statement

pub record DeletesRows (schema : Schema) (table : Table) (q : Program) (params : Row) (old new : Database) : Type 0 where
  pub schema_is : new.schema ≡ schema
  pub taken : TakesRows schema table q params old.trees new.trees
  pub sound : IsDatabase new

module _ (schema : Schema) (at : ℕ) (table : Table) (listed : slice_get schema.tables at ≡ Some table)
    (free : (olds news : List Row) → works schema Enforced 0 table.tree olds news ≡ []) (q : Program) (sql : List ℕ)
    (is : command_of (understood schema sql) ≡ Delete at q) (plain : IsPlain (understood schema sql)) (params : Row) where
  done_by : (limit : Option ℕ) (text : List ℕ) (db : Database) (tally : Tally) (after : Database) → db.schema ≡ schema → IsDatabase after
      → Does limit (record { keys = Enforced; in_doubt = false; may_wait = false }) params db text None (Delete at q) (Ok (tally, after))
      → DeletesRows schema table q params db after
  done_by limit text db tally after has sound h =
      let mode : Mode = record { keys = Enforced; in_doubt = false; may_wait = false } in
      let task : Task = record { limit = limit; keys = Enforced; schema = schema; table = table; params = params } in
      let known = subst (λ s. Does limit mode params (record { schema = s; trees = db.trees }) text None (Delete at q) (Ok (tally, after))) has h in
      let on : OnRows task mode None (Delete at q) db.trees (Ok (tally, after)) = subst (λ o. AtPlace (λ t. OnRows (record { limit = limit; keys = Enforced; schema = schema; table = t; params = params }) mode None (Delete at q) db.trees) o (Ok (tally, after))) listed known in
      let done = went on in
      let now = ap (λ (p : Tally × Database). p.1) (same_value (went (went done.2).2).2) in
      record {
        schema_is = ap (λ (d : Database). d.schema) now;
        taken = subst (λ (d : Database). TakesRows schema table q params db.trees d.trees) (sym now) (takes task free q db.trees done.0 done.1);
        sound = sound;
      }

  delete_rows : (old new : State) (count : ℕ) → old.now.schema ≡ schema → Executes sql params old new (Ok count) → DeletesRows schema table q params old.now new.now
  delete_rows old new count has h =
      let w = runs_as sql params old new schema has (Delete at q) is plain count h in
      done_by old.step_limit (statement_of sql (understood schema sql)) old.now w.tally new.now has w.sound w.changed

-- ---- the rows that are left

-- two tests that agree on the items of a list keep the same items
filter_same : {X : Type 0} (p q : X → Bool) (xs : List X) → ((x : X) → Has xs x → p x ≡ q x) → filter p xs ≡ filter q xs
filter_same p q [] same = refl
filter_same p q (x ∷ xs) same =
    let rest = filter_same p q xs (λ y h. same y (inr h)) in
    let here = same x (inl refl) in
    λ i. cond (here i) (x ∷ rest i) (rest i)

filter_twice : {X : Type 0} (p q : X → Bool) (xs : List X) → filter p (filter q xs) ≡ filter (λ x. q x && p x) xs
filter_twice p q [] = refl
filter_twice p q (x ∷ xs) = go (q x) (filter_twice p q xs)
  where
    go : (b : Bool) → filter p (filter q xs) ≡ filter (λ x. q x && p x) xs
        → filter p (cond b (x ∷ filter q xs) (filter q xs)) ≡ cond (b && p x) (x ∷ filter (λ x. q x && p x) xs) (filter (λ x. q x && p x) xs)
    go true more = ap (λ ys. cond (p x) (x ∷ ys) ys) more
    go false more = more

-- rows without those that have some rowids
lost_rows : (ids : List ℤ) (rows : List Row) → without_all rows ids ≡ filter (λ r. not (list_any (λ id. has_rowid id r) ids)) rows
lost_rows [] rows = all_kept rows
  where
    all_kept : (rows : List Row) → rows ≡ filter (λ _. true) rows
    all_kept [] = refl
    all_kept (r ∷ rows) = ap (λ rs. r ∷ rs) (all_kept rows)
lost_rows (id ∷ ids) rows =
    lost_rows ids (without_rowid id rows) ∙ filter_twice (λ r. not (list_any (λ id. has_rowid id r) ids)) (λ r. not (has_rowid id r)) rows
    ∙ filter_same _ _ rows (λ r h. neither (has_rowid id r) (list_any (λ id. has_rowid id r) ids))
  where
    neither : (a b : Bool) → (not a && not b) ≡ not (a || b)
    neither true b = refl
    neither false b = refl

-- ---- a table without some of its keys

module _ {K V : Type 0} (R : K → K → Ordering) (total : IsTotalOrder R) (exact : CmpEqualImpliesEq R) (p : K → Bool) where
  find-filter : (es : List (K × V)) (q : K) → find R q (filter (λ e. p e.0) es) ≡ cond (p q) (find R q es) None
  find-filter [] q = none (p q)
    where
      none : (b : Bool) → ◌≡◌ {A = Option V} None (cond b None None)
      none true = refl
      none false = refl
  find-filter (e ∷ es) q = go (p e.0) refl (is_eq (R q e.0)) refl (find-filter es q)
    where
      same : is_eq (R q e.0) ≡ true → p q ≡ p e.0
      same h = ap p (exact q e.0 (is_Equal _ h))

      go : (b : Bool) → p e.0 ≡ b → (t : Bool) → is_eq (R q e.0) ≡ t → find R q (filter (λ e. p e.0) es) ≡ cond (p q) (find R q es) None
          → find R q (cond b (e ∷ filter (λ e. p e.0) es) (filter (λ e. p e.0) es)) ≡ cond (p q) (cond (is_eq (R q e.0)) (Some e.1) (find R q es)) None
      go true at true tie more =
          ap (λ t. cond t (Some e.1) (find R q (filter (λ e. p e.0) es))) tie
          ∙ sym (ap (λ b. cond b (cond (is_eq (R q e.0)) (Some e.1) (find R q es)) None) (same tie ∙ at) ∙ ap (λ t. cond t (Some e.1) (find R q es)) tie)
      go true at false tie more =
          ap (λ t. cond t (Some e.1) (find R q (filter (λ e. p e.0) es))) tie ∙ more
          ∙ sym (ap (λ t. cond (p q) (cond t (Some e.1) (find R q es)) None) tie)
      go false at true tie more =
          more ∙ ap (λ b. cond b (find R q es) None) (same tie ∙ at)
          ∙ sym (ap (λ b. cond b (cond (is_eq (R q e.0)) (Some e.1) (find R q es)) None) (same tie ∙ at))
      go false at false tie more = more ∙ sym (ap (λ t. cond (p q) (cond t (Some e.1) (find R q es)) None) tie)

  ordered-filter : (es : List (K × V)) → in_key_order R (filter (λ e. p e.0) es) ≡ filter (λ e. p e.0) (in_key_order R es)
  ordered-filter es =
      same_entries R total exact _ _ (is_sorted-in_key_order total (filter (λ e. p e.0) es)) (sorted-filter R (λ e. p e.0) (in_key_order R es) (is_sorted-in_key_order total es))
      (λ q. find-in_key_order total (filter (λ e. p e.0) es) q ∙ find-filter es q ∙ sym (find-filter (in_key_order R es) q ∙ ap (λ o. cond (p q) o None) (find-in_key_order total es q)))

-- the entries of the rows that pass a test are those whose keys pass it
entries-filter : {E : Type 0} (entry : Row → Option E) (test : Row → Bool) (p : E → Bool) (rows : List Row) → ((r : Row) (e : E) → entry r ≡ Some e → test r ≡ p e)
    → filter_map entry (filter test rows) ≡ filter p (filter_map entry rows)
entries-filter entry test p [] each = refl
entries-filter {E} entry test p (r ∷ rows) each = go (test r) refl (entry r) refl (entries-filter entry test p rows each)
  where
    go : (b : Bool) → test r ≡ b → (o : Option E) → entry r ≡ o → filter_map entry (filter test rows) ≡ filter p (filter_map entry rows)
        → filter_map entry (cond b (r ∷ filter test rows) (filter test rows)) ≡ filter p (cons_option o (filter_map entry rows))
    go true at None is more = ap (λ o. cons_option o (filter_map entry (filter test rows))) is ∙ more
    go true at (Some e) is more =
        ap (λ o. cons_option o (filter_map entry (filter test rows))) is ∙ ap (λ es. e ∷ es) more
        ∙ sym (ap (λ b. cond b (e ∷ filter p (filter_map entry rows)) (filter p (filter_map entry rows))) (sym (each r e is) ∙ at))
    go false at None is more = more
    go false at (Some e) is more = more ∙ sym (ap (λ b. cond b (e ∷ filter p (filter_map entry rows)) (filter p (filter_map entry rows))) (sym (each r e is) ∙ at))

-- ---- the rows that the query selects

module _ (schema : Schema) {K V : Type 0} (form : TableForm K V) (is_form : IsFormIn schema form) (places : List ℕ) (params : Row) (old new : Trees) (shaped : IsShaped shape.Table (old form.table.tree))
    (taken : TakesRows schema form.table (delete_program form places) params old new) where
  abbrev query : Query
  query = delete_by form places

  abbrev rows : List Row
  rows = old form.table.tree

  abbrev test : Row → Bool
  test r = list_all (holds (params ∷ r ∷ [])) query.filter

  abbrev out : Row → Output
  out r = ([], rowid r ∷ [])

  answer : IsAnswer query (overlay old []) params taken.picked
  answer = taken.answers.answer Null

  kept_is : answer.kept ≡ map out (filter test rows)
  kept_is =
      let staged : answer.staged ≡ map (λ r. params ∷ r ∷ []) (filter test rows) = answer.grouped ∙ ap (λ (rs : List Row). flat_map (λ r. cond (test r) ((params ∷ r ∷ []) ∷ []) []) rs) (is_form.own old) ∙ selected test (λ r. params ∷ r ∷ []) rows in
      answer.distinct ∙ ap (map (output query)) staged ∙ map_map (output query) (λ r. params ∷ r ∷ []) (filter test rows)

  picked_is : taken.picked ≡ map (λ (o : Output). o.1) answer.ordered
  picked_is = answer.shown

  int_of : (r : Row) → Has rows r → rowid r ≡ Int (id_in (rowid r))
  int_of r h = int_is (rowid r) (let b : is_int (rowid r) ≡ true = all_has _ rows r shaped.1 h in b)

  -- a row whose rowid is selected passes the test
  sound : (r : Row) → Has rows r → list_any (λ id. has_rowid id r) (ids_of taken.picked) ≡ true → test r ≡ true
  sound r h lost =
      let some = some_has (λ id. has_rowid id r) (ids_of taken.picked) lost in
      let from = has_mapped (λ (x : Row). id_in (rowid x)) taken.picked some.0 some.1 in
      let shown = has_mapped (λ (o : Output). o.1) answer.ordered from.0 (subst (λ (l : List Row). Has l from.0) picked_is from.1) in
      let there : Has (map out (filter test rows)) shown.0 = subst (λ (l : List Output). Has l shown.0) kept_is (has_permuted answer.kept answer.ordered shown.0 answer.same shown.1) in
      let source = has_mapped out (filter test rows) shown.0 there in
      let passed = has_filtered test rows source.0 source.1 in
      let id_is : some.0 ≡ id_in (rowid source.0) = from.2 ∙ ap (λ (x : Row). id_in (rowid x)) (shown.2 ∙ ap (λ (o : Output). o.1) source.2) in
      let tie : value_cmp (rowid r) (rowid source.0) ≡ Equal =
      ap (value_cmp (rowid r)) (int_of source.0 passed.0 ∙ ap Int (sym id_is)) ∙ is_Equal _ some.2 in
      ap test (tied_same rows r source.0 shaped.0 h passed.0 tie) ∙ passed.1

  -- the rowid of a row that passes the test is selected
  complete : (r : Row) → Has rows r → test r ≡ true → list_any (λ id. has_rowid id r) (ids_of taken.picked) ≡ true
  complete r h passes =
      let kept : Has answer.kept (out r) = subst (λ (l : List Output). Has l (out r)) (sym kept_is) (mapped_has out (filter test rows) r (has_kept test rows r h passes)) in
      let ordered : Has answer.ordered (out r) = has_permuted answer.ordered answer.kept (out r) (IsPermutation-sym _ _ answer.same) kept in
      let picked : Has taken.picked (rowid r ∷ []) = subst (λ (l : List Row). Has l (rowid r ∷ [])) (sym picked_is) (mapped_has (λ (o : Output). o.1) answer.ordered (out r) ordered) in
      let id : Has (ids_of taken.picked) (id_in (rowid r)) = mapped_has (λ (x : Row). id_in (rowid x)) taken.picked (rowid r ∷ []) picked in
      let itself : has_rowid (id_in (rowid r)) r ≡ true = ap (λ i. is_eq (value_cmp i (Int (id_in (rowid r))))) (int_of r h) ∙ ap is_eq (tied_itself value_cmp_total (Int (id_in (rowid r)))) in
      some_from (λ id. has_rowid id r) (ids_of taken.picked) (id_in (rowid r)) id itself

  left_is : new form.table.tree ≡ filter (λ r. not (test r)) rows
  left_is = taken.rows ∙ lost_rows (ids_of taken.picked) rows ∙ filter_same _ _ rows (λ r h. ap not (same_test _ _ (sound r h) (complete r h)))

  shaped_left : IsShaped shape.Table (new form.table.tree)
  shaped_left = subst (IsShaped shape.Table) (sym left_is) (IsShaped-filter shape.Table (λ r. not (test r)) rows shaped)

  module _ (p : K → Bool) (tested : (id : Value) (k : K) (v : V) → list_all (holds (params ∷ (id ∷ columns_in form k v) ∷ [])) (delete_by form places).filter ≡ p k) where
    abbrev entry : Row → Option (K × V)
    entry = stored_entry form.key form.value

    tested_row : (r : Row) (e : K × V) → entry r ≡ Some e → test r ≡ p e.0
    tested_row [] e is = absurd (none_is_not_some is)
    tested_row (id ∷ columns) e is = ap (λ cs. test (id ∷ cs)) (entry_only form.key form.value is_form.is_key is_form.is_value id columns e is) ∙ tested id e.0 e.1

    table_in-left : table_in form.order entry (new form.table.tree) ≡ filter (λ e. not (p e.0)) (table_in form.order entry rows)
    table_in-left =
        ap (table_in form.order entry) left_is
        ∙ ap (in_key_order form.order) (entries-filter entry (λ r. not (test r)) (λ e. not (p e.0)) rows (λ r e is. ap not (tested_row r e is)))
        ∙ ordered-filter form.order is_form.total is_form.exact (λ k. not (p k)) (filter_map entry rows)

-- ---- the statement

module _ (schema : Schema) {K V : Type 0} (form : TableForm K V) (is_form : IsFormIn schema form) (places : List ℕ) (sql : List ℕ) (text : IsDelete schema form sql places) (params : Row) (p : K → Bool)
    (tested : (id : Value) (k : K) (v : V) → list_all (holds (params ∷ (id ∷ columns_in form k v) ∷ [])) (delete_by form places).filter ≡ p k) (old new : State) (is : IsOfficeOf schema old.now) where
  removes : (count : ℕ) → Executes sql params old new (Ok count) → RemovesIn schema form p old.now new.now
  removes count h =
      let it = delete_rows schema form.at form.table is_form.listed is_form.free (delete_program form places) sql text.0 text.1 params old new count is.schema h in
      let shaped = shaped_rows schema form is_form old.now is in
      record {
        is_office = record {
          schema = it.schema_is;
          sound = it.sound;
          rising = risen schema.tables form.table.tree old.now.trees new.now.trees is.rising (shaped_left schema form is_form places params old.now.trees new.now.trees shaped it.taken) it.taken.others;
        };
        rows = table_in-left schema form is_form places params old.now.trees new.now.trees shaped it.taken p tested;
        others = it.taken.others;
      }

  pub removes_by : {E : Type 0} → (r : Result Unit E) → OnOk r ((count : ℕ) × ExecutesInside 0 sql params old new (Ok count)) → OnOk r (RemovesIn schema form p old.now new.now)
  removes_by (Ok done) h = removes h.0 h.1.0
  removes_by (Err e) h = tt
