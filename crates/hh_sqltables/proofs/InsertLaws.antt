-- INSERT of rows into a table with no reference and no AUTOINCREMENT.
use Rattle.std.proofs.Common.{◌≡◌, ◌≢◌, inl, inr, ℕ, ℤ, List, [], ◌∷◌, ◌++◌, slice_get, length, map, drop, Bool, ◌&&◌, true, false, None, Some, Option, Ok, Ordering, Less, Equal, Greater, is_eq, refl, sym, ap, subst, ◌∙◌, ◌/◌}
use Rattle.std.specs.List.{AllByRecursion, list_any}
use Rattle.std.specs.Cmp.{IsTotalOrder}
use Rattle.std.specs.FinMap.{put}
use Rattle.std.proofs.lemmas.Bool.{false_from_ne_true, true≢false}
use Rattle.std.proofs.lemmas.Cmp.{tied_itself}
use Rattle.std.proofs.lemmas.Map.Lookups.{CmpEqualImpliesEq}
use Rattle.sqlite_value.specs.declared.value.Value.TheVariants.{Int}
use Rattle.sqlite_value.specs.Keys.{plain}
use Rattle.sqlite_value.specs.Order.{Row, value_cmp}
use Rattle.sqlite_trees.specs.Tree.{Trees, rowid, has_rowid, put_row}
use Rattle.sqlite_trees.specs.View.{IsShaped}
use Rattle.sqlite_trees.specs.declared.store.Shape.TheVariants as shape
use Rattle.sqlite_trees.proofs.TreeLemmas.{IsShaped-put_row}
use Rattle.sqlite_sql.specs.Term.{Term}
use Rattle.sqlite_schema.specs.Rules.{agree, clashes, differ}
use Rattle.sqlite_schema.specs.declared.schema.Schema.{Schema}
use Rattle.sqlite_schema.specs.declared.schema.Table.{Table}
use Rattle.sqlite_schema.specs.declared.schema.Keys.TheVariants.{Enforced}
use Rattle.sqlite_schema.specs.declared.command.Source.TheVariants.{Values}
use Rattle.sqlite_schema.specs.declared.command.Command.TheVariants.{Insert}
use Rattle.sqlite_rules.specs.declared.error.Rowids.TheVariants.{Chosen, Above}
use Rattle.sqlite_rules.specs.Action.{works}
use Rattle.sqlite_rules.specs.Cast.{cast_all, cast_row}
use Rattle.sqlite_rules.specs.Keys.{shares}
use Rattle.sqlite_rules.specs.Lists.{Has}
use Rattle.sqlite_rules.specs.Edit.{Edit, edit_of, next_rowid, numbered, is_taken, taken_by, put_all}
use Rattle.sqlite_rules.proofs.ListLemmas.{some_from, some_has}
use Rattle.sqlite_rules.proofs.TableLemmas.{has_put}
use Rattle.sqlite_rules.proofs.PlaceLemmas.{next_is_free}
use Rattle.sqlite.specs.Rows.{Written, Task, stamped, rowids_for, count_of, Inserts, Counts}
use Rattle.sqlite.specs.Does.{Tally, OnRows, Does, AtPlace}
use Rattle.sqlite.specs.State.{State, Executes}
use Rattle.sqlite.specs.Listing.{understood}
use Rattle.sqlite.specs.declared.run.Mode.{Mode}
use Rattle.sqlite.specs.Effect.{Database, value_rows, IsDatabase}
use Rattle.sqlite.proofs.Callers.{one_step, IsPlain, command_of, statement_of, runs_as}
use Rattle.hh_tables.specs.Tables as tables
use Rattle.hh_keyed_rows.specs.Codecs.{Codec, IsCodec, places_from}
use Rattle.hh_keyed_rows.specs.KeyedRows.{stored_entry, table_in}
use Rattle.hh_keyed_rows.specs.Puts.{stored_in}
use Rattle.hh_keyed_rows.proofs.CodecLaws.{entry_written}
use Rattle.hh_keyed_rows.proofs.WriteLaws.{matches, matches_by, table_in-replaced}
use Rattle.hh_keyed_rows.proofs.PutLaws.{went, same_value}
use Rattle.hh_sqltables.proofs.GroupLaws.{cast_each, numbered_each, put_each, unnumbered}
use Rattle.hh_keyed_rows.proofs.RuleLaws.{once}

-- ---- what the statement makes of the trees

module _ {X : Type 0} (columns : X → Row) (xs : List X) where
  module _ (task : Task) (free : (olds news : List Row) → works task.schema task.keys 0 task.table.tree olds news ≡ []) (uncounted : task.table.is_counted ≡ false)
      (old : Trees) (kept : (x : X) → cast_all task.table.columns (columns x) ≡ columns x)
      (terms : List Term) (width : ℕ) (values : value_rows (stamped task.table task.params) width (length terms / width) terms ≡ unnumbered columns xs) where
    abbrev olds : List Row
    olds = old task.table.tree

    abbrev AreKept : Trees → Type 0
    AreKept new = AllByRecursion (λ t. t.tree ≢ task.table.tree → new t.tree ≡ old t.tree) task.schema.tables

    abbrev edit_with : ℤ → List Row → Edit
    edit_with top sources = edit_of old task.table [] (rowids_for task.table top) 0 sources

    news_are : (top : ℤ) → put_all olds (edit_with top (unnumbered columns xs)).news ≡ put_each columns xs olds
    news_are top =
        ap (λ b. put_all olds (numbered (Rattle.std.specs.Prelude.if◌then◌else◌ b (Above top) Chosen) olds (map (λ s. cast_row task.table (drop 0 s)) (unnumbered columns xs)))) uncounted
        ∙ ap (λ rs. put_all olds (numbered Chosen olds rs)) (cast_each columns task.table kept xs)
        ∙ numbered_each columns xs olds

    inserts : (w : Written) → Inserts task (Values terms width) old (Ok w) → (w.trees task.table.tree ≡ put_each columns xs olds) × AreKept w.trees
    inserts w h =
        let sourced = went h in
        let counted = went sourced.2 in
        let stepped = went counted.2 in
        let numbered = went stepped.2 in
        let top = count_of counted.0 in
        let source : sourced.0 ≡ unnumbered columns xs = sourced.1.1 ∙ values in
        let edit = edit_with top sourced.0 in
        let it = one_step task.schema task.keys old stepped.0 edit (free (taken_by old edit) edit.news) stepped.1 in
        let news : put_all olds edit.news ≡ put_each columns xs olds = ap (λ ss. put_all olds (edit_with top ss).news) source ∙ news_are top in
        let next : numbered.0 ≡ stepped.0 = counts numbered.0 stepped.0 counted.0 _ numbered.1 in
        let trees : w.trees ≡ stepped.0 = ap (λ (x : Written). x.trees) (same_value numbered.2) ∙ next in
        (ap (λ (t : Trees). t task.table.tree) trees ∙ it.rows ∙ news, subst AreKept (sym trees) it.tables)
      where
        counts : (next trees : Trees) (counter : Option Row) (top : ℤ) → Counts task trees counter top (Ok next) → next ≡ trees
        counts next trees counter top h = same_value (rw uncounted at h)

  -- ---- as a statement

  pub record InsertsRows (schema : Schema) (table : Table) (old new : Database) : Type 0 where
    pub schema_is : new.schema ≡ schema
    pub rows : new.trees table.tree ≡ put_each columns xs (old.trees table.tree)
    pub others : AllByRecursion (λ t. t.tree ≢ table.tree → new.trees t.tree ≡ old.trees t.tree) schema.tables
    pub sound : IsDatabase new

  module _ (schema : Schema) (at : ℕ) (table : Table) (listed : slice_get schema.tables at ≡ Some table) (uncounted : table.is_counted ≡ false)
      (free : (olds news : List Row) → works schema Enforced 0 table.tree olds news ≡ [])
      (terms : List Term) (width : ℕ) (sql : List ℕ) (is : command_of (understood schema sql) ≡ Insert at (Values terms width)) (plain : IsPlain (understood schema sql))
      (params : Row) (values : value_rows (stamped table params) width (length terms / width) terms ≡ unnumbered columns xs)
      (kept : (x : X) → cast_all table.columns (columns x) ≡ columns x) where
    done_by : (limit : Option ℕ) (text : List ℕ) (db : Database) (tally : Tally) (after : Database) → db.schema ≡ schema → IsDatabase after
        → Does limit (record { keys = Enforced; in_doubt = false; may_wait = false }) params db text None (Insert at (Values terms width)) (Ok (tally, after))
        → InsertsRows schema table db after
    done_by limit text db tally after has sound h =
        let mode : Mode = record { keys = Enforced; in_doubt = false; may_wait = false } in
        let command = Insert at (Values terms width) in
        let task : Task = record { limit = limit; keys = Enforced; schema = schema; table = table; params = params } in
        let known = subst (λ s. Does limit mode params (record { schema = s; trees = db.trees }) text None command (Ok (tally, after))) has h in
        let on : OnRows task mode None command db.trees (Ok (tally, after)) = subst (λ o. AtPlace (λ t. OnRows (record { limit = limit; keys = Enforced; schema = schema; table = t; params = params }) mode None command db.trees) o (Ok (tally, after))) listed known in
        let done = went on in
        let now = ap (λ (p : Tally × Database). p.1) (same_value (went (went done.2).2).2) in
        let made = inserts task free uncounted db.trees kept terms width values done.0 done.1 in
        record {
          schema_is = ap (λ (d : Database). d.schema) now;
          rows = ap (λ (d : Database). d.trees table.tree) now ∙ made.0;
          others = subst (λ (d : Database). AllByRecursion (λ t. t.tree ≢ table.tree → d.trees t.tree ≡ db.trees t.tree) schema.tables) (sym now) made.1;
          sound = sound;
        }

    pub insert_by : (old new : State) (count : ℕ) → old.now.schema ≡ schema → Executes sql params old new (Ok count) → InsertsRows schema table old.now new.now
    insert_by old new count has h =
        let w = runs_as sql params old new schema has (Insert at (Values terms width)) is plain count h in
        done_by old.step_limit (statement_of sql (understood schema sql)) old.now w.tally new.now has w.sound w.changed

-- ---- what it makes of the table that the rows represent

pub spares : (new : Row) (rows : List Row) (x : Row) → Has rows x → (value_cmp (rowid x) (rowid new) ≡ Equal → ⊥) → Has (put_row new rows) x
spares new [] x h other = absurd h
spares new (r ∷ rows) x h other = go (value_cmp (rowid r) (rowid new)) refl (spares new rows x)
  where
    go : (o : Ordering) → value_cmp (rowid r) (rowid new) ≡ o → (Has rows x → (value_cmp (rowid x) (rowid new) ≡ Equal → ⊥) → Has (put_row new rows) x) → Has (put_row new (r ∷ rows)) x
    go Less e later = rw e (elim h [ inl same ↦ inl same | inr more ↦ inr (later more other) ])
    go Equal e later = rw e (elim h [ inl same ↦ absurd (other (rw same e)) | inr more ↦ inr more ])
    go Greater e later = rw e (inr h)

-- each row is still there, unless it has the rowid of a new one; and the rowids of new rows are unused
pub fresh : (rows : List Row) (columns : Row) → IsShaped shape.Table rows → (x : Row) → Has rows x → value_cmp (rowid x) (rowid (stored_in rows columns)) ≡ Equal → ⊥
fresh rows columns shaped x h tie =
    true≢false (sym (some_from (λ r. is_eq (value_cmp (rowid r) (rowid (stored_in rows columns)))) rows x h (ap is_eq tie)) ∙ next_is_free Chosen rows columns shaped.0 shaped.1)

pub shaped_each : {X : Type 0} (columns : X → Row) (xs : List X) (rows : List Row) → IsShaped shape.Table rows → IsShaped shape.Table (put_each columns xs rows)
shaped_each columns [] rows shaped = shaped
shaped_each columns (x ∷ xs) rows shaped = shaped_each columns xs (put_row (stored_in rows (columns x)) rows) (IsShaped-put_row _ rows refl shaped)

pub spares_each : {X : Type 0} (columns : X → Row) (xs : List X) (rows : List Row) → IsShaped shape.Table rows → (r : Row) → Has rows r → Has (put_each columns xs rows) r
spares_each columns [] rows shaped r h = h
spares_each columns (x ∷ xs) rows shaped r h =
    spares_each columns xs (put_row (stored_in rows (columns x)) rows) (IsShaped-put_row _ rows refl shaped) r (spares (stored_in rows (columns x)) rows r h (fresh rows (columns x) shaped r h))

-- if no key occurs twice in rows, none does in a part of them
pub unique_part : (places : List ℕ) (part rows : List Row) → ((r : Row) → Has part r → Has rows r) → ((r : Row) → Has rows r → clashes plain places rows r ≡ false)
    → (r : Row) → Has part r → clashes plain places part r ≡ false
unique_part places part rows among unique r h =
    false_from_ne_true _ (λ clash.
    let test : Row → Bool = λ o. agree plain places o places r && differ (rowid o) (rowid r) in
    let o = some_has test part clash in
    true≢false (sym (some_from test rows o.0 (among o.0 o.1) o.2) ∙ unique r (among r h)))

module _ (schema : Schema) (table : Table) {K V : Type 0} (R : K → K → Ordering) (total : IsTotalOrder R) (exact : CmpEqualImpliesEq R)
    (key : Codec K) (value : Codec V) (is_key : IsCodec key) (is_value : IsCodec value)
    (indexed : (r new : Row) → list_any (shares None table new r) schema.indexes ≡ agree plain (places_from 1 key.width) r (places_from 1 key.width) new) where
  abbrev AreUnique : List Row → Type 0
  AreUnique rows = (r : Row) → Has rows r → clashes plain (places_from 1 key.width) rows r ≡ false

  -- a row whose key is new
  pub insert_in_table : (rows : List Row) (k : K) (v : V) → key.fits k ≡ true → value.fits v ≡ true → IsShaped shape.Table rows
      → AreUnique (put_row (stored_in rows (key.write k ++ value.write v)) rows)
      → table_in R (stored_entry key value) (put_row (stored_in rows (key.write k ++ value.write v)) rows) ≡ put R k v (table_in R (stored_entry key value) rows)
  insert_in_table rows k v fits_k fits_v shaped unique =
      let row = stored_in rows (key.write k ++ value.write v) in
      let entry = stored_entry key value in
      let is : entry row ≡ Some (k, v) = entry_written key value is_key is_value (Int (next_rowid rows)) k v fits_k fits_v in
      let taken : is_taken rows row ≡ false = next_is_free Chosen rows (key.write k ++ value.write v) shaped.0 shaped.1 in
      let shaped_new : IsShaped shape.Table (put_row row rows) = IsShaped-put_row row rows refl shaped in
      let here : matches R total exact entry k row ≡ true = ap (matches_by R total exact entry k) is ∙ ap is_eq (tied_itself total k) in
      let untied = fresh rows (key.write k ++ value.write v) shaped in
      let none : (r : Row) → Has rows r → matches R total exact entry k r ≡ true → (id : ℤ) × Has [] id × (has_rowid id r ≡ true) = λ r h at.
      absurd (untied r h (once schema table R total exact key value is_key is_value indexed (put_row row rows) shaped_new unique r row (spares row rows r h (untied r h)) (has_put row rows) k at here)) in
      table_in-replaced R total exact entry rows row k v is [] taken (λ r id h l. absurd l) none

  abbrev columns_in : K × V → Row
  columns_in e = key.write e.0 ++ value.write e.1

  -- rows whose keys are new, one after the other
  pub insert_each_in_table : (es : List (K × V)) (rows : List Row) → AllByRecursion (λ e. (key.fits e.0 ≡ true) × (value.fits e.1 ≡ true)) es → IsShaped shape.Table rows
      → AreUnique (put_each columns_in es rows)
      → table_in R (stored_entry key value) (put_each columns_in es rows) ≡ tables.put_all R es (table_in R (stored_entry key value) rows)
  insert_each_in_table [] rows fits shaped unique = refl
  insert_each_in_table (e ∷ es) rows fits shaped unique =
      let row = stored_in rows (columns_in e) in
      let next : List Row = put_row row rows in
      let shaped_next : IsShaped shape.Table next = IsShaped-put_row row rows refl shaped in
      let unique_next : AreUnique next = unique_part (places_from 1 key.width) next (put_each columns_in es next) (spares_each columns_in es next shaped_next) unique in
      insert_each_in_table es next fits.1 shaped_next unique ∙ ap (tables.put_all R es) (insert_in_table rows e.0 e.1 fits.0.0 fits.0.1 shaped unique_next)
