-- INSERT .. ON CONFLICT .. DO UPDATE of one row, in a table with no reference and no AUTOINCREMENT.
use Rattle.std.proofs.Common.{◌≡◌, ◌≢◌, ◌⊎◌, inl, inr, ℕ, suc, ℤ, List, [], ◌∷◌, ◌++◌, length, map, filter, drop, slice_get, Bool, true, false, cond, Some, None, Option, Ok, Err, Result, Less, refl, sym, ap, subst, ◌∙◌, ◌/◌}
use Rattle.std.specs.List.{AllByRecursion, list_all}
use Rattle.std.proofs.lemmas.Bool.{and_parts, false_from_ne_true, true≢false}
use Rattle.std.proofs.lemmas.Cmp.{tied_itself}
use Rattle.sqlite_value.specs.declared.value.Value.{Value}
use Rattle.sqlite_value.specs.declared.value.Value.TheVariants.{Null, Int, Real, Text, Blob}
use Rattle.sqlite_value.specs.declared.keys.Collation.TheVariants.{Binary}
use Rattle.sqlite_value.specs.Keys.{plain, first_key}
use Rattle.sqlite_value.specs.Order.{Row, column, value_cmp}
use Rattle.sqlite_value.proofs.OrderLemmas.{value_cmp_total}
use Rattle.sqlite_trees.specs.Tree.{Trees, IsTable, put_row, rowid}
use Rattle.sqlite_sql.specs.Ops.{binary}
use Rattle.sqlite_sql.specs.Term.{Term}
use Rattle.sqlite_schema.specs.Rules.{agree, equal}
use Rattle.sqlite_schema.specs.declared.schema.Schema.{Schema}
use Rattle.sqlite_schema.specs.declared.schema.Table.{Table}
use Rattle.sqlite_schema.specs.declared.schema.Keys.TheVariants.{Enforced}
use Rattle.sqlite_schema.specs.declared.schema.Kind.TheVariants.{Integer}
use Rattle.sqlite_schema.specs.declared.program.Program.{Program}
use Rattle.sqlite_schema.specs.declared.command.Source.TheVariants.{Values}
use Rattle.sqlite_schema.specs.declared.command.Command.TheVariants.{InsertOr}
use Rattle.sqlite_schema.specs.declared.command.Conflict.TheVariants.{Abort}
use Rattle.sqlite_schema.specs.declared.command.Upsert.{Upsert}
use Rattle.sqlite_rules.specs.declared.error.Rowids.TheVariants.{Above, Chosen, Given}
use Rattle.sqlite_rules.specs.Action.{works}
use Rattle.sqlite_rules.specs.Calls.{ids_of}
use Rattle.sqlite_rules.specs.Cast.{cast, cast_all, cast_row}
use Rattle.sqlite_rules.specs.Edit.{are_fresh, edit_of, edited, left_by, next_rowid, put_all, taken_by, with_rowid}
use Rattle.sqlite_rules.specs.Keys.{AreConflicts}
use Rattle.sqlite_rules.specs.Lists.{Has}
use Rattle.sqlite_rules.proofs.ListLemmas.{all_has}
use Rattle.sqlite_rules.proofs.PlaceLemmas.{given}
use Rattle.sqlite.specs.declared.error.Error.{Error}
use Rattle.sqlite.specs.declared.run.Mode.{Mode}
use Rattle.sqlite.specs.Effect.{Answers, Database, IsDatabase, edit_error, value_rows}
use Rattle.sqlite.specs.Rows.{Clears, Counts, InsertsOr, Meets, Puts, Task, Tries, TriesEach, Updates, Upserts, Written, count_of, nothing, rowids_for, shown, stamped}
use Rattle.sqlite.specs.Does.{AtPlace, Does, OnRows, Tally}
use Rattle.sqlite.specs.State.{Executes, State}
use Rattle.sqlite.specs.Listing.{understood}
use Rattle.sqlite.proofs.Callers.{IsPlain, command_of, one_step, runs_as, statement_of}
use Rattle.hh_keyed_rows.specs.Codecs.{places_from}
use Rattle.hh_keyed_rows.specs.Puts.{stored_in}
use Rattle.hh_keyed_rows.proofs.PlaceLaws.{column_at, drop_next, equal_same}
use Rattle.hh_keyed_rows.proofs.PutLaws.{cast_int, cast_null, same_value, went}
use Rattle.hh_sqltables.specs.Texts.{is_lettered}

-- ---- what the statement makes of the trees

module _ (schema : Schema) (table : Table) (columns : Row) (old new : Trees) where
  abbrev AreKept : Type 0
  AreKept = AllByRecursion (λ t. t.tree ≢ table.tree → new t.tree ≡ old t.tree) schema.tables

  -- the row is added to those that are there
  pub record AddsRow : Type 0 where
    pub rows : new table.tree ≡ put_row (stored_in (old table.tree) columns) (old table.tree)
    pub others : AllByRecursion (λ t. t.tree ≢ table.tree → new t.tree ≡ old t.tree) schema.tables

  -- A row with this key is there, and the rows that the query selects replace those with their rowids.
  pub record ChangesRows (target : List ℕ) (q : Program) (params : Row) : Type 0 where
    pub there : Row
    pub more : List Row
    pub conflicts : AreConflicts (Some target) schema.indexes table (old table.tree) (stored_in (old table.tree) columns) (there ∷ more)
    pub picked : List Row
    pub answers : Answers (record { schema = schema; trees = old }) q (params ++ rowid there ∷ shown table (stored_in (old table.tree) columns)) picked
    pub fresh : are_fresh (left_by old (edit_of old table (ids_of picked) Given 1 picked)) (edit_of old table (ids_of picked) Given 1 picked).news ≡ true
    pub rows : new table.tree ≡ edited old (edit_of old table (ids_of picked) Given 1 picked)
    pub others : AllByRecursion (λ t. t.tree ≢ table.tree → new t.tree ≡ old t.tree) schema.tables

module _ (task : Task) (free : (olds news : List Row) → works task.schema task.keys 0 task.table.tree olds news ≡ []) (uncounted : task.table.is_counted ≡ false)
    (old : Trees) (columns : Row) (kept : cast_all task.table.columns columns ≡ columns)
    (terms : List Term) (width : ℕ) (values : value_rows (stamped task.table task.params) width (length terms / width) terms ≡ (Null ∷ columns) ∷ [])
    (target : List ℕ) (q : Program) where
  abbrev rows : List Row
  rows = old task.table.tree

  abbrev new : Row
  new = stored_in rows columns

  abbrev clause : Upsert
  clause = record { target = Some target; update = Some q }

  abbrev Added : Trees → Type 0
  Added = AddsRow task.schema task.table columns old

  abbrev Changed : Trees → Type 0
  Changed trees = ChangesRows task.schema task.table columns old trees target q task.params

  abbrev Left : Trees → Type 0
  Left trees = Added trees ⊎ Changed trees

  same_new : cast_row task.table new ≡ new
  same_new = ap (λ v. v ∷ cast_all task.table.columns columns) (cast_int (next_rowid rows)) ∙ ap (λ vs. Int (next_rowid rows) ∷ vs) kept

  puts : (w : Written) → Puts task new old (Ok w) → Added w.trees
  puts w h =
      let edit = edit_of old task.table [] Given 0 (new ∷ []) in
      let done = went h in
      let it = one_step task.schema task.keys old done.0 edit (free (taken_by old edit) edit.news) done.1 in
      let trees : w.trees ≡ done.0 = ap (λ (x : Written). x.trees) (same_value done.2) in
      let news : edit.news ≡ new ∷ [] = given rows _ ∙ ap (λ r. r ∷ []) same_new in
      subst Added (sym trees) (record { rows = it.rows ∙ ap (put_all rows) news; others = it.tables })

  clears : (found : List Row) (w : Written) → Clears task Abort new old found (Ok w) → Added w.trees
  clears [] w h = puts w h
  clears (x ∷ more) w h = puts w h

  updates : (there : Row) (more : List Row) → AreConflicts (Some target) task.schema.indexes task.table rows new (there ∷ more)
      → (w : Written) → Updates task q (task.params ++ rowid there ∷ shown task.table new) old (Ok w) → Changed w.trees
  updates there more conflicts w h =
      let queried = went h in
      let edit = edit_of old task.table (ids_of queried.0) Given 1 queried.0 in
      let done = went queried.2 in
      let it = one_step task.schema task.keys old done.0 edit (free (taken_by old edit) edit.news) done.1 in
      let trees : w.trees ≡ done.0 = ap (λ (x : Written). x.trees) (same_value done.2) in
      subst Changed (sym trees) (record { there = there; more = more; conflicts = conflicts; picked = queried.0; answers = queried.1; fresh = it.fresh; rows = it.rows; others = it.tables })

  meets : (found : List Row) → AreConflicts (Some target) task.schema.indexes task.table rows new found
      → (w : Written) → Meets task (Upserts task Abort new old []) new old clause found (Ok w) → Left w.trees
  meets [] conflicts w h = inl (clears h.0 w h.2)
  meets (there ∷ more) conflicts w h = inr (updates there more conflicts w h)

  tries : (w : Written) → Tries task Abort (clause ∷ []) new old (Ok w) → Left w.trees
  tries w (inl unfit) = absurd (let e = unfit.1 in cc)
  tries w (inr (None, judged, it)) = meets it.0 it.1 w it.2
  tries w (inr (Some why, judged, it)) = absurd (let e : ◌≡◌ {A = Result Written (Option Error)} (Ok w) (Err (Some (edit_error why))) = it in cc)

  new_is : (top : ℤ) → with_rowid (rowids_for task.table top) rows (cast_row task.table (Null ∷ columns)) ≡ new
  new_is top =
      ap (λ b. with_rowid (Rattle.std.specs.Prelude.if◌then◌else◌ b (Above top) Chosen) rows (cast_row task.table (Null ∷ columns))) uncounted
      ∙ ap (λ vs. with_rowid Chosen rows (cast Integer Null ∷ vs)) kept
      ∙ ap (λ v. with_rowid Chosen rows (v ∷ columns)) cast_null

  each : (top : ℤ) (d : Written × ℤ) → TriesEach task Abort (clause ∷ []) ((Null ∷ columns) ∷ []) top (nothing old) (Ok d) → Left d.0.trees
  each top d h =
      let one = went h in
      let trees : d.0.trees ≡ one.0.trees = ap (λ (x : Written × ℤ). x.0.trees) (same_value one.2) in
      subst Left (sym trees) (tries one.0 (subst (λ (r : Row). Tries task Abort (clause ∷ []) r old (Ok one.0)) (new_is top) one.1))

  counts : (trees : Trees) (counter : Option Row) (top : ℤ) (next : Trees) → Counts task trees counter top (Ok next) → next ≡ trees
  counts trees counter top next h = same_value (rw uncounted at h)

  upserts : (w : Written) → InsertsOr task Abort (clause ∷ []) (Values terms width) old (Ok w) → Left w.trees
  upserts w h =
      let sourced = went h in
      let counted = went sourced.2 in
      let tried = went counted.2 in
      let ended = went tried.2 in
      let trees : w.trees ≡ ended.0 = ap (λ (x : Written). x.trees) (same_value ended.2) in
      let next : ended.0 ≡ tried.0.0.trees = counts tried.0.0.trees counted.0 tried.0.1 ended.0 ended.1 in
      subst Left (sym (trees ∙ next))
      (each (count_of counted.0) tried.0 (subst (λ (rows : List Row). TriesEach task Abort (clause ∷ []) rows (count_of counted.0) (nothing old) (Ok tried.0)) (sourced.1.1 ∙ values) tried.1))

-- ---- as a statement

pub record UpsertsRow (schema : Schema) (table : Table) (target : List ℕ) (q : Program) (params columns : Row) (old new : Database) : Type 0 where
  pub schema_is : new.schema ≡ schema
  pub left : AddsRow schema table columns old.trees new.trees ⊎ ChangesRows schema table columns old.trees new.trees target q params
  pub sound : IsDatabase new

module _ (schema : Schema) (at : ℕ) (table : Table) (listed : slice_get schema.tables at ≡ Some table) (uncounted : table.is_counted ≡ false)
    (free : (olds news : List Row) → works schema Enforced 0 table.tree olds news ≡ [])
    (terms : List Term) (width : ℕ) (target : List ℕ) (q : Program) (sql : List ℕ)
    (is : command_of (understood schema sql) ≡ InsertOr at Abort (Values terms width) (record { target = Some target; update = Some q } ∷ [])) (plain : IsPlain (understood schema sql))
    (params columns : Row) (values : value_rows (stamped table params) width (length terms / width) terms ≡ (Null ∷ columns) ∷ [])
    (kept : cast_all table.columns columns ≡ columns) where
  abbrev clauses : List Upsert
  clauses = record { target = Some target; update = Some q } ∷ []

  done_by : (limit : Option ℕ) (text : List ℕ) (db : Database) (tally : Tally) (after : Database) → db.schema ≡ schema → IsDatabase after
      → Does limit (record { keys = Enforced; in_doubt = false; may_wait = false }) params db text None (InsertOr at Abort (Values terms width) clauses) (Ok (tally, after))
      → UpsertsRow schema table target q params columns db after
  done_by limit text db tally after has sound h =
      let mode : Mode = record { keys = Enforced; in_doubt = false; may_wait = false } in
      let command = InsertOr at Abort (Values terms width) clauses in
      let task : Task = record { limit = limit; keys = Enforced; schema = schema; table = table; params = params } in
      let known = subst (λ s. Does limit mode params (record { schema = s; trees = db.trees }) text None command (Ok (tally, after))) has h in
      let on : OnRows task mode None command db.trees (Ok (tally, after)) = subst (λ o. AtPlace (λ t. OnRows (record { limit = limit; keys = Enforced; schema = schema; table = t; params = params }) mode None command db.trees) o (Ok (tally, after))) listed known in
      let done = went on in
      let now = ap (λ (p : Tally × Database). p.1) (same_value (went (went done.2).2).2) in
      record {
        schema_is = ap (λ (d : Database). d.schema) now;
        left = subst (λ (d : Database). AddsRow schema table columns db.trees d.trees ⊎ ChangesRows schema table columns db.trees d.trees target q params) (sym now)
            (upserts task free uncounted db.trees columns kept terms width values target q done.0 done.1);
        sound = sound;
      }

  pub upsert_by : (old new : State) (count : ℕ) → old.now.schema ≡ schema → Executes sql params old new (Ok count) → UpsertsRow schema table target q params columns old.now new.now
  upsert_by old new count has h =
      let w = runs_as sql params old new schema has (InsertOr at Abort (Values terms width) clauses) is plain count h in
      done_by old.step_limit (statement_of sql (understood schema sql)) old.now w.tally new.now has w.sound w.changed

-- ---- the row of a rowid

-- a test that exactly one row of a table passes selects that row
pub only_row : (test : Row → Bool) (rows : List Row) (r : Row) → IsTable rows → ((s : Row) → Has rows s → test s ≡ true → s ≡ r) → test r ≡ true → Has rows r → filter test rows ≡ r ∷ []
only_row test [] r table one passes h = absurd h
only_row test (x ∷ rows) r table one passes (inl same) =
    let first : test x ≡ true = ap test (sym same) ∙ passes in
    let later : filter test rows ≡ [] = none rows (λ s h. false_from_ne_true _ (λ is.
    let e : s ≡ x = one s (inr h) is ∙ same in
    let under : value_cmp (rowid x) (rowid s) ≡ Less = all_has (λ b. value_cmp (rowid x) (rowid b) ≡ Less) rows s table.0 h in
    let tie = sym under ∙ ap (λ y. value_cmp (rowid x) (rowid y)) e ∙ tied_itself value_cmp_total (rowid x) in cc)) in
    ap (λ b. cond b (x ∷ filter test rows) (filter test rows)) first ∙ (λ i. sym same i ∷ later i)
  where
    none : (rows : List Row) → ((s : Row) → Has rows s → test s ≡ false) → filter test rows ≡ []
    none [] h = refl
    none (y ∷ ys) h = ap (λ b. cond b (y ∷ filter test ys) (filter test ys)) (h y (inl refl)) ∙ none ys (λ s k. h s (inr k))
only_row test (x ∷ rows) r table one passes (inr h) =
    let first : test x ≡ false = false_from_ne_true _ (λ is.
    let e : x ≡ r = one x (inl refl) is in
    let under : value_cmp (rowid x) (rowid r) ≡ Less = all_has (λ b. value_cmp (rowid x) (rowid b) ≡ Less) rows r table.0 h in
    let tie = sym under ∙ ap (λ y. value_cmp (rowid y) (rowid r)) e ∙ tied_itself value_cmp_total (rowid r) in cc) in
    ap (λ b. cond b (x ∷ filter test rows) (filter test rows)) first ∙ only_row test rows r table.1 (λ s k. one s (inr k)) passes h

-- ---- texts and blobs

pub equal_lettered : (v w : Value) → is_lettered w ≡ true → equal Binary v w ≡ true → v ≡ w
unfolding binary value_cmp
equal_lettered v Null p e = absurd (true≢false (sym p))
equal_lettered v (Int n) p e = absurd (true≢false (sym p))
equal_lettered v (Real x) p e = absurd (true≢false (sym p))
equal_lettered Null (Text t) p e = absurd (true≢false (sym e))
equal_lettered (Int n) (Text t) p e = absurd (true≢false (sym e))
equal_lettered (Real x) (Text t) p e = absurd (true≢false (sym e))
equal_lettered (Text s) (Text t) p e = equal_same (Text s) (Text t) refl refl e
equal_lettered (Blob s) (Text t) p e = absurd (true≢false (sym e))
equal_lettered Null (Blob t) p e = absurd (true≢false (sym e))
equal_lettered (Int n) (Blob t) p e = absurd (true≢false (sym e))
equal_lettered (Real x) (Blob t) p e = absurd (true≢false (sym e))
equal_lettered (Text s) (Blob t) p e = absurd (true≢false (sym e))
equal_lettered (Blob s) (Blob t) p e = equal_same (Blob s) (Blob t) refl refl e

-- a row whose columns agree with texts and blobs has them
pub agree_lettered : (at : ℕ) (xs a b more : Row) → drop at b ≡ xs ++ more → list_all is_lettered xs ≡ true → agree plain (places_from at (length xs)) a (places_from at (length xs)) b ≡ true
    → map (column a) (places_from at (length xs)) ≡ xs
unfolding first_key
agree_lettered at [] a b more p k h = refl
agree_lettered at (x ∷ xs) a b more p k h =
    let kx = and_parts (is_lettered x) (list_all is_lettered xs) k in
    let both = and_parts (equal Binary (column a at) (column b at)) (agree plain (places_from (suc at) (length xs)) a (places_from (suc at) (length xs)) b) h in
    let e : column a at ≡ x = equal_lettered (column a at) x kx.0 (sym (ap (equal Binary (column a at)) (column_at b at x (xs ++ more) p)) ∙ both.0) in
    let es = agree_lettered (suc at) xs a b more (drop_next b at x (xs ++ more) p) kx.1 both.1 in
    λ i. e i ∷ es i

-- a row has the columns with which it begins, at their places
pub front_columns : (at : ℕ) (xs a more : Row) → drop at a ≡ xs ++ more → map (column a) (places_from at (length xs)) ≡ xs
front_columns at [] a more p = refl
front_columns at (x ∷ xs) a more p =
    let e : column a at ≡ x = column_at a at x (xs ++ more) p in
    let es = front_columns (suc at) xs a more (drop_next a at x (xs ++ more) p) in
    λ i. e i ∷ es i
