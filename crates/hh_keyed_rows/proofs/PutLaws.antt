-- INSERT OR REPLACE of rows into a table with no reference and no AUTOINCREMENT.
use Rattle.std.proofs.Common.{◌≡◌, ◌≢◌, ◌⊎◌, inl, inr, ℕ, ℤ, List, [], ◌∷◌, slice_get, length, map, Bool, true, false, cond, Some, None, Option, Ok, Err, Result, refl, sym, ap, subst, ◌∙◌, if◌then◌else◌, ◌/◌}
use Rattle.std.specs.List.{AllByRecursion}
use Rattle.sqlite_value.specs.declared.value.Value.{Value}
use Rattle.sqlite_value.specs.declared.value.Value.TheVariants.{Null, Int}
use Rattle.sqlite.specs.Order.{Row}
use Rattle.sqlite_trees.specs.Tree.{Trees, put_row}
use Rattle.sqlite.specs.Term.{Term}
use Rattle.sqlite.specs.Ops.{unary}
use Rattle.sqlite.specs.Table.{Table}
use Rattle.sqlite.specs.Schema.{Schema}
use Rattle.sqlite_schema.specs.declared.schema.Keys.TheVariants.{Enforced}
use Rattle.sqlite.specs.Kind.TheVariants.{Integer}
use Rattle.sqlite.specs.Source.TheVariants.{Values}
use Rattle.sqlite.specs.Command.TheVariants.{InsertOr}
use Rattle.sqlite_schema.specs.declared.command.Conflict.TheVariants.{Replace}
use Rattle.sqlite_rules.specs.declared.error.Rowids.TheVariants.{Chosen, Above, Given}
use Rattle.sqlite_rules.specs.Action.{works}
use Rattle.sqlite_rules.specs.Calls.{ids_of}
use Rattle.sqlite_rules.proofs.PlaceLemmas.{given}
use Rattle.sqlite.specs.Edit.{edit_of, next_rowid, without_all, put_all, with_rowid, taken_by}
use Rattle.sqlite.specs.Cast.{cast, cast_row, cast_all}
use Rattle.sqlite.specs.declared.error.Error.{Error}
use Rattle.sqlite.specs.Rows.{Written, Task, stamped, mended, mended_from, nothing, joined, rowids_for, count_of, TriesEach, Tries, Clears, Puts, Counts, InsertsOr}
use Rattle.sqlite.specs.Does.{Tally, OnRows, Does, AtPlace}
use Rattle.sqlite.specs.State.{State, Shows, Executes}
use Rattle.sqlite.specs.Listing.{understood}
use Rattle.sqlite.specs.declared.run.Mode.{Mode}
use Rattle.sqlite.specs.Effect.{Database, IsDatabase, value_rows, edit_error}
use Rattle.sqlite.proofs.Callers.{one_step, IsPlain, command_of, statement_of, runs_as}
use Rattle.hh_keyed_rows.specs.Puts.{stored_in, PutsRow}

-- rows with these columns are written, one after the other
abbrev pub PutsEach : {X : Type 0} → Schema → Table → (X → Row) → List X → Trees → Trees → Type 0
PutsEach schema table columns [] old new = new ≡ old
PutsEach schema table columns (x ∷ xs) old new = (middle : Trees) × PutsRow schema table old (columns x) middle × PutsEach schema table columns xs middle new

-- if a computation gave a value, none of its steps stopped it
pub went : {B E R : Type 0} {b : B} {Stops : E → Type 0} → ((stop : E) × Stops stop × (Ok b ≡ Err stop)) ⊎ R → R
went (inl stopped) = absurd (let e = stopped.2 in cc)
went (inr on) = on

pub same_value : {B E : Type 0} {a b : B} → ◌≡◌ {A = Result B E} (Ok a) (Ok b) → a ≡ b
same_value e = cc

either : (b : Bool) (x : Value) → cond b x x ≡ x
either true x = refl
either false x = refl

pub cast_null : cast Integer Null ≡ Null
unfolding unary
cast_null = either _ Null

pub cast_int : (n : ℤ) → cast Integer (Int n) ≡ Int n
unfolding unary
cast_int n = either _ (Int n)

both_all : {X : Type 0} (P Q S : X → Type 0) → ((x : X) → P x → Q x → S x) → (xs : List X) → AllByRecursion P xs → AllByRecursion Q xs → AllByRecursion S xs
both_all P Q S f [] p q = tt
both_all P Q S f (x ∷ xs) p q = (f x p.0 q.0, both_all P Q S f xs p.1 q.1)

module _ (task : Task) (free : (olds news : List Row) → works task.schema task.keys 0 task.table.tree olds news ≡ []) (uncounted : task.table.is_counted ≡ false) where
  abbrev rows_of : Trees → List Row
  rows_of db = db task.table.tree

  abbrev AreKept : Trees → Trees → Type 0
  AreKept old new = AllByRecursion (λ t. t.tree ≢ task.table.tree → new t.tree ≡ old t.tree) task.schema.tables

  puts : (row : Row) (same : cast_row task.table row ≡ row) (mid : Trees) (w : Written) → Puts task row mid (Ok w) → (w.trees task.table.tree ≡ put_row row (rows_of mid)) × AreKept mid w.trees
  puts row same mid w h =
      let edit = edit_of mid task.table [] Given 0 (row ∷ []) in
      let done = went h in
      let it = one_step task.schema task.keys mid done.0 edit (free (taken_by mid edit) edit.news) done.1 in
      let trees : w.trees ≡ done.0 = ap (λ (x : Written). x.trees) (same_value done.2) in
      let news : edit.news ≡ row ∷ [] = given (rows_of mid) _ ∙ ap (λ r. r ∷ []) same in
      (ap (λ (t : Trees). t task.table.tree) trees ∙ it.rows ∙ ap (put_all (rows_of mid)) news, subst (λ (t : Trees). AreKept mid t) (sym trees) it.tables)

  clears : (row : Row) (same : cast_row task.table row ≡ row) (old : Trees) (found : List Row) (w : Written) → Clears task Replace row old found (Ok w)
      → (w.trees task.table.tree ≡ put_row row (without_all (rows_of old) (ids_of found))) × AreKept old w.trees
  clears row same old [] w h = puts row same old w h
  clears row same old (x ∷ more) w h =
      let edit = edit_of old task.table (ids_of (x ∷ more)) Given 0 [] in
      let done = went h in
      let it = one_step task.schema task.keys old done.0 edit (free (taken_by old edit) edit.news) done.1 in
      let put = puts row same done.0 w done.2 in
      (put.0 ∙ ap (put_row row) it.rows, both_all _ _ _ (λ t p q away. q away ∙ p away) task.schema.tables it.tables put.1)

  counts : (trees : Trees) (counter : Option Row) (top : ℤ) (next : Trees) → Counts task trees counter top (Ok next) → next ≡ trees
  counts trees counter top next h = same_value (rw uncounted at h)

  module _ (old : Trees) (columns : Row) (kept : cast_all task.table.columns columns ≡ columns) (mends : mended_from task.table.key 0 task.table.columns columns ≡ columns) where
    abbrev new : Row
    new = stored_in (rows_of old) columns

    same_new : cast_row task.table new ≡ new
    same_new = ap (λ v. v ∷ cast_all task.table.columns columns) (cast_int (next_rowid (rows_of old))) ∙ ap (λ vs. Int (next_rowid (rows_of old)) ∷ vs) kept

    tries : (w : Written) → Tries task Replace [] new old (Ok w) → PutsRow task.schema task.table old columns w.trees
    tries w (inl unfit) = absurd (let e = unfit.1 in cc)
    tries w (inr (None, judged, it)) = let done = clears new same_new old it.0 w it.2 in record { found = it.0; conflicts = it.1; rows = done.0; others = done.1 }
    tries w (inr (Some why, judged, it)) = absurd (let e : ◌≡◌ {A = Result Written (Option Error)} (Ok w) (Err (Some (edit_error why))) = it in cc)

    new_is : (top : ℤ) → with_rowid (rowids_for task.table top) (rows_of old) (cast_row task.table (mended Replace task.table (Null ∷ columns))) ≡ new
    new_is top =
        ap (λ b. with_rowid (if b then Above top else Chosen) (rows_of old) (cast_row task.table (mended Replace task.table (Null ∷ columns)))) uncounted
        ∙ ap (λ vs. with_rowid Chosen (rows_of old) (cast_row task.table (Null ∷ vs))) mends
        ∙ ap (λ vs. with_rowid Chosen (rows_of old) (cast Integer Null ∷ vs)) kept
        ∙ ap (λ v. with_rowid Chosen (rows_of old) (v ∷ columns)) cast_null

  module _ {X : Type 0} (columns : X → Row) (kept : (x : X) → cast_all task.table.columns (columns x) ≡ columns x) (mends : (x : X) → mended_from task.table.key 0 task.table.columns (columns x) ≡ columns x) where
    each : (xs : List X) (top : ℤ) (before : Written) (d : Written × ℤ) → TriesEach task Replace [] (map (λ x. Null ∷ columns x) xs) top before (Ok d) → PutsEach task.schema task.table columns xs before.trees d.0.trees
    each [] top before d h = ap (λ (x : Written × ℤ). x.0.trees) (same_value h)
    each (x ∷ xs) top before d h =
        let one = went h in
        let row = new_is before.trees (columns x) (kept x) (mends x) top in (
          one.0.trees,
          tries before.trees (columns x) (kept x) (mends x) one.0 (subst (λ (r : Row). Tries task Replace [] r before.trees (Ok one.0)) row one.1),
          each xs _ (joined before one.0) d one.2,
        )

    module _ (xs : List X) (terms : List Term) (width : ℕ) (values : value_rows (stamped task.table task.params) width (length terms / width) terms ≡ map (λ x. Null ∷ columns x) xs) where
      pub inserts : (old : Trees) (w : Written) → InsertsOr task Replace [] (Values terms width) old (Ok w) → PutsEach task.schema task.table columns xs old w.trees
      inserts old w h =
          let sourced = went h in
          let counted = went sourced.2 in
          let tried = went counted.2 in
          let ended = went tried.2 in
          let trees : w.trees ≡ ended.0 = ap (λ (x : Written). x.trees) (same_value ended.2) in
          let next : ended.0 ≡ tried.0.0.trees = counts tried.0.0.trees counted.0 tried.0.1 ended.0 ended.1 in
          subst (PutsEach task.schema task.table columns xs old) (sym (trees ∙ next))
          (each xs (count_of counted.0) (nothing old) tried.0 (subst (λ (rows : List Row). TriesEach task Replace [] rows (count_of counted.0) (nothing old) (Ok tried.0)) (sourced.1.1 ∙ values) tried.1))

-- ---- as a statement

-- The statement wrote the rows. Outside a transaction they are committed.
pub record PutsMany {X : Type 0} (as_schema : Schema) (table : Table) (columns : X → Row) (xs : List X) (old new : State) : Type 0 where
  pub schema : new.now.schema ≡ as_schema
  pub each : PutsEach as_schema table columns xs old.now.trees new.now.trees
  pub shown : Shows old new new.now (if old.in_transaction then old.committed else new.now) old.in_transaction
  pub sound : IsDatabase new.now
  pub marks : new.marks ≡ old.marks

module _ (schema : Schema) (at : ℕ) (table : Table) (listed : slice_get schema.tables at ≡ Some table) (uncounted : table.is_counted ≡ false)
    (free : (olds news : List Row) → works schema Enforced 0 table.tree olds news ≡ [])
    (terms : List Term) (width : ℕ) (sql : List ℕ) (is : command_of (understood schema sql) ≡ InsertOr at Replace (Values terms width) []) (plain : IsPlain (understood schema sql))
    {X : Type 0} (columns : X → Row) (xs : List X) (params : Row) (values : value_rows (stamped table params) width (length terms / width) terms ≡ map (λ x. Null ∷ columns x) xs)
    (kept : (x : X) → cast_all table.columns (columns x) ≡ columns x) (mends : (x : X) → mended_from table.key 0 table.columns (columns x) ≡ columns x) where
  done_by : (limit : Option ℕ) (text : List ℕ) (db : Database) (tally : Tally) (after : Database) → db.schema ≡ schema
      → Does limit (record { keys = Enforced; in_doubt = false; may_wait = false }) params db text None (InsertOr at Replace (Values terms width) []) (Ok (tally, after))
      → (after.schema ≡ schema) × PutsEach schema table columns xs db.trees after.trees
  done_by limit text db tally after has h =
      let mode : Mode = record { keys = Enforced; in_doubt = false; may_wait = false } in
      let command = InsertOr at Replace (Values terms width) [] in
      let task : Task = record { limit = limit; keys = Enforced; schema = schema; table = table; params = params } in
      let known = subst (λ s. Does limit mode params (record { schema = s; trees = db.trees }) text None command (Ok (tally, after))) has h in
      let on : OnRows task mode None command db.trees (Ok (tally, after)) = subst (λ o. AtPlace (λ t. OnRows (record { limit = limit; keys = Enforced; schema = schema; table = t; params = params }) mode None command db.trees) o (Ok (tally, after))) listed known in
      let done = went on in
      let now = ap (λ (p : Tally × Database). p.1) (same_value (went (went done.2).2).2) in (
        ap (λ (d : Database). d.schema) now,
        subst (λ (d : Database). PutsEach schema table columns xs db.trees d.trees) (sym now) (inserts task free uncounted columns kept mends xs terms width values db.trees done.0 done.1),
      )

  pub put_by : (old new : State) (count : ℕ) → old.now.schema ≡ schema → Executes sql params old new (Ok count)
      → PutsMany schema table columns xs old new
  put_by old new count has h =
      let w = runs_as sql params old new schema has (InsertOr at Replace (Values terms width) []) is plain count h in
      let done = done_by old.step_limit (statement_of sql (understood schema sql)) old.now w.tally new.now has w.changed in
      record { schema = done.0; each = done.1; shown = w.shown; sound = w.sound; marks = w.marks }
