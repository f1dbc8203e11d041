-- What the statements that write a row make of an schema, for a table of any form.
use Rattle.std.proofs.Common.{[], ◌≡◌, ◌≢◌, ℕ, suc, ◌+◌, ◌==◌, List, ◌∷◌, append-nil, length, drop, Bool, true, false, not, ◌&&◌, ◌||◌, Option, None, Ok, Err, Result, OnOk, IfOk, arith, inl, inr, refl, sym, ap, subst, ◌∙◌}
use Rattle.sqlite_schema.specs.declared.schema.Schema.{Schema}
use Rattle.std.specs.List.{AllByRecursion, flat_map, list_all}
use Rattle.std.proofs.lemmas.Bool.{cases_Bool, and_parts, not-true, true≢false}
use Rattle.std.proofs.lemmas.Bool.Decides.{nat_tests}
use Rattle.sqlite_value.specs.declared.value.Value.{Value}
use Rattle.sqlite_value.specs.declared.value.Value.TheVariants.{Null, Int, Real, Text, Blob}
use Rattle.sqlite_value.specs.Keys.{plain}
use Rattle.sqlite_value.specs.Order.{Row}
use Rattle.sqlite_trees.specs.Tree.{Trees}
use Rattle.sqlite_trees.specs.View.{IsShaped}
use Rattle.sqlite_trees.specs.declared.store.Shape.TheVariants as shape
use Rattle.sqlite_sql.specs.Ops.{is_null}
use Rattle.sqlite_schema.specs.Names.{is_key}
use Rattle.sqlite_schema.specs.Rules.{are_present, are_typed, clashes, has_computed, passes, Obeys}
use Rattle.sqlite_schema.specs.declared.schema.Column.{Column}
use Rattle.sqlite_schema.specs.declared.schema.Constraint.{Constraint}
use Rattle.sqlite_schema.specs.declared.schema.Constraint.TheVariants.{Datatype, NotNull, Unique}
use Rattle.sqlite_schema.specs.declared.schema.Table.{Table}
use Rattle.sqlite_rules.specs.Cast.{cast_all}
use Rattle.sqlite_rules.specs.Lists.{Has}
use Rattle.sqlite_rules.proofs.ListLemmas.{all_has}
use Rattle.sqlite.specs.Effect.{Database}
use Rattle.sqlite.specs.Rows.{mended_from}
use Rattle.sqlite.specs.State.{State, Executes, ExecutesInside}
use Rattle.hh_tables.specs.Tables as tables
use Rattle.hh_keyed_rows.specs.Codecs.{is_discrete, places_from}
use Rattle.hh_keyed_rows.specs.KeyedRows.{columns_of, stored_entry, table_in}
use Rattle.hh_keyed_rows.specs.Laws.{Fits}
use Rattle.hh_keyed_rows.proofs.CodecLaws.{all_append}
use Rattle.hh_keyed_rows.proofs.PutLaws.{put_by, PutsEach}
use Rattle.hh_keyed_rows.proofs.ReplaceLaws.{put_in_table, shaped_put}
use Rattle.hh_keyed_rows.proofs.RuleLaws.{typed_length}
use Rattle.hh_sqltables.specs.steps.Trying.{ExecutesOrLeaves}
use Rattle.hh_sqltables.proofs.GroupLaws.{group_values}
use Rattle.hh_sqltables.proofs.ManyLaws.{kept_again}
use Rattle.hh_sqltables.proofs.InsertLaws.{insert_by, insert_each_in_table, shaped_each}
use Rattle.hh_sqltables.specs.Forms.{IsOfficeOf, KeepsOthersIn, PutsAllIn, PutsAllOrLeavesIn, PutsIn, RowidsRise, TableForm, rows_under_keys}
use Rattle.hh_sqltables.specs.Terms.{group_terms}
use Rattle.hh_sqltables.specs.Texts.{AreOfKinds, IsFormIn, IsInsertOf, IsReplaceOf, columns_in, width_of}

-- the facts of each form, by computing
pub or_false : (b : Bool) → (b || false) ≡ b
or_false true = refl
or_false false = refl

pub no_clash : (b : Bool) → (not b && true) ≡ true → b ≡ false
no_clash b h = not-true _ (and_parts _ _ h).0

-- ---- values of their kinds

pub of_kinds : (cs : List Column) (vs : Row) → AreOfKinds cs vs → cast_all cs vs ≡ vs
of_kinds [] vs h = refl
of_kinds (c ∷ cs) [] h = absurd h
of_kinds (c ∷ cs) (v ∷ vs) h = let first = h.0 in let rest = of_kinds cs vs h.1 in λ i. first i ∷ rest i

unless : (a b : Bool) → ((a && false) && b) ≡ false
unless true b = refl
unless false b = refl

not_null : (v : Value) → is_discrete v ≡ true → is_null v ≡ false
not_null Null h = absurd (true≢false (sym h))
not_null (Int n) h = refl
not_null (Real x) h = absurd (true≢false (sym h))
not_null (Text t) h = refl
not_null (Blob b) h = refl

mends : (key : Option ℕ) (at : ℕ) (cs : List Column) (vs : Row) → list_all is_discrete vs ≡ true → length vs ≡ length cs → mended_from key at cs vs ≡ vs
mends key at [] vs all long = refl
mends key at (c ∷ cs) [] all long = refl
mends key at (c ∷ cs) (v ∷ vs) all long =
    let two = and_parts (is_discrete v) (list_all is_discrete vs) all in
    let test : (c.not_null && is_null v && not (is_key key at)) ≡ false = ap (λ b. c.not_null && b && not (is_key key at)) (not_null v two.0) ∙ unless c.not_null (not (is_key key at)) in
    let first = ap (λ b. Rattle.std.specs.Prelude.if◌then◌else◌ b c.default v) test in
    let rest = mends key (at + 1) cs vs two.1 (cc long) in
    λ i. first i ∷ rest i

-- ---- rowids

-- the rowids of the table in one tree rise, and each other table is as it was
pub risen : (tables : List Table) (tree : ℕ) (old new : Trees) → AllByRecursion (λ t. IsShaped shape.Table (old t.tree)) tables → IsShaped shape.Table (new tree)
    → AllByRecursion (λ t. t.tree ≢ tree → new t.tree ≡ old t.tree) tables → AllByRecursion (λ t. IsShaped shape.Table (new t.tree)) tables
risen [] tree old new were is others = tt
risen (t ∷ tables) tree old new were is others =
    let first : IsShaped shape.Table (new t.tree) = elim (cases_Bool (t.tree == tree)) [
      | inl same ↦ (let e : tree ≡ t.tree = grind (arith, nat_tests) in subst (λ n. IsShaped shape.Table (new n)) e is)
      | inr apart ↦ subst (IsShaped shape.Table) (sym (others.0 (λ e. let at : (t.tree == tree) ≡ true = grind (arith, nat_tests) in true≢false (sym at ∙ apart)))) were.0
    ] in
    (first, risen tables tree old new were.1 is others.1)

-- equal trees have the same tables
all_same : (tables : List Table) (tree : ℕ) (old new : Trees) → new ≡ old → AllByRecursion (λ t. t.tree ≢ tree → new t.tree ≡ old t.tree) tables
all_same [] tree old new same = tt
all_same (t ∷ tables) tree old new same = ((λ apart. ap (λ (db : Trees). db t.tree) same), all_same tables tree old new same)

-- ---- the rules of a form's rows

module _ (schema : Schema) {K V : Type 0} (form : TableForm K V) (is_form : IsFormIn schema form) (db : Database) (is : IsOfficeOf schema db) where
  rules : Obeys schema db.trees
  rules = subst (λ s. Obeys s db.trees) is.schema is.sound.obeys

  abbrev Passes : Constraint → Row → Type 0
  Passes rule r = passes rule schema db.trees form.table r ≡ true

  passed : (rule : Constraint) (r : Row) → Has (db.trees form.table.tree) r → Passes rule r
  passed rule r h =
      all_has (Passes rule) (db.trees form.table.tree) r
      (all_has (λ (t : Table). AllByRecursion (λ r. passes rule schema db.trees t r ≡ true) (db.trees t.tree)) schema.tables form.table (rules.rules rule) is_form.there) h

  pub long_rows : (r : Row) → Has (db.trees form.table.tree) r → length (drop 1 r) ≡ width_of form
  long_rows r h =
      typed_length r 0 form.table.columns is_form.present (and_parts (are_typed None 0 form.table.columns (drop 1 r)) (has_computed form.table r) (typed r h)).0 (there r h) ∙ is_form.long
    where
      typed : (r : Row) → Has (db.trees form.table.tree) r → (are_typed None 0 form.table.columns (drop 1 r) && has_computed form.table r) ≡ true
      typed r h = subst (λ k. (are_typed k 0 form.table.columns (drop 1 r) && has_computed form.table r) ≡ true) is_form.unkeyed (passed Datatype r h)

      there : (r : Row) → Has (db.trees form.table.tree) r → are_present None 0 form.table.columns r ≡ true
      there r h = subst (λ k. are_present k 0 form.table.columns r ≡ true) is_form.unkeyed (passed NotNull r h)

  pub unique_rows : (r : Row) → Has (db.trees form.table.tree) r → clashes plain (places_from 1 form.key.width) (db.trees form.table.tree) r ≡ false
  unique_rows r h = is_form.unique db.trees r (passed Unique r h)

  pub shaped_rows : IsShaped shape.Table (db.trees form.table.tree)
  shaped_rows = all_has (λ t. IsShaped shape.Table (db.trees t.tree)) schema.tables form.table is.rising is_form.there

-- ---- the statements

module _ (schema : Schema) {K V : Type 0} (form : TableForm K V) (is_form : IsFormIn schema form) where
  abbrev entry_columns : K × V → Row
  entry_columns = columns_of form.key form.value

  wide : (e : K × V) → length (entry_columns e) ≡ width_of form
  wide e = Rattle.std.proofs.Common.length-append (form.key.write e.0) (form.value.write e.1) ∙ (λ i. is_form.is_key.wide e.0 i + is_form.is_value.wide e.1 i)

  kept : (e : K × V) → cast_all form.table.columns (entry_columns e) ≡ entry_columns e
  kept e = of_kinds _ _ (is_form.kinds e.0 e.1)

  mended : (e : K × V) → mended_from form.table.key 0 form.table.columns (entry_columns e) ≡ entry_columns e
  mended e =
      mends form.table.key 0 form.table.columns (entry_columns e) (all_append is_discrete (form.key.write e.0) (form.value.write e.1) (is_form.is_key.plain e.0) (is_form.is_value.plain e.1)) (wide e ∙ sym is_form.long)

  -- what rows that are written one after the other make of the trees
  record HasPut (es : List (K × V)) (old new : Trees) : Type 0 where
    rising : RowidsRise schema new
    rows : rows_under_keys form new ≡ tables.put_all form.order es (rows_under_keys form old)
    others : KeepsOthersIn schema form.table.tree old new

  put_each : (es : List (K × V)) → AllByRecursion (Fits form.key form.value) es → (old new : Trees) → RowidsRise schema old → PutsEach schema form.table entry_columns es old new → HasPut es old new
  put_each [] fits old new rises h = record {
    rising = subst (RowidsRise schema) (sym h) rises;
    rows = ap (rows_under_keys form) h;
    others = all_same schema.tables form.table.tree old new h;
  }
  put_each (e ∷ es) fits old new rises h =
      let mid = h.0 in
      let shaped : IsShaped shape.Table (old form.table.tree) = all_has (λ t. IsShaped shape.Table (old t.tree)) schema.tables form.table rises is_form.there in
      let shaped_mid = shaped_put schema form.table old mid (entry_columns e) shaped h.1 in
      let first = put_in_table schema form.table form.order is_form.total is_form.exact form.key form.value is_form.is_key is_form.is_value is_form.indexed old mid e.0 e.1 fits.0.0 fits.0.1 shaped h.1 in
      let rest = put_each es fits.1 mid new (risen schema.tables form.table.tree old mid rises shaped_mid h.1.others) h.2 in
      record {
        rising = rest.rising;
        rows = rest.rows ∙ ap (tables.put_all form.order es) first;
        others = kept_again schema.tables form.table.tree old mid new h.1.others rest.others;
      }

  module _ (es : List (K × V)) (old new : State) (is : IsOfficeOf schema old.now) (sql : List ℕ) where
    replaces : AllByRecursion (Fits form.key form.value) es → (n : ℕ) → length es ≡ n → IsReplaceOf schema form sql n → (count : ℕ)
        → Executes sql (flat_map entry_columns es) old new (Ok count) → PutsAllIn schema form es old.now new.now
    replaces fits n long text count h =
        let values = group_values entry_columns (width_of form) wide form.table is_form.unstamped n es long in
        let puts = put_by schema form.at form.table is_form.listed is_form.uncounted is_form.free (group_terms (width_of form) 0 n) (suc (width_of form)) sql text.0 text.1 entry_columns es (flat_map entry_columns es) values kept mended old new count is.schema h in
        let made = put_each es fits old.now.trees new.now.trees is.rising puts.each in
        record {
          is_office = record { schema = puts.schema; sound = puts.sound; rising = made.rising };
          rows = made.rows;
          others = made.others;
        }

    inserts : AllByRecursion (Fits form.key form.value) es → (n : ℕ) → length es ≡ n → IsInsertOf schema form sql n → (count : ℕ)
        → Executes sql (flat_map entry_columns es) old new (Ok count) → PutsAllIn schema form es old.now new.now
    inserts fits n long text count h =
        let values = group_values entry_columns (width_of form) wide form.table is_form.unstamped n es long in
        let puts = insert_by entry_columns es schema form.at form.table is_form.listed is_form.uncounted is_form.free (group_terms (width_of form) 0 n) (suc (width_of form)) sql text.0 text.1 (flat_map entry_columns es) values kept old new count is.schema h in
        let shaped = shaped_rows schema form is_form old.now is in
        let office_is : IsOfficeOf schema new.now = record {
          schema = puts.schema_is;
          sound = puts.sound;
          rising = risen schema.tables form.table.tree old.now.trees new.now.trees is.rising (subst (IsShaped shape.Table) (sym puts.rows) (shaped_each entry_columns es _ shaped)) puts.others;
        } in
        let unique = subst (λ (rows : List Row). (r : Row) → Has rows r → clashes plain (places_from 1 form.key.width) rows r ≡ false) puts.rows (unique_rows schema form is_form new.now office_is) in
        record {
          is_office = office_is;
          rows = ap (table_in form.order (stored_entry form.key form.value)) puts.rows ∙ insert_each_in_table schema form.table form.order is_form.total is_form.exact form.key form.value is_form.is_key is_form.is_value is_form.indexed es (old.now.trees form.table.tree) fits shaped unique;
          others = puts.others;
        }

    -- rows that one statement writes, or leaves; their values fit if it is executed
    pub inserts_or_leaves_by : {E : Type 0} (n : ℕ) → length es ≡ n → IsInsertOf schema form sql n → (r : Result Bool E) → OnOk r (AllByRecursion (Fits form.key form.value) es)
        → IfOk r (ExecutesOrLeaves sql (flat_map entry_columns es) old new) → IfOk r (PutsAllOrLeavesIn schema form es old.now new.now)
    inserts_or_leaves_by n long text (Ok true) fits h = inserts fits n long text h.0 h.1.0
    inserts_or_leaves_by n long text (Ok false) fits h = h
    inserts_or_leaves_by n long text (Err e) fits h = tt

-- one row whose values fit if the statement is executed
module _ (schema : Schema) {K V : Type 0} (form : TableForm K V) (is_form : IsFormIn schema form) (k : K) (v : V) (old new : State) (is : IsOfficeOf schema old.now) (sql : List ℕ) where
  as_one : (count : ℕ) → Executes sql (columns_in form k v) old new (Ok count) → Executes sql (flat_map (columns_of form.key form.value) ((k, v) ∷ [])) old new (Ok count)
  as_one count h = subst (λ ps. Executes sql ps old new (Ok count)) (sym (append-nil (columns_in form k v))) h

  of_one : PutsAllIn schema form ((k, v) ∷ []) old.now new.now → PutsIn schema form k v old.now new.now
  of_one all = record { is_office = all.is_office; rows = all.rows; others = all.others }

  pub puts_by : {E : Type 0} → IsReplaceOf schema form sql 1 → (r : Result Unit E) → OnOk r ((form.key.fits k ≡ true) × (form.value.fits v ≡ true)) → OnOk r ((count : ℕ) × ExecutesInside 0 sql (columns_in form k v) old new (Ok count)) → OnOk r (PutsIn schema form k v old.now new.now)
  puts_by text (Ok done) fits h = of_one (replaces schema form is_form ((k, v) ∷ []) old new is sql (fits, tt) 1 refl text h.0 (as_one h.0 h.1.0))
  puts_by text (Err e) fits h = tt

  pub inserts_by : {E : Type 0} → IsInsertOf schema form sql 1 → (r : Result Unit E) → OnOk r ((form.key.fits k ≡ true) × (form.value.fits v ≡ true)) → OnOk r ((count : ℕ) × ExecutesInside 0 sql (columns_in form k v) old new (Ok count)) → OnOk r (PutsIn schema form k v old.now new.now)
  inserts_by text (Ok done) fits h = of_one (inserts schema form is_form ((k, v) ∷ []) old new is sql (fits, tt) 1 refl text h.0 (as_one h.0 h.1.0))
  inserts_by text (Err e) fits h = tt
