-- What a statement that selects rows of one table answers, for a table of any form.
use Rattle.std.proofs.Common.{◌≡◌, inl, inr, ◌+◌, ℕ, suc, List, [], ◌∷◌, ◌++◌, length, map, filter, Bool, true, false, cond, Option, Some, Ordering, Less, is_eq, Ok, Err, Result, IfOk, IsTrue, Vec, refl, sym, ap, subst, ◌∙◌}
use Rattle.sqlite_schema.specs.declared.schema.Schema.{Schema}
use Rattle.std.specs.Prelude.{filter_map, option_map, slice_get}
use Rattle.std.specs.List.{flat_map, list_all}
use Rattle.std.specs.Cmp.{IsTotalOrder}
use Rattle.std.specs.FinMap.{find}
use Rattle.std.specs.declared.alloc.Global.{Global}
use Rattle.std.proofs.lemmas.Cmp.{tied_itself}
use Rattle.std.proofs.lemmas.List.Elements.{filter_map-append}
use Rattle.std.proofs.lemmas.Map.Lookups.{CmpEqualImpliesEq}
use Rattle.sqlite_value.specs.declared.value.Value.{Value}
use Rattle.sqlite_value.specs.declared.value.Value.TheVariants.{Null}
use Rattle.sqlite_value.specs.Order.{Row}
use Rattle.sqlite_sql.specs.Term.{Term, holds}
use Rattle.sqlite_sql.specs.Query.{IsAnswer, Output, Query, output, output_cmp}
use Rattle.sqlite_sql.specs.Program.{overlay}
use Rattle.sqlite.specs.Listing.{understood}
use Rattle.sqlite.specs.Clock.{timed}
use Rattle.sqlite.specs.State.{State, Shown}
use Rattle.sqlite.proofs.Callers.{EndsIn, IsPlain, begins_shown, command_of, reads_as}
use Rattle.hh_keyed_rows.specs.Codecs.{Codec, IsCodec, places_from}
use Rattle.hh_keyed_rows.specs.KeyedRows.{entry_in}
use Rattle.hh_keyed_rows.proofs.PlaceLaws.{is_Equal}
use Rattle.hh_keyed_rows.proofs.RuleLaws.{all_columns, has_rowid, once}
use Rattle.hh_keyed_rows.proofs.SelectLaws.{all_read, answers, map_map, selected}
use Rattle.hh_keyed_rows.specs.output_fault.OutputFault.{OutputFault}
use Rattle.hh_sqltables.specs.Giving.{GivesEach, GivesSo}
use Rattle.hh_sqltables.specs.steps.Answers.{IsFirst, IsRead}
use Rattle.hh_sqltables.specs.steps.Streams.{IsBegun, OfPlain}
use Rattle.hh_sqltables.proofs.FormLaws.{long_rows, shaped_rows, unique_rows}
use Rattle.hh_sqltables.proofs.StreamLaws.{unchanged_itself}
use Rattle.hh_sqltables.proofs.WhereLaws.{follows_by, same_test, shown_columns, tested_by}
use Rattle.hh_sqltables.specs.Forms.{IsOfficeOf, TableForm, rows_under_keys}
use Rattle.hh_sqltables.specs.Frames.{OfOfficeOf, Stood}
use Rattle.hh_sqltables.specs.Terms.{select_by}
use Rattle.hh_sqltables.specs.Texts.{IsFormIn, IsOrderBy, IsSelect, StandAt, columns_in, width_of}

-- ---- a statement

-- a statement that is plain under the schema of an schema is plain in an schema
pub plain_under : (schema : Schema) (sql : List ℕ) → IsPlain (understood schema sql) → (old : State) → IsOfficeOf schema old.now → IsPlain (understood old.now.schema sql)
plain_under schema sql plain old is = subst (λ s. IsPlain (understood s sql)) (sym is.schema) plain

module _ (schema : Schema) {K V : Type 0} (form : TableForm K V) (is_form : IsFormIn schema form) (places order : List ℕ) (sql : List ℕ) (text : IsSelect schema form sql places order) (by : IsOrderBy form order) (params : Row) (p : K → Bool)
    (tested : (id : Value) (k : K) (v : V) → list_all (holds (params ∷ (id ∷ columns_in form k v) ∷ [])) (select_by form places order).filter ≡ p k) where
  abbrev query : Query
  query = select_by form places order

  abbrev test : Row → Bool
  test r = list_all (holds (params ∷ r ∷ [])) query.filter

  outputs : (id : Value) (e : K × V) → output query (params ∷ (id ∷ columns_in form e.0 e.1) ∷ []) ≡ (by.codec.write e.0, columns_in form e.0 e.1)
  outputs id e =
      let row : Row = id ∷ columns_in form e.0 e.1 in
      let long : length (columns_in form e.0 e.1) ≡ width_of form = Rattle.std.proofs.Common.length-append (form.key.write e.0) (form.value.write e.1) ∙ (λ i. is_form.is_key.wide e.0 i + is_form.is_value.wide e.1 i) in
      let first = ap (λ (ts : List Term). Rattle.sqlite_sql.specs.Term.eval_all ts (params ∷ row ∷ [])) (map_map (λ (k : Term × Rattle.sqlite_value.specs.declared.keys.Key.Key). k.0) _ order) ∙ shown_columns order row params ∙ by.stand id e.0 e.1 in
      let second = shown_columns (places_from 1 (width_of form)) row params ∙ all_columns row 1 (width_of form) long in
      λ i. (first i, second i)

  follows : (a b : K × V) → form.order a.0 b.0 ≡ Less → output_cmp query (by.codec.write a.0, columns_in form a.0 a.1) (by.codec.write b.0, columns_in form b.0 b.1) ≡ Less
  follows a b h = follows_by by.codec form.order by.is_codec by.ordered order by.wide a.0 b.0 ∙ h

  -- what is read from the answer is the rows that pass the test
  answered_by : (old new : State) (rows : List Row) → IsOfficeOf schema old.now → Shown sql params old new rows
      → filter_map (entry_in form.key form.value) rows ≡ filter (λ e. p e.0) (rows_under_keys form old.now.trees)
  answered_by old new rows is h =
      let tree : List Row = old.now.trees form.table.tree in
      let reads = reads_as sql params old new schema is.schema _ text.command text.plain text.unlisted rows h in
      let a : IsAnswer query (overlay old.now.trees []) params rows = reads.answer Null in
      let out : Row → Output = λ r. output query (params ∷ r ∷ []) in
      let staged : a.staged ≡ map (λ r. params ∷ r ∷ []) (filter test tree) = a.grouped ∙ ap (λ (rs : List Row). flat_map (λ r. cond (test r) ((params ∷ r ∷ []) ∷ []) []) rs) (is_form.own old.now.trees) ∙ selected test (λ r. params ∷ r ∷ []) tree in
      let kept : a.kept ≡ map out (filter test tree) = a.distinct ∙ ap (map (output query)) staged ∙ map_map (output query) (λ r. params ∷ r ∷ []) (filter test tree) in
      let long = long_rows schema form is_form old.now is in
      let shaped = shaped_rows schema form is_form old.now is in
      answers form.order is_form.total is_form.exact form.key form.value is_form.is_key is_form.is_value query params tree test p by.codec.write
      (λ id e. tested id e.0 e.1) outputs (λ r l. shown_columns (places_from 1 (width_of form)) r params ∙ all_columns r 1 (width_of form) (long r l)) (λ r l. has_rowid r by.most (long r l ∙ by.some)) follows shaped.0
      (once schema form.table form.order is_form.total is_form.exact form.key form.value is_form.is_key is_form.is_value is_form.indexed tree shaped (unique_rows schema form is_form old.now is))
      rows a.kept a.ordered kept a.same a.sorted a.shown

  found_by : (old new : State) (rows : List Row) (found : List (K × V)) → IsOfficeOf schema old.now → Shown sql params old new rows → map (entry_in form.key form.value) rows ≡ map Some found
      → found ≡ filter (λ e. p e.0) (rows_under_keys form old.now.trees)
  found_by old new rows found is h read = sym (all_read (entry_in form.key form.value) rows found read) ∙ answered_by old new rows is h

  -- if the answer begins with some rows, these are the first of the rows that pass the test
  begun_by : (now : State) (found : List (K × V)) → IsOfficeOf schema now.now → IsTrue now.is_open → IsBegun form.key form.value sql params now found
      → (rest : List (K × V)) × (filter (λ e. p e.0) (rows_under_keys form now.now.trees) ≡ found ++ rest)
  begun_by now found is opened (inl none) =
      let all = filter (λ (e : K × V). p e.0) (rows_under_keys form now.now.trees) in (all, ap (λ es. es ++ all) (sym none))
  begun_by now found is opened (inr h) =
      let rows = h.0 in
      let whole = begins_shown sql params now now rows h.1 (unchanged_itself now opened) (λ c db it source.
      subst (λ k. EndsIn k db (timed params c.formats it.now)) (sym text.command ∙ ap (λ s. command_of (understood s sql)) (sym is.schema) ∙ ap command_of it.is) tt) in
      let later = filter_map (entry_in form.key form.value) whole.0 in (
        later,
        sym (answered_by now now (rows ++ whole.0) is whole.1) ∙ filter_map-append (entry_in form.key form.value) rows whole.0
            ∙ ap (λ es. es ++ later) (all_read (entry_in form.key form.value) rows found h.2),
      )

-- ---- rows by the value of a part of their keys

module _ (schema : Schema) {K V A : Type 0} (form : TableForm K V) (is_form : IsFormIn schema form) (places order : List ℕ) (sql : List ℕ) (text : IsSelect schema form sql places order)
    (by : IsOrderBy form order) (R : A → A → Ordering) (total : IsTotalOrder R) (exact : CmpEqualImpliesEq R) (c : Codec A) (is_c : IsCodec c) (part : K → A) (narrow : length places ≡ c.width) (picked : StandAt form c part places) where
  selects_by : (a : A) (old new : State) (rows : List Row) (found : List (K × V)) → IsOfficeOf schema old.now → Shown sql (c.write a) old new rows → map (entry_in form.key form.value) rows ≡ map Some found
      → found ≡ filter (λ e. is_eq (R (part e.0) a)) (rows_under_keys form old.now.trees)
  selects_by a =
      found_by schema form is_form places order sql text by (c.write a) (λ k. is_eq (R (part k) a))
      (λ id k v. tested_by R total exact c is_c places (id ∷ columns_in form k v) (part k) a narrow (picked id k v))

  -- the rows that are read are those with the value that is asked for
  pub lists_by : {E : Type 0} (a : A) (old new : State) (r : Result (Vec (K × V) Global) E) → IsOfficeOf schema old.now → IfOk r (λ found. IsRead form.key form.value sql (c.write a) old new found.items)
      → IfOk r (λ found. found.items ≡ filter (λ e. is_eq (R (part e.0) a)) (rows_under_keys form old.now.trees))
  lists_by a old new (Ok found) is h = selects_by a old new h.0 found.items is h.1 h.2
  lists_by a old new (Err e) is h = tt

  -- the rows that are read so far are the first of those with the value that is asked for
  pub begins_by : (a : A) (now : State) (found : List (K × V)) → IsOfficeOf schema now.now → IsTrue now.is_open → IsBegun form.key form.value sql (c.write a) now found
      → (rest : List (K × V)) × (filter (λ e. is_eq (R (part e.0) a)) (rows_under_keys form now.now.trees) ≡ found ++ rest)
  begins_by a =
      begun_by schema form is_form places order sql text by (c.write a) (λ k. is_eq (R (part k) a))
      (λ id k v. tested_by R total exact c is_c places (id ∷ columns_in form k v) (part k) a narrow (picked id k v))

  -- the rows that are given are those with the value that is asked for
  pub gives_by : {B : Type 0} (Has : List (K × V) → Type 0) (Stopped : OutputFault → List (K × V) → Type 0) (a : A) (old new : State) (r : Result B OutputFault) → Stood old new
      → GivesSo Has Stopped (λ taken. OfPlain old new sql (IsRead form.key form.value sql (c.write a) old new taken)) (λ taken. OfPlain old new sql (IsBegun form.key form.value sql (c.write a) old taken)) r
      → GivesEach Has Stopped (OfOfficeOf schema old new) (filter (λ e. is_eq (R (part e.0) a)) (rows_under_keys form old.now.trees)) r
  gives_by Has Stopped a old new (Ok x) stood given =
      (given.0, given.1, λ stands is. let all = given.2 stands (plain_under schema sql text.plain old is) in selects_by a old new all.0 given.0 is all.1 all.2)
  gives_by Has Stopped a old new (Err fault) stood given =
      (given.0, given.1, λ stands is. begins_by a old given.0 is (stood stands) (given.2 stands (plain_under schema sql text.plain old is)))

-- ---- all rows

all_of : {X : Type 0} (xs : List X) → filter (λ _. true) xs ≡ xs
all_of [] = refl
all_of (x ∷ xs) = ap (λ ys. x ∷ ys) (all_of xs)

module _ (schema : Schema) {K V : Type 0} (form : TableForm K V) (is_form : IsFormIn schema form) (order : List ℕ) (sql : List ℕ) (text : IsSelect schema form sql [] order) (by : IsOrderBy form order) where
  -- all rows are read
  pub lists_all : {E : Type 0} (old new : State) (r : Result (Vec (K × V) Global) E) → IsOfficeOf schema old.now → IfOk r (λ found. IsRead form.key form.value sql [] old new found.items)
      → IfOk r (λ found. found.items ≡ rows_under_keys form old.now.trees)
  lists_all old new (Ok found) is h = found_by schema form is_form [] order sql text by [] (λ k. true) (λ id k v. refl) old new h.0 found.items is h.1 h.2 ∙ all_of (rows_under_keys form old.now.trees)
  lists_all old new (Err e) is h = tt

  pub begins_all : (now : State) (found : List (K × V)) → IsOfficeOf schema now.now → IsTrue now.is_open → IsBegun form.key form.value sql [] now found
      → (rest : List (K × V)) × (rows_under_keys form now.now.trees ≡ found ++ rest)
  begins_all now found is opened h =
      let begun = begun_by schema form is_form [] order sql text by [] (λ k. true) (λ id k v. refl) now found is opened h in
      (begun.0, sym (all_of (rows_under_keys form now.now.trees)) ∙ begun.1)

  pub gives_all : {B : Type 0} (Has : List (K × V) → Type 0) (Stopped : OutputFault → List (K × V) → Type 0) (old new : State) (r : Result B OutputFault) → Stood old new
      → GivesSo Has Stopped (λ taken. OfPlain old new sql (IsRead form.key form.value sql [] old new taken)) (λ taken. OfPlain old new sql (IsBegun form.key form.value sql [] old taken)) r
      → GivesEach Has Stopped (OfOfficeOf schema old new) (rows_under_keys form old.now.trees) r
  gives_all Has Stopped old new (Ok x) stood given = (
    given.0,
    given.1,
    λ stands is.
        let all = given.2 stands (plain_under schema sql text.plain old is) in
        found_by schema form is_form [] order sql text by [] (λ k. true) (λ id k v. refl) old new all.0 given.0 is all.1 all.2 ∙ all_of (rows_under_keys form old.now.trees),
  )
  gives_all Has Stopped old new (Err fault) stood given =
      (given.0, given.1, λ stands is. begins_all old given.0 is (stood stands) (given.2 stands (plain_under schema sql text.plain old is)))

-- ---- the row of a key

module _ {K : Type 0} (R : K → K → Ordering) (total : IsTotalOrder R) (exact : CmpEqualImpliesEq R) (q : K) where
  back : (a b : K) → is_eq (R a b) ≡ true → is_eq (R b a) ≡ true
  back a b h = let same = exact a b (is_Equal _ h) in ap (λ x. is_eq (R b x)) same ∙ ap is_eq (tied_itself total b)

  is_eq_back : (k : K) → is_eq (R k q) ≡ is_eq (R q k)
  is_eq_back k = same_test _ _ (back k q) (back q k)

  -- the value of the first of the rows with a key is what is found under the key
  pub first_found : {V : Type 0} (es : List (K × V)) → option_map (λ (e : K × V). e.1) (slice_get (filter (λ e. is_eq (R e.0 q)) es) 0) ≡ find R q es
  first_found {V} [] = refl
  first_found {V} (e ∷ es) = go (is_eq (R e.0 q)) (is_eq_back e.0) (first_found es)
    where
      go : (b : Bool) → b ≡ is_eq (R q e.0) → option_map (λ (e : K × V). e.1) (slice_get (filter (λ e. is_eq (R e.0 q)) es) 0) ≡ find R q es
          → option_map (λ (e : K × V). e.1) (slice_get (cond b (e ∷ filter (λ e. is_eq (R e.0 q)) es) (filter (λ e. is_eq (R e.0 q)) es)) 0) ≡ cond (is_eq (R q e.0)) (Some e.1) (find R q es)
      go true is more = ap (λ b. cond b (Some e.1) (find R q es)) is
      go false is more = more ∙ ap (λ b. cond b (Some e.1) (find R q es)) is

module _ (schema : Schema) {K V : Type 0} (form : TableForm K V) (is_form : IsFormIn schema form) (places order : List ℕ) (sql : List ℕ) (text : IsSelect schema form sql places order) (by : IsOrderBy form order)
    (narrow : length places ≡ form.key.width) (picked : StandAt form form.key (λ k. k) places) where
  -- the value that is read is the one under the key
  pub gets_by : {E : Type 0} (k : K) (old new : State) (r : Result (Option V) E) → IsOfficeOf schema old.now → IfOk r (λ value. IsFirst form.key form.value sql (form.key.write k) old new value)
      → IfOk r (λ value. value ≡ find form.order k (rows_under_keys form old.now.trees))
  gets_by k old new (Ok value) is h =
      h.2 ∙ ap (λ (es : List (K × V)). option_map (λ (e : K × V). e.1) (slice_get es 0)) (selects_by schema form is_form places order sql text by form.order is_form.total is_form.exact form.key is_form.is_key (λ k. k) narrow picked k old new h.1.0 h.0 is h.1.1 h.1.2)
      ∙ first_found form.order is_form.total is_form.exact k (rows_under_keys form old.now.trees)
  gets_by k old new (Err e) is h = tt
