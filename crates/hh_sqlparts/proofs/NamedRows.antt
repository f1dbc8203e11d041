-- What is found in rows of a table that were read by names, one name after the other.
use Rattle.std.proofs.Common.{◌≡◌, List, [], ◌∷◌, ◌++◌, Bool, true, false, cond, refl, sym, ap, ◌∙◌, Option, Some, None, Ordering}
use Rattle.std.specs.Prelude.{◌||◌, is_some, filter, T}
use Rattle.std.specs.Cmp.{IsTotalOrder, Equal-is, eq_by_cmp_equiv}
use Rattle.std.specs.FinMap.{find, is_sorted, put}
use Rattle.std.specs.FinMap.Entries.{below_all, find-put, find-where_key, find_tied, is_sorted-where_key, same_entries}
use Rattle.std.specs.List.{All, AllByRecursion, flat_map, list_any}
use Rattle.std.specs.Option.{IfSome}
use Rattle.std.specs.Ordering.{eq_by_cmp, is_eq, ordering_reverse}
use Rattle.std.specs.declared.cmp.Ordering.TheVariants.{Equal, Greater}
use Rattle.std.proofs.lemmas.List.Elements.{All-append, All-filter, All-from_recursion, All-nil, recursion_from_All}
use Rattle.hh_tables.specs.Tables.{IsTable, Table, put_all}
use Rattle.hh_tables.proofs.RowLaws.{first, less, second}
use Rattle.hh_names.specs.declared.values.Reallocation.{Reallocation}
use Rattle.hh_rows.specs.declared.keys.ReallocationKey.{ReallocationKey}
use Rattle.hh_rows.specs.declared.rows.Row.{Row}
use Rattle.hh_rows.specs.Keys.{reallocation_key_cmp}
use Rattle.hh_sqlparts.specs.steps.Named.{entry_under, found_entry, reallocations_of, unit_of}

-- for the units of rows, the part has the reallocations that the whole has
abbrev pub HasReallocations : List Row → Table ReallocationKey Reallocation → Table ReallocationKey Reallocation → Type 0
HasReallocations rows whole part =
    IsTable reallocation_key_cmp part × All (λ r. IfSome (unit_of r) (λ unit. reallocations_of part unit ≡ reallocations_of whole unit)) rows

-- what holds for all items of several lists holds for all items of the joined list
all_flat : {N X : Type 0} (P : X → Type 0) (rows : N → List X) → ((n : N) → All P (rows n)) → (ns : List N) → All P (flat_map rows ns)
all_flat P rows each [] = All-nil P
all_flat P rows each (n ∷ ns) = All-append P (rows n) (flat_map rows ns) (each n) (all_flat P rows each ns)

-- what is found in the first of two, or in both alike
found_once : {V : Type 0} (b : Bool) (o : Option V) → cond (is_some o) o (cond b o None) ≡ o
found_once true None = refl
found_once true (Some v) = refl
found_once false None = refl
found_once false (Some v) = refl

found_later : {V : Type 0} (o : Option V) → cond (is_some o) o None ≡ o
found_later None = refl
found_later (Some v) = refl

module _ {K V : Type 0} (R : K → K → Ordering) where
  find_joined : (k : K) (xs ys : List (K × V)) → find R k (xs ++ ys) ≡ cond (is_some (find R k xs)) (find R k xs) (find R k ys)
  find_joined k [] ys = refl
  find_joined k (x ∷ xs) ys = elim (eq_by_cmp R k x.0) as (λ b. cond b (Some x.1) (find R k (xs ++ ys)) ≡ cond (is_some (cond b (Some x.1) (find R k xs))) (cond b (Some x.1) (find R k xs)) (find R k ys)) [
    | true ↦ refl
    | false ↦ find_joined k xs ys
  ]

  -- an entry is in a table
  abbrev pub IsOf : Table K V → K × V → Type 0
  IsOf whole e = find R e.0 whole ≡ Some e.1

  -- Rows that are read by names. The rows of a name are the rows of a table whose keys the name keeps.
  module _ (whole : Table K V) {N : Type 0} (rows : N → Table K V) (keeps : N → K → Bool) (found : (n : N) (k : K) → find R k (rows n) ≡ cond (keeps n k) (find R k whole) None) where
    find_selected : (k : K) (ns : List N) → find R k (flat_map rows ns) ≡ cond (list_any (λ n. keeps n k) ns) (find R k whole) None
    find_selected k [] = refl
    find_selected k (n ∷ ns) =
        find_joined k (rows n) (flat_map rows ns)
        ∙ (λ i. cond (is_some (found n k i)) (found n k i) (find_selected k ns i))
        ∙ elim (keeps n k) as (λ b. cond (is_some (cond b (find R k whole) None)) (cond b (find R k whole) None) (cond (list_any (λ m. keeps m k) ns) (find R k whole) None)
        ≡ cond (b || list_any (λ m. keeps m k) ns) (find R k whole) None) [
          | true ↦ found_once (list_any (λ m. keeps m k) ns) (find R k whole)
          | false ↦ refl
        ]

    -- if a name keeps a key, what they have under the key is what the table has
    pub find_kept_by : (ns : List N) (k : K) → list_any (λ n. keeps n k) ns ≡ true → find R k (flat_map rows ns) ≡ find R k whole
    find_kept_by ns k named = find_selected k ns ∙ ap (λ b. cond b (find R k whole) None) named

  -- the rows that pass a test of their keys
  module _ (exact : (x y : K) → R x y ≡ Equal → x ≡ y) (whole : Table K V) (test : K → Bool) (k : K) where
    pub tested_found : find R k (filter (λ e. test e.0) whole) ≡ cond (test k) (find R k whole) None
    tested_found = find-where_key R test k (λ x same. ap test (sym (exact k x same))) whole

    pub tested_kept : test k ≡ true → find R k (filter (λ e. test e.0) whole) ≡ find R k whole
    tested_kept passes = tested_found ∙ ap (λ b. cond b (find R k whole) None) passes

module _ {K V : Type 0} (R : K → K → Ordering) (o : IsTotalOrder R) where
  -- if an entry is put before others, those after it are still found
  found_above : (e : K × V) (whole es : Table K V) → T (below_all R e.0 es) → AllByRecursion (IsOf R whole) es → AllByRecursion (IsOf R (e ∷ whole)) es
  found_above e whole [] above are = tt
  found_above e whole (x ∷ es) above are =
      let later : R x.0 e.0 ≡ Greater = o.antisymm x.0 e.0 ∙ ap ordering_reverse (less _ (first _ _ above)) in
      (ap (λ r. cond (is_eq r) (Some e.1) (find R x.0 whole)) later ∙ are.0, found_above e whole es (second _ _ above) are.1)

  -- the entries of a table are in it
  own_entries : (es : Table K V) → T (is_sorted R es) → AllByRecursion (IsOf R es) es
  own_entries [] rising = tt
  own_entries (e ∷ es) rising = (
    ap (λ b. cond b (Some e.1) (find R e.0 es)) ((eq_by_cmp_equiv o).refl e.0),
    found_above e es es (first _ _ rising) (own_entries es (second _ _ rising)),
  )

  module _ (whole : Table K V) where
    -- if entries of a table are put into another table, what is found there under their keys is what the first table has
    find-put_all : (es table : Table K V) (k : K) → AllByRecursion (IsOf R whole) es
        → find R k (put_all R es table) ≡ cond (is_some (find R k es)) (find R k whole) (find R k table)
    find-put_all [] table k are = refl
    find-put_all (e ∷ es) table k are =
        find-put_all es (put R e.0 e.1 table) k are.1
        ∙ ap (cond (is_some (find R k es)) (find R k whole)) (find-put R o k e.0 e.1 table)
        ∙ elim (eq_by_cmp R k e.0) as (λ b. eq_by_cmp R k e.0 ≡ b
        → cond (is_some (find R k es)) (find R k whole) (cond b (Some e.1) (find R k table)) ≡ cond (is_some (cond b (Some e.1) (find R k es))) (find R k whole) (find R k table)) [
          | true ↦ λ same. elim (is_some (find R k es)) as (λ b. cond b (find R k whole) (Some e.1) ≡ find R k whole) [
            | true ↦ refl
            | false ↦ sym are.0 ∙ find_tied R o k e.0 ((Equal-is (R k e.0)).0 same) whole
          ]
          | false ↦ λ apart. refl
        ] refl

    -- if a name keeps a key, the table of the rows of names has under the key what the whole has
    pub find_named : {N : Type 0} (rows : N → Table K V) (keeps : N → K → Bool) → ((n : N) → All (IsOf R whole) (rows n)) → ((n : N) (k : K) → find R k (rows n) ≡ cond (keeps n k) (find R k whole) None)
        → (ns : List N) (k : K) → list_any (λ n. keeps n k) ns ≡ true → find R k (put_all R (flat_map rows ns) []) ≡ find R k whole
    find_named rows keeps are found ns k named =
        find-put_all (flat_map rows ns) [] k (recursion_from_All (IsOf R whole) (flat_map rows ns) (all_flat (IsOf R whole) rows are ns))
        ∙ ap (λ f. cond (is_some f) (find R k whole) None) (find_kept_by R whole rows keeps found ns k named)
        ∙ found_later (find R k whole)

    -- what is found in the table of the rows of names is found in the whole
    pub found_of_named : {N : Type 0} (rows : N → Table K V) → ((n : N) → All (IsOf R whole) (rows n)) → (ns : List N) (k : K) (v : V) → find R k (put_all R (flat_map rows ns) []) ≡ Some v → find R k whole ≡ Some v
    found_of_named rows are ns k v found =
        elim (is_some (find R k (flat_map rows ns))) as (λ b. cond b (find R k whole) None ≡ Some v → find R k whole ≡ Some v) [
          | true ↦ λ here. here
          | false ↦ λ none. cc
        ] (sym (find-put_all (flat_map rows ns) [] k (recursion_from_All (IsOf R whole) (flat_map rows ns) (all_flat (IsOf R whole) rows are ns))) ∙ found)

    -- the row of a key
    pub entry_is : (n : K) → All (IsOf R whole) (entry_under R whole n)
    entry_is n = elim (find R n whole) as (λ f. find R n whole ≡ f → All (IsOf R whole) (found_entry n f)) [
      | None ↦ λ is. All-nil (IsOf R whole)
      | Some v ↦ λ is. All-from_recursion (IsOf R whole) ((n, v) ∷ []) (is, tt)
    ] refl

    pub entry_found : (n k : K) → find R k (entry_under R whole n) ≡ cond (eq_by_cmp R k n) (find R k whole) None
    entry_found n k =
        elim (find R n whole) as (λ f. find R k (found_entry n f) ≡ cond (eq_by_cmp R k n) f None) [
          | None ↦ elim (eq_by_cmp R k n) as (λ b. ◌≡◌ {A = Option V} None (cond b None None)) [ true ↦ refl | false ↦ refl ]
          | Some v ↦ refl
        ]
        ∙ elim (eq_by_cmp R k n) as (λ b. eq_by_cmp R k n ≡ b → cond b (find R n whole) None ≡ cond b (find R k whole) None) [
          | true ↦ λ same. find_tied R o k n ((Equal-is (R k n)).0 same) whole
          | false ↦ λ apart. refl
        ] refl

    module _ (rising : T (is_sorted R whole)) where
      -- the rows that pass a test
      pub tested_are : (test : K × V → Bool) → All (IsOf R whole) (filter test whole)
      tested_are test = All-filter test (IsOf R whole) whole (All-from_recursion (IsOf R whole) whole (own_entries whole rising))

      -- If two tables have the same under all keys that pass a test, they have the same rows with such keys.
      pub same_tested : ((x y : K) → R x y ≡ Equal → x ≡ y) → (test : K → Bool) (es : Table K V) → T (is_sorted R es) → ((k : K) → test k ≡ true → find R k es ≡ find R k whole)
          → filter (λ e. test e.0) es ≡ filter (λ e. test e.0) whole
      same_tested exact test es ordered alike =
          same_entries R o exact _ _ (is_sorted-where_key R test es ordered) (is_sorted-where_key R test whole rising)
          (λ q. tested_found R exact es test q
          ∙ elim (test q) as (λ b. test q ≡ b → cond b (find R q es) None ≡ cond b (find R q whole) None) [ true ↦ λ passes. alike q passes | false ↦ λ fails. refl ] refl
          ∙ sym (tested_found R exact whole test q))
