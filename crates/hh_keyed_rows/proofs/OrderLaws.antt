-- If no two rows have the same key, rows represent the same table in any order.
use Rattle.std.proofs.Common.{◌≡◌, ℕ, ◌+◌, ◌≤◌, List, [], ◌∷◌, ◌++◌, Bool, true, false, cond, Option, Some, None, Ordering, is_eq, arith, refl, sym, ap, subst, ◌∙◌, inl, inr}
use Rattle.std.specs.Prelude.{filter_map, option_to_list}
use Rattle.std.specs.List.{cons_option, flat_map, sum_by}
use Rattle.std.specs.List.Sorted.{IsPermutation}
use Rattle.std.specs.Cmp.{IsTotalOrder}
use Rattle.std.specs.FinMap.{find}
use Rattle.std.specs.FinMap.Entries.{same_entries}
use Rattle.std.proofs.lemmas.Bool.{true≢false}
use Rattle.std.proofs.lemmas.Cmp.{tied_itself}
use Rattle.std.proofs.lemmas.List.Sums.{sum_by-cons}
use Rattle.std.proofs.lemmas.List.Sorted.{IsPermutation-sym, sum_by-IsPermutation}
use Rattle.std.proofs.lemmas.Map.Lookups.{CmpEqualImpliesEq}
use Rattle.sqlite_value.specs.Order.{Row}
use Rattle.sqlite_keyed.proofs.ListLemmas.{IsPermutation-flat_map}
use Rattle.hh_tables.specs.Tables.{in_key_order}
use Rattle.hh_tables.proofs.TableLaws.{find-in_key_order, is_sorted-in_key_order}
use Rattle.hh_keyed_rows.specs.KeyedRows.{table_in}
use Rattle.hh_keyed_rows.specs.Laws.{AreOfOneEach}
use Rattle.sqlite_rules.specs.Lists.{Has}
use Rattle.hh_keyed_rows.proofs.CodecLaws.{none_is_not_some, same_some}
use Rattle.hh_keyed_rows.proofs.PlaceLaws.{is_Equal}
use Rattle.hh_keyed_rows.proofs.SelectLaws.{has_permuted}

-- ---- entries under a key

module _ {K V : Type 0} (R : K → K → Ordering) where
  abbrev mark : K → K × V → ℕ
  mark q e = cond (is_eq (R q e.0)) 1 0

  -- how many entries have a key
  abbrev count_of : K → List (K × V) → ℕ
  count_of q es = sum_by (mark q) es

  none_counted : (q : K) (es : List (K × V)) → find R q es ≡ None → count_of q es ≡ 0
  none_counted q [] none = refl
  none_counted q (e ∷ es) none = sum_by-cons (mark q) e es ∙ by_test (none_counted q es) (is_eq (R q e.0)) none
    where
      by_test : (find R q es ≡ None → count_of q es ≡ 0) → (b : Bool) → cond b (Some e.1) (find R q es) ≡ None → cond b 1 0 + count_of q es ≡ 0
      by_test later true none = absurd (let e = none in cc)
      by_test later false none = let more = later none in omega (arith, more)

  none_found : (q : K) (es : List (K × V)) → count_of q es ≡ 0 → find R q es ≡ None
  none_found q [] none = refl
  none_found q (e ∷ es) none = by_test (none_found q es) (is_eq (R q e.0)) (sym (sum_by-cons (mark q) e es) ∙ none)
    where
      by_test : (count_of q es ≡ 0 → find R q es ≡ None) → (b : Bool) → cond b 1 0 + count_of q es ≡ 0 → cond b (Some e.1) (find R q es) ≡ None
      by_test later true none = absurd (omega (arith, none))
      by_test later false none = later (omega (arith, none))

module _ {K V : Type 0} (R : K → K → Ordering) (total : IsTotalOrder R) (exact : CmpEqualImpliesEq R) where
  one_counted : (es : List (K × V)) → AreOfOneEach R es → (q : K) → count_of R q es ≤ 1
  one_counted [] each q = omega arith
  one_counted (e ∷ es) each q = subst (λ n. n ≤ 1) (sym (sum_by-cons (mark R q) e es)) (by_test (one_counted es each.1 q) (is_eq (R q e.0)) refl)
    where
      by_test : count_of R q es ≤ 1 → (b : Bool) → is_eq (R q e.0) ≡ b → cond b 1 0 + count_of R q es ≤ 1
      by_test later true same =
          let here : q ≡ e.0 = exact q e.0 (is_Equal (R q e.0) same) in
          let none : count_of R q es ≡ 0 = none_counted R q es (subst (λ k. find R k es ≡ None) (sym here) each.0) in
          omega (arith, none)
      by_test later false other = omega (arith, later)

  counted_once : (es : List (K × V)) → ((q : K) → count_of R q es ≤ 1) → AreOfOneEach R es
  counted_once [] most = tt
  counted_once (e ∷ es) most = (
    none_found R e.0 es (by_test (is_eq (R e.0 e.0)) (ap is_eq (tied_itself total e.0)) (counted e.0)),
    counted_once es (λ q. fewer q (is_eq (R q e.0)) (counted q)),
  )
    where
      counted : (q : K) → cond (is_eq (R q e.0)) 1 0 + count_of R q es ≤ 1
      counted q = subst (λ n. n ≤ 1) (sum_by-cons (mark R q) e es) (most q)

      by_test : (b : Bool) → b ≡ true → cond b 1 0 + count_of R e.0 es ≤ 1 → count_of R e.0 es ≡ 0
      by_test true is most = omega (arith, most)
      by_test false is most = absurd (true≢false (sym is))

      fewer : (q : K) (b : Bool) → cond b 1 0 + count_of R q es ≤ 1 → count_of R q es ≤ 1
      fewer q true most = omega (arith, most)
      fewer q false most = omega (arith, most)

  distinct_permuted : (es fs : List (K × V)) → IsPermutation es fs → AreOfOneEach R es → AreOfOneEach R fs
  distinct_permuted es fs same each =
      counted_once fs (λ q. subst (λ n. n ≤ 1) (sym (sum_by-IsPermutation (mark R q) es fs same)) (one_counted es each q))

  -- ---- what is found in one list is found in the other

  found_stands : (q : K) (v : V) (es : List (K × V)) → find R q es ≡ Some v → Has es (q, v)
  found_stands q v [] found = absurd (none_is_not_some found)
  found_stands q v (e ∷ es) found = by_test (found_stands q v es) (is_eq (R q e.0)) refl found
    where
      by_test : (find R q es ≡ Some v → Has es (q, v)) → (b : Bool) → is_eq (R q e.0) ≡ b → cond b (Some e.1) (find R q es) ≡ Some v → Has (e ∷ es) (q, v)
      by_test later true same found =
          let key : q ≡ e.0 = exact q e.0 (is_Equal (R q e.0) same) in
          let value : v ≡ e.1 = sym (same_some found) in
          inl (λ i. (key i, value i))
      by_test later false other found = inr (later found)

  stands_found : (q : K) (v : V) (es : List (K × V)) → AreOfOneEach R es → Has es (q, v) → find R q es ≡ Some v
  stands_found q v [] each none = absurd none
  stands_found q v (e ∷ es) each (inl here) =
      let same : is_eq (R q e.0) ≡ true = ap (λ (d : K × V). is_eq (R q d.0)) (sym here) ∙ ap is_eq (tied_itself total q) in
      ap (λ b. cond b (Some e.1) (find R q es)) same ∙ ap (λ (d : K × V). Some d.1) (sym here)
  stands_found q v (e ∷ es) each (inr later) = by_test (is_eq (R q e.0)) refl (stands_found q v es each.1 later)
    where
      by_test : (b : Bool) → is_eq (R q e.0) ≡ b → find R q es ≡ Some v → cond b (Some e.1) (find R q es) ≡ Some v
      by_test true same found =
          let key : q ≡ e.0 = exact q e.0 (is_Equal (R q e.0) same) in
          absurd (none_is_not_some (sym each.0 ∙ ap (λ k. find R k es) (sym key) ∙ found))
      by_test false other found = found

  same_found : (es fs : List (K × V)) → IsPermutation es fs → AreOfOneEach R es → (q : K) → find R q es ≡ find R q fs
  same_found es fs same each q = by_found (find R q es) refl (find R q fs) refl
    where
      by_found : (o : Option V) → find R q es ≡ o → (p : Option V) → find R q fs ≡ p → find R q es ≡ find R q fs
      by_found (Some v) here p there =
          here ∙ sym (stands_found q v fs (distinct_permuted es fs same each) (has_permuted fs es (q, v) (IsPermutation-sym es fs same) (found_stands q v es here)))
      by_found None here None there = here ∙ sym there
      by_found None here (Some v) there =
          absurd (none_is_not_some (sym here ∙ stands_found q v es each (has_permuted es fs (q, v) same (found_stands q v fs there))))

  pub same_in_key_order : (es fs : List (K × V)) → IsPermutation es fs → AreOfOneEach R es → in_key_order R fs ≡ in_key_order R es
  same_in_key_order es fs same each =
      same_entries R total exact _ _ (is_sorted-in_key_order total fs) (is_sorted-in_key_order total es)
      (λ q. find-in_key_order total fs q ∙ sym (same_found es fs same each q) ∙ sym (find-in_key_order total es q))

-- ---- rows

filter_map_as_flat_map : {X Y : Type 0} (f : X → Option Y) (xs : List X) → filter_map f xs ≡ flat_map (λ x. option_to_list (f x)) xs
filter_map_as_flat_map f [] = refl
filter_map_as_flat_map {Y = Y} f (x ∷ xs) = by_value (filter_map_as_flat_map f xs) (f x)
  where
    by_value : filter_map f xs ≡ flat_map (λ x. option_to_list (f x)) xs → (o : Option Y)
        → cons_option o (filter_map f xs) ≡ option_to_list o ++ flat_map (λ x. option_to_list (f x)) xs
    by_value later None = later
    by_value later (Some y) = ap (λ ys. y ∷ ys) later

filter_map_permuted : {X Y : Type 0} (f : X → Option Y) (xs ys : List X) → IsPermutation xs ys → IsPermutation (filter_map f xs) (filter_map f ys)
filter_map_permuted f xs ys same =
    subst (λ l. IsPermutation l (filter_map f ys)) (sym (filter_map_as_flat_map f xs))
    (subst (IsPermutation (flat_map (λ x. option_to_list (f x)) xs)) (sym (filter_map_as_flat_map f ys)) (IsPermutation-flat_map (λ x. option_to_list (f x)) xs ys same))

pub rows_permuted : {K V : Type 0} (R : K → K → Ordering) (total : IsTotalOrder R) (exact : CmpEqualImpliesEq R) (entry : Row → Option (K × V)) (rows others : List Row)
    → IsPermutation rows others → AreOfOneEach R (filter_map entry rows) → table_in R entry others ≡ table_in R entry rows
rows_permuted R total exact entry rows others same each =
    let entries = filter_map_permuted entry rows others same in same_in_key_order R total exact (filter_map entry rows) (filter_map entry others) entries each
