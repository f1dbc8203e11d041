-- A period has only one settlement: its rows are made of its figures and shares, and its credits, no two of which are alike, have
-- one order.
use Rattle.std.proofs.Common.{◌≡◌, ℕ, zero, suc, ◌<◌, ◌+◌, ◌⊎◌, inl, inr, ⊎_elim, List, [], ◌∷◌, length, get_or, map, refl, sym, ap, subst, ◌∙◌, false, Ordering, arith}
use Rattle.std.specs.Prelude.{ℤ, Contains, T}
use Rattle.std.specs.Cmp.{IsTotalOrder, eq_by_cmp_equiv, on_total, tied_itself}
use Rattle.std.specs.FinMap.{is_sorted}
use Rattle.std.specs.FinMap.Entries.{below_all}
use Rattle.std.specs.List.{AllByRecursion, IsDistinct}
use Rattle.std.specs.List.Sorted.{IsPermutation, IsSorted, IsStrictlySortedBy}
use Rattle.std.specs.Ordering.{eq_by_cmp, is_eq, is_lt, ordering_reverse}
use Rattle.std.specs.declared.cmp.Ordering.TheVariants.{Less, Equal, Greater}
use Rattle.std.proofs.lemmas.List.Elements.{All-contains_itself, All-weaker, recursion_from_All}
use Rattle.std.proofs.lemmas.List.Sorted.{Contains-permutation, IsPermutation-sym, IsPermutation-trans}
use Rattle.std.proofs.lemmas.Map.Keys.{IsDistinct-IsPermutation, apart_from_distinct, sorted_from_all_adjacent, sorted_head, sorted_tail}
use Rattle.hh_tables.specs.Tables.{in_key_order}
use Rattle.hh_tables.proofs.RowLaws.{first, less, second}
use Rattle.hh_tables.proofs.TableLaws.{is_sorted-in_key_order}
use Rattle.hh_calc.specs.declared.result.AccountRow.{AccountRow}
use Rattle.hh_calc.specs.declared.result.CreditRow.{CreditRow}
use Rattle.hh_calc.specs.Formulas.{credits_of}
use Rattle.hh_calc.specs.Settled.{IsSettled, credit_cmp, figures_of, shares_shown}
use Rattle.hh_calc.specs.Terms.{PeriodDataView}
use Rattle.hh_states.specs.PeriodSettlement.{UnitAccount, account_rows, keyed_credits, settled, unit_account_cmp}
use Rattle.hh_states.specs.Sums.{SettlesEachPeriod}
use Rattle.hh_states.proofs.KeyLaws.{unit_account_total}
use Rattle.hh_day.specs.NewRuns.{SettledInOneWay}

-- rows are made of the figures and the shares that they show
made_of_parts : (rows : List AccountRow) → account_rows (map figures_of rows) (shares_shown rows) ≡ rows
made_of_parts [] = refl
made_of_parts (r ∷ rows) = ap (λ t. r ∷ t) (made_of_parts rows)

module _ {X : Type 0} where
  -- an element is one of a list
  abbrev IsOneOf : List X → X → Type 0
  IsOneOf [] x = ⊥
  IsOneOf (y ∷ ys) x = (x ≡ y) ⊎ IsOneOf ys x

  -- an element at some place is one of the list
  found_at : (ys : List X) (x : X) (k : ℕ) → k < length ys → get_or ys k x ≡ x → IsOneOf ys x
  found_at [] x k inside is = absurd (omega arith)
  found_at (y ∷ ys) x zero inside is = inl (sym is)
  found_at (y ∷ ys) x (suc k) inside is = inr (found_at ys x k (omega arith) is)

  -- reordering a list leaves each element one of it
  all_stay : (xs ys : List X) → IsPermutation xs ys → AllByRecursion (IsOneOf ys) xs
  all_stay xs ys moved =
      recursion_from_All (IsOneOf ys) xs
      (All-weaker (Contains xs) (IsOneOf ys)
      (λ x within. let now : Contains ys x = Contains-permutation xs ys x moved within in found_at ys x now.0 now.1 now.2)
      xs (All-contains_itself xs))

  -- if all elements of a list have a property, so has an element of it
  of_one : (P : X → Type 0) (xs : List X) (x : X) → AllByRecursion P xs → IsOneOf xs x → P x
  of_one P [] x all within = absurd within
  of_one P (y ∷ xs) x all within = ⊎_elim (λ is. subst P (sym is) all.0) (λ later. of_one P xs x all.1 later) within

module _ {X : Type 0} {R : X → X → Ordering} (o : IsTotalOrder R) where
  -- nothing is below itself
  not_below_itself : (x : X) → R x x ≡ Less → ⊥
  not_below_itself x below = let both : Equal ≡ Less = sym (tied_itself o x) ∙ below in cc

  -- of two elements in order that are not equal, the second is above the first
  next_is_above : (x y : X) → is_lt (R y x) ≡ false → eq_by_cmp R x y ≡ false → R x y ≡ Less
  next_is_above x y not_falling apart =
      elim (R x y) as (λ r. R x y ≡ r → r ≡ Less) [
        | Less ↦ λ is. refl
        | Equal ↦ λ is. let no = sym apart ∙ ap is_eq is in cc
        | Greater ↦ λ is. let no = sym not_falling ∙ ap is_lt (o.antisymm y x ∙ ap ordering_reverse is) in cc
      ] refl

  -- sorted elements, no two of which are alike, rise
  rising : (xs : List X) → IsSorted R xs → IsDistinct (eq_by_cmp R) xs → IsStrictlySortedBy R xs
  unfolding IsStrictlySortedBy
  rising [] ordered distinct = tt
  rising (x ∷ xs) ordered distinct =
      sorted_from_all_adjacent o (x ∷ xs) x
      (λ k inside. next_is_above (get_or (x ∷ xs) k x) (get_or (x ∷ xs) (k + 1) x) (ordered k x (omega arith) inside)
      (apart_from_distinct (eq_by_cmp R) (x ∷ xs) k (k + 1) x distinct (omega arith) inside))

  -- elements above the first of a list, if they are in the list, are in the rest of it
  in_the_rest : (x y : X) → x ≡ y → (ys zs : List X) → AllByRecursion (λ z. R x z ≡ Less) zs → AllByRecursion (IsOneOf (y ∷ ys)) zs → AllByRecursion (IsOneOf ys) zs
  in_the_rest x y same ys [] above within = tt
  in_the_rest x y same ys (z ∷ zs) above within = (
    ⊎_elim (λ is. absurd (not_below_itself x (ap (R x) (same ∙ sym is) ∙ above.0))) (λ later. later) within.0,
    in_the_rest x y same ys zs above.1 within.1,
  )

  -- if two rising lists have the same elements, their first elements are the same
  same_first : (x y : X) (xs ys : List X) → AllByRecursion (λ z. R x z ≡ Less) xs → AllByRecursion (λ z. R y z ≡ Less) ys → IsOneOf (y ∷ ys) x → IsOneOf (x ∷ xs) y → x ≡ y
  same_first x y xs ys above also_above x_within y_within =
      ⊎_elim (λ is. is)
      (λ later. ⊎_elim (λ is. sym is)
      (λ also_later. absurd (not_below_itself x (o.trans x y x (of_one (λ z. R x z ≡ Less) xs y above also_later) (of_one (λ z. R y z ≡ Less) ys x also_above later))))
      y_within)
      x_within

  -- so two rising lists with the same elements are equal
  same_rising : (xs ys : List X) → IsStrictlySortedBy R xs → IsStrictlySortedBy R ys → AllByRecursion (IsOneOf ys) xs → AllByRecursion (IsOneOf xs) ys → xs ≡ ys
  same_rising [] [] rises also_rises within also_within = refl
  same_rising [] (y ∷ ys) rises also_rises within also_within = absurd also_within.0
  same_rising (x ∷ xs) [] rises also_rises within also_within = absurd within.0
  same_rising (x ∷ xs) (y ∷ ys) rises also_rises within also_within =
      let above : AllByRecursion (λ z. R x z ≡ Less) xs = sorted_head R x xs rises in
      let also_above : AllByRecursion (λ z. R y z ≡ Less) ys = sorted_head R y ys also_rises in
      let same : x ≡ y = same_first x y xs ys above also_above within.0 also_within.0 in
      let rest : xs ≡ ys = same_rising xs ys (sorted_tail R x xs rises) (sorted_tail R y ys also_rises) (in_the_rest x y same ys xs above within.1) (in_the_rest y x (sym same) xs ys also_above also_within.1) in
      λ i. same i ∷ rest i

  -- a list no two of whose elements are alike can be sorted in only one way
  ordered_in_one_way : (start xs ys : List X) → IsDistinct (eq_by_cmp R) ys → IsPermutation start xs → IsPermutation start ys → IsSorted R xs → IsSorted R ys → xs ≡ ys
  ordered_in_one_way start xs ys distinct moved also_moved ordered also_ordered =
      let back : IsPermutation ys xs = IsPermutation-trans ys start xs (IsPermutation-sym start ys also_moved) moved in
      same_rising xs ys
      (rising xs ordered (IsDistinct-IsPermutation (eq_by_cmp R) (eq_by_cmp_equiv o).symm ys xs back distinct))
      (rising ys also_ordered distinct)
      (all_stay xs ys (IsPermutation-sym ys xs back)) (all_stay ys xs back)

-- credits in the order of their units' bytes, then of their accounts
credit_total : IsTotalOrder credit_cmp
credit_total = on_total (λ (c : CreditRow). (c.unit, c.account)) unit_account_total

-- the credit of a unit and an account
abbrev credit_under : UnitAccount × ℤ → CreditRow
credit_under e = record { unit = e.0.0; account = e.0.1; credited = e.1 }

-- a credit under a key below all others is like none of them
none_like_the_first : (k : UnitAccount) (z : ℤ) (es : List (UnitAccount × ℤ)) → T (below_all unit_account_cmp k es)
    → AllByRecursion (λ c. eq_by_cmp credit_cmp (credit_under (k, z)) c ≡ false) (map credit_under es)
none_like_the_first k z [] below = tt
none_like_the_first k z (e ∷ es) below = (
  ap is_eq (less (unit_account_cmp k e.0) (first (is_lt (unit_account_cmp k e.0)) (below_all unit_account_cmp k es) below)),
  none_like_the_first k z es (second (is_lt (unit_account_cmp k e.0)) (below_all unit_account_cmp k es) below),
)

-- no two credits of a table are alike
table_has_no_two_alike : (es : List (UnitAccount × ℤ)) → T (is_sorted unit_account_cmp es) → IsDistinct (eq_by_cmp credit_cmp) (map credit_under es)
unfolding IsDistinct
table_has_no_two_alike [] sorted = tt
table_has_no_two_alike (e ∷ es) sorted = (
  none_like_the_first e.0 e.1 es (first (below_all unit_account_cmp e.0 es) (is_sorted unit_account_cmp es) sorted),
  table_has_no_two_alike es (second (below_all unit_account_cmp e.0 es) (is_sorted unit_account_cmp es) sorted),
)

-- no two credits of a settled period are alike
no_two_credits_alike : (p : PeriodDataView) → IsDistinct (eq_by_cmp credit_cmp) (settled p).credits
no_two_credits_alike p =
    let entries : List (UnitAccount × ℤ) = keyed_credits (credits_of p.units) in
    table_has_no_two_alike (in_key_order unit_account_cmp entries) (is_sorted-in_key_order unit_account_total entries)

-- a period has only one settlement, if each settlement is as defined
pub settled_in_one_way : SettlesEachPeriod → SettledInOneWay
settled_in_one_way each p s fits is =
    let own : IsSettled p (settled p) = each p fits.units fits.credits in
    let rows : s.accounts ≡ (settled p).accounts = sym (made_of_parts s.accounts) ∙ (λ i. account_rows (is.rows i) (is.shared i)) in
    let credits : s.credits ≡ (settled p).credits = ordered_in_one_way credit_total (credits_of p.units) s.credits (settled p).credits (no_two_credits_alike p) is.credits own.credits is.ordered own.ordered in
    λ i. record { accounts = rows i; credits = credits i; residual = is.remainder i }
