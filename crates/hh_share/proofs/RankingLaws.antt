-- Places sorted by their rests: the place of each in the list is the number of rests that come before it.
use Rattle.std.proofs.Common.{map, inl, inr, ◌++◌, ◌+◌, ◌≡◌, ℕ, zero, suc, ◌<◌, ◌≤◌, List, [], ◌∷◌, length, get_or, refl, sym, ap, ◌∙◌, subst, Bool, true, false, cond, Ordering, arith, true≢false, All}
use Rattle.std.specs.Prelude.{nat_lt, ◌==◌, ◌&&◌, ◌||◌, ℤ, pos, count_by}
use Rattle.std.specs.List.{enumerate_from, Contains}
use Rattle.std.specs.List.Sorted.{IsPermutation, IsSorted, IsSplitAroundBy}
use Rattle.std.specs.Ordering.{is_lt, is_gt, ordering_reverse, ordering_then, int_cmp, nat_cmp}
use Rattle.std.specs.declared.cmp.Ordering.TheVariants.{Less, Equal, Greater}
use Rattle.std.specs.Cmp.{IsTotalOrder, tied_itself, int_cmp_total, nat_cmp_total, on_total, then_total, back_total}
use Rattle.std.proofs.lemmas.Bool.{cases_order, le-ltb, lt-ltb, eq-eqb, ne_eqb, eqb-true}
use Rattle.std.proofs.Math.Seq.{take-append_seam}
use Rattle.std.proofs.lemmas.List.{append-nil, get_or-map, get_or_default, length-map}
use Rattle.std.proofs.lemmas.List.Elements.{All-map, All-take, Contains-append_cases}
use Rattle.std.proofs.lemmas.List.FromFn.{length-enumerate_from, get_or-enumerate_from}
use Rattle.std.proofs.lemmas.List.Sorted.{ranks_by, sorted_far, sum_by-IsPermutation, IsPermutation-map, IsPermutation-refl, All-permutation, Contains-permutation}
use Rattle.std.proofs.lemmas.List.Sums.{count_by-le-length, sum_by-append}
use Rattle.std.proofs.lemmas.Map.Lookups.{exact_unsigned}
use Rattle.hh_share.specs.Shares.{comes_before, rank}
use Rattle.hh_share.specs.Ranking.{rest_cmp, places_before, places_in, AreRanked}
use Rattle.hh_share.specs.steps.Ranking.{AreFirst}
use Rattle.hh_share.proofs.CountLaws.{count-same, count-map, count, count_by-count, count_by-map, enumerate-map}

-- the order of rests is total
pub rest_total : IsTotalOrder rest_cmp
rest_total = then_total (back_total (on_total (λ (a : ℕ × ℤ). a.1) int_cmp_total)) (on_total (λ a. a.0) nat_cmp_total)

-- ---- counts in a list by places
module _ {X : Type 0} (test : X → Bool) where
  -- an element that passes is counted
  count_one : (xs : List X) (k : ℕ) (d : X) → k < length xs → test (get_or xs k d) ≡ true → 1 ≤ count test xs
  count_one [] k d inside passes = absurd (omega arith)
  count_one (x ∷ xs) zero d inside passes = subst (λ b. 1 ≤ cond b (suc (count test xs)) (count test xs)) (sym passes) (omega arith)
  count_one (x ∷ xs) (suc k) d inside passes =
      let h = count_one xs k d (omega arith) passes in
      elim (test x) as (λ b. 1 ≤ cond b (suc (count test xs)) (count test xs)) [ true ↦ omega arith | false ↦ h ]

  -- two elements that pass are both counted
  count_two : (xs : List X) (j k : ℕ) (d : X) → j < k → k < length xs → test (get_or xs j d) ≡ true → test (get_or xs k d) ≡ true → 2 ≤ count test xs
  count_two [] j k d less inside one two = absurd (omega arith)
  count_two (x ∷ xs) j zero d less inside one two = absurd (omega arith)
  count_two (x ∷ xs) zero (suc k) d less inside one two =
      let h = count_one xs k d (omega arith) two in
      subst (λ b. 2 ≤ cond b (suc (count test xs)) (count test xs)) (sym one) (omega arith)
  count_two (x ∷ xs) (suc j) (suc k) d less inside one two =
      let h = count_two xs j k d (omega arith) (omega arith) one two in
      elim (test x) as (λ b. 2 ≤ cond b (suc (count test xs)) (count test xs)) [ true ↦ omega arith | false ↦ h ]

  -- if none passes, the count is 0
  count_none : (xs : List X) → ((k : ℕ) (d : X) → k < length xs → test (get_or xs k d) ≡ false) → count test xs ≡ 0
  count_none [] none = refl
  count_none (x ∷ xs) none =
      ap (λ b. cond b (suc (count test xs)) (count test xs)) (none 0 x (omega arith))
      ∙ count_none xs (λ k d inside. none (suc k) d (omega arith))

  -- if exactly the first n pass, the count is n
  count_first : (xs : List X) (n : ℕ) → n ≤ length xs
      → ((k : ℕ) (d : X) → k < n → k < length xs → test (get_or xs k d) ≡ true)
      → ((k : ℕ) (d : X) → n ≤ k → k < length xs → test (get_or xs k d) ≡ false)
      → count test xs ≡ n
  count_first xs zero few passes fails = count_none xs (λ k d inside. fails k d (omega arith) inside)
  count_first [] (suc n) few passes fails = absurd (omega arith)
  count_first (x ∷ xs) (suc n) few passes fails =
      ap (λ b. cond b (suc (count test xs)) (count test xs)) (passes 0 x (omega arith) (omega arith))
      ∙ ap suc (count_first xs n (omega arith) (λ k d less inside. passes (suc k) d (omega arith) (omega arith)) (λ k d most inside. fails (suc k) d (omega arith) (omega arith)))

  -- the count is at most the length, and less if one does not pass
  count_fails : (xs : List X) (k : ℕ) (d : X) → k < length xs → test (get_or xs k d) ≡ false → count test xs < length xs
  count_fails [] k d inside fails = absurd (omega arith)
  count_fails (x ∷ xs) zero d inside fails =
      let most = count_by-le-length test xs in
      let is = count_by-count test xs in
      subst (λ b. cond b (suc (count test xs)) (count test xs) < suc (length xs)) (sym fails) (omega arith)
  count_fails (x ∷ xs) (suc k) d inside fails =
      let h = count_fails xs k d (omega arith) fails in
      elim (test x) as (λ b. cond b (suc (count test xs)) (count test xs) < suc (length xs)) [ true ↦ omega arith | false ↦ omega arith ]

-- ---- no place occurs twice
abbrev stands_at : {X : Type 0} → ℕ → ℕ × X → Bool
stands_at place a = a.0 == place

none_earlier : {X : Type 0} (place m : ℕ) (xs : List X) → place < m → count (stands_at place) (enumerate_from m xs) ≡ 0
none_earlier place m [] less = refl
none_earlier place m (x ∷ xs) less =
    ap (λ b. cond b (suc (count (stands_at place) (enumerate_from (m + 1) xs))) (count (stands_at place) (enumerate_from (m + 1) xs))) (ne_eqb m place (λ same. omega (arith, same)))
    ∙ none_earlier place (m + 1) xs (omega arith)

at_most_once : {X : Type 0} (place m : ℕ) (xs : List X) → count (stands_at place) (enumerate_from m xs) ≤ 1
at_most_once place m [] = omega arith
at_most_once place m (x ∷ xs) =
    elim (m == place) as (λ b. (m == place) ≡ b → cond b (suc (count (stands_at place) (enumerate_from (m + 1) xs))) (count (stands_at place) (enumerate_from (m + 1) xs)) ≤ 1) [
      | true ↦ λ e. (let same = eqb-true m place e in let h = none_earlier place (m + 1) xs (omega arith) in omega arith)
      | false ↦ λ e. at_most_once place (m + 1) xs
    ] refl

-- two that are equal in the order have the same place
same_place : (b a : ℕ × ℤ) → rest_cmp b a ≡ Equal → b.0 ≡ a.0
same_place b a e = nat_equal b.0 a.0 (second (int_cmp a.1 b.1) (nat_cmp b.0 a.0) e)
  where
    second : (x y : Ordering) → ordering_then x y ≡ Equal → y ≡ Equal
    second Less y e = absurd (true≢false (ap is_lt e))
    second Equal y e = e
    second Greater y e = absurd (true≢false (ap is_gt e))

    nat_equal : (n m : ℕ) → nat_cmp n m ≡ Equal → n ≡ m
    nat_equal n m e = exact_unsigned n m e

-- of two at different places, if one does not come after, it comes before
strictly : (a b : ℕ × ℤ) → (a.0 ≡ b.0 → ⊥) → is_lt (rest_cmp b a) ≡ false → is_lt (rest_cmp a b) ≡ true
strictly a b differ not =
    elim (rest_cmp b a) as (λ o. rest_cmp b a ≡ o → is_lt (rest_cmp a b) ≡ true) [
      | Less ↦ λ e. absurd (true≢false (sym (ap is_lt e) ∙ not))
      | Equal ↦ λ e. absurd (differ (sym (same_place b a e)))
      | Greater ↦ λ e. ap is_lt (rest_total.antisymm a b ∙ ap ordering_reverse e)
    ] refl

-- each rest is paired with its own place
own_rests : (rests : List ℤ) → All (λ a. a.1 ≡ get_or rests a.0 (pos 0)) (enumerate_from 0 rests)
own_rests rests k d inside =
    let within : k < length rests = subst (λ n. k < n) (length-enumerate_from 0 rests) inside in
    let is : get_or (enumerate_from 0 rests) k d ≡ (k, get_or rests k (pos 0)) = get_or_default (enumerate_from 0 rests) k d (0, pos 0) inside ∙ get_or-enumerate_from 0 rests k (0, pos 0) within ∙ ap (λ n. (n, get_or rests k (pos 0))) (let e : 0 + k ≡ k = omega arith in e) in
    ap (λ a. a.1) is ∙ ap (λ a. get_or rests a.0 (pos 0)) (sym is)

-- ---- a list of rests with their places, sorted
module _ (rests : List ℤ) (ordered : List (ℕ × ℤ)) (same : IsPermutation (enumerate_from 0 rests) ordered) (sorted : IsSorted rest_cmp ordered) where
  -- a count over the list is a count over the rests
  same_count : (test : ℕ × ℤ → Bool) → count test ordered ≡ count_by test (enumerate_from 0 rests)
  same_count test = sym (count_by-count test ordered) ∙ sum_by-IsPermutation (λ a. cond (test a) 1 0) (enumerate_from 0 rests) ordered same

  -- two places in the list differ
  places_differ : (j k : ℕ) (d : ℕ × ℤ) → j < k → k < length ordered → (get_or ordered j d).0 ≡ (get_or ordered k d).0 → ⊥
  places_differ j k d less inside e =
      let two = count_two (stands_at (get_or ordered k d).0) ordered j k d less inside (eq-eqb _ _ e) (eq-eqb _ _ refl) in
      let one = at_most_once (get_or ordered k d).0 0 rests in
      let is = same_count (stands_at (get_or ordered k d).0) ∙ count_by-count (stands_at (get_or ordered k d).0) (enumerate_from 0 rests) in
      omega arith

  -- an earlier element of the list comes before a later one
  earlier_before : (j k : ℕ) (d : ℕ × ℤ) → j < k → k < length ordered → is_lt (rest_cmp (get_or ordered j d) (get_or ordered k d)) ≡ true
  earlier_before j k d less inside =
      strictly (get_or ordered j d) (get_or ordered k d) (places_differ j k d less inside)
      (sorted_far (λ x y. is_lt (rest_cmp x y)) (ranks_by rest_total (λ a. a)) ordered sorted j k d (omega arith) inside)

  -- and a later one does not come before an earlier one
  later_not_before : (j k : ℕ) (d : ℕ × ℤ) → k ≤ j → j < length ordered → is_lt (rest_cmp (get_or ordered j d) (get_or ordered k d)) ≡ false
  later_not_before j k d most inside =
      sorted_far (λ x y. is_lt (rest_cmp x y)) (ranks_by rest_total (λ a. a)) ordered sorted k j d most inside

  -- so the number of those that come before an element is its place in the list
  before_is_place : (k : ℕ) (d : ℕ × ℤ) → k < length ordered → count_by (λ b. is_lt (rest_cmp b (get_or ordered k d))) (enumerate_from 0 rests) ≡ k
  before_is_place k d inside =
      sym (same_count (λ b. is_lt (rest_cmp b (get_or ordered k d))))
      ∙ count_first (λ b. is_lt (rest_cmp b (get_or ordered k d))) ordered k (omega arith)
      (λ j e less within. ap (λ a. is_lt (rest_cmp a (get_or ordered k d))) (get_or_default ordered j e d within) ∙ earlier_before j k d less inside)
      (λ j e most within. ap (λ a. is_lt (rest_cmp a (get_or ordered k d))) (get_or_default ordered j e d within) ∙ later_not_before j k d most within)

  pub places_once : IsPermutation (places_in rests) (map (λ a. a.0) ordered)
  places_once = IsPermutation-map (λ (a : ℕ × ℤ). a.0) (enumerate_from 0 rests) ordered same

  pub places_ranked : AreRanked rests (map (λ a. a.0) ordered)
  places_ranked k inside =
      let within : k < length ordered = subst (λ n. k < n) (length-map ordered (λ (a : ℕ × ℤ). a.0)) inside in
      let a : ℕ × ℤ = get_or ordered k (0, pos 0) in
      let place_is : get_or (map (λ (a : ℕ × ℤ). a.0) ordered) k 0 ≡ a.0 = get_or-map (λ (a : ℕ × ℤ). a.0) ordered k (0, pos 0) 0 within in
      let rest_is : a.1 ≡ get_or rests a.0 (pos 0) = All-permutation (λ (a : ℕ × ℤ). a.1 ≡ get_or rests a.0 (pos 0)) (enumerate_from 0 rests) ordered same (own_rests rests) k (0, pos 0) within in
      ap (places_before rests) place_is
      ∙ ap (λ r. count_by (λ b. is_lt (rest_cmp b (a.0, r))) (enumerate_from 0 rests)) (sym rest_is)
      ∙ before_is_place k (0, pos 0) within

-- ---- remainders, which are never below 0
-- numbers are equal if neither is smaller
equal_is : (n m : ℕ) → (n == m) ≡ cond (nat_lt n m) false (cond (nat_lt m n) false true)
equal_is n m = elim (cases_order n m) as (λ o. (n == m) ≡ cond (nat_lt n m) false (cond (nat_lt m n) false true)) [
  | inl same ↦ eq-eqb n m same ∙ sym (λ i. cond (le-ltb n m (omega (arith, same)) i) false (cond (le-ltb m n (omega (arith, same)) i) false true))
  | inr (inl less) ↦ ne_eqb n m (λ same. omega (arith, less, same)) ∙ sym (λ i. cond (lt-ltb n m less i) false (cond (nat_lt m n) false true))
  | inr (inr more) ↦ ne_eqb n m (λ same. omega (arith, more, same)) ∙ sym (λ i. cond (le-ltb n m (omega (arith, more)) i) false (cond (lt-ltb m n more i) false true))
]

-- their order as integers is their order as remainders
before_same : (a b : ℕ × ℕ) → is_lt (rest_cmp (b.0, pos b.1) (a.0, pos a.1)) ≡ comes_before b a
before_same a b =
    by_two (nat_lt a.1 b.1) (nat_lt b.1 a.1) (nat_lt b.0 a.0) (b.0 == a.0)
    ∙ ap (λ q. nat_lt a.1 b.1 || (q && nat_lt b.0 a.0)) (sym (equal_is a.1 b.1))
  where
    by_two : (p t r s : Bool) → is_lt (ordering_then (cond p Less (cond t Greater Equal)) (cond r Less (cond s Equal Greater))) ≡ (p || (cond p false (cond t false true) && r))
    by_two true t r s = refl
    by_two false true r s = refl
    by_two false false true s = refl
    by_two false false false true = refl
    by_two false false false false = refl

-- a remainder's rank is the number of rests before its place
pub rank_is_before : (remainders : List ℕ) (place : ℕ) → place < length remainders
    → places_before (map (λ r. pos r) remainders) place ≡ rank remainders (place, get_or remainders place 0)
rank_is_before remainders place inside =
    let a : ℕ × ℕ = (place, get_or remainders place 0) in
    ap (λ r. count_by (λ b. is_lt (rest_cmp b (place, r))) (enumerate_from 0 (map (λ r. pos r) remainders))) (get_or-map (λ (r : ℕ). pos r) remainders place 0 (pos 0) inside)
    ∙ ap (count_by (λ b. is_lt (rest_cmp b (a.0, pos a.1)))) (enumerate-map (λ (r : ℕ). pos r) 0 remainders)
    ∙ count_by-map (λ b. is_lt (rest_cmp b (a.0, pos a.1))) (λ (b : ℕ × ℕ). (b.0, pos b.1)) (enumerate_from 0 remainders)
    ∙ count_by-count (λ (b : ℕ × ℕ). is_lt (rest_cmp (b.0, pos b.1) (a.0, pos a.1))) (enumerate_from 0 remainders)
    ∙ count-same (λ (b : ℕ × ℕ). is_lt (rest_cmp (b.0, pos b.1) (a.0, pos a.1))) (λ b. comes_before b a) (enumerate_from 0 remainders) (before_same a)
    ∙ sym (count_by-count (λ b. comes_before b a) (enumerate_from 0 remainders))

-- ---- who gets a penny
-- two lists of rests with their places; no rest of the second comes before one of the first
module _ (rests : List ℤ) (front behind : List (ℕ × ℤ)) (same : IsPermutation (enumerate_from 0 rests) (front ++ behind))
    (cut : (j k : ℕ) (d e : ℕ × ℤ) → j < length front → k < length behind → is_lt (rest_cmp (get_or behind k e) (get_or front j d)) ≡ false) where
  -- a count over the rests is the sum of the counts over both lists
  parts : (test : ℕ × ℤ → Bool) → count_by test (enumerate_from 0 rests) ≡ count test front + count test behind
  parts test =
      sym (sum_by-IsPermutation (λ a. cond (test a) 1 0) (enumerate_from 0 rests) (front ++ behind) same)
      ∙ sum_by-append (λ a. cond (test a) 1 0) front behind
      ∙ (λ i. count_by-count test front i + count_by-count test behind i)

  module _ (place : ℕ) (inside : place < length rests) where
    abbrev own : ℕ × ℤ
    own = (place, get_or rests place (pos 0))

    abbrev before : ℕ × ℤ → Bool
    before b = is_lt (rest_cmp b own)

    -- the place with its rest is in one of the lists
    stands : Contains (enumerate_from 0 rests) own
    stands =
        let within : place < length (enumerate_from 0 rests) = subst (λ n. place < n) (sym (length-enumerate_from 0 rests)) inside in (
          place,
          within,
          get_or_default (enumerate_from 0 rests) place own (0, pos 0) within
              ∙ get_or-enumerate_from 0 rests place (0, pos 0) inside
              ∙ ap (λ n. (n, get_or rests place (pos 0))) (let e : 0 + place ≡ place = omega arith in e),
        )

    -- and only once
    once : count (stands_at place) front + count (stands_at place) behind ≤ 1
    once =
        let most = at_most_once place 0 rests in
        let split = parts (stands_at place) in
        let is = count_by-count (stands_at place) (enumerate_from 0 rests) in
        omega arith

    in_front : (j : ℕ) → j < length front → get_or front j own ≡ own → count (stands_at place) front ≡ cond (nat_lt (places_before rests place) (length front)) 1 0
    in_front j among is =
        let one = count_one (stands_at place) front j own among (ap (stands_at place) is ∙ eq-eqb place place refl) in
        let most = once in
        let none = count_none before behind (λ k d within. ap (λ a. is_lt (rest_cmp (get_or behind k d) a)) (sym is) ∙ cut j k own d among within) in
        let few = count_fails before front j own among (ap before is ∙ ap is_lt (tied_itself rest_total own)) in
        let total : places_before rests place ≡ count before front + count before behind = parts before in
        let ones : count (stands_at place) front ≡ 1 = omega arith in
        ones ∙ sym (ap (λ b. cond b 1 0) (lt-ltb (places_before rests place) (length front) (omega arith)))

    in_back : (j : ℕ) → j < length behind → get_or behind j own ≡ own → count (stands_at place) front ≡ cond (nat_lt (places_before rests place) (length front)) 1 0
    in_back j among is =
        let one = count_one (stands_at place) behind j own among (ap (stands_at place) is ∙ eq-eqb place place refl) in
        let most = once in
        let none : count (stands_at place) front ≡ 0 = omega arith in
        let all = count_first before front (length front) (omega arith)
        (λ k d less within. strictly (get_or front k d) own (λ e. let here = count_one (stands_at place) front k d within (eq-eqb _ _ e) in omega arith)
        (ap (λ a. is_lt (rest_cmp a (get_or front k d))) (sym is) ∙ cut k j d own within among))
        (λ k d most within. absurd (omega arith)) in
        let total : places_before rests place ≡ count before front + count before behind = parts before in
        none ∙ sym (ap (λ b. cond b 1 0) (le-ltb (places_before rests place) (length front) (omega arith)))

    -- so it is in the first list if fewer rests come before it than that list has
    penny : count_by (λ p. p == place) (map (λ a. a.0) front) ≡ cond (nat_lt (places_before rests place) (length front)) 1 0
    penny =
        count_by-count (λ p. p == place) (map (λ a. a.0) front)
        ∙ count-map (λ p. p == place) (λ (a : ℕ × ℤ). a.0) front
        ∙ elim (Contains-append_cases front behind own (Contains-permutation (enumerate_from 0 rests) (front ++ behind) own same stands)) [
          | inl here ↦ in_front here.0 here.1 here.2
          | inr there ↦ in_back there.0 there.1 there.2
        ]

  -- each place in the first list is the place of a rest
  all_inside : All (λ p. p < length rests) (map (λ a. a.0) front)
  all_inside =
      let of_rests : All (λ (a : ℕ × ℤ). a.0 < length rests) (enumerate_from 0 rests) = λ k d within.
      let inside : k < length rests = subst (λ n. k < n) (length-enumerate_from 0 rests) within in
      let is = ap (λ a. a.0) (get_or-enumerate_from 0 rests k d inside) in
      omega arith in
      let of_both = All-permutation (λ (a : ℕ × ℤ). a.0 < length rests) (enumerate_from 0 rests) (front ++ behind) same of_rests in
      All-map (λ p. p < length rests) (λ a. a.0) front
      (subst (All (λ (a : ℕ × ℤ). a.0 < length rests)) (take-append_seam front behind) (All-take (λ (a : ℕ × ℤ). a.0 < length rests) (length front) (front ++ behind) of_both))

  pub front_first : AreFirst rests (length front) (map (λ a. a.0) front)
  front_first = record { many = length-map front (λ (a : ℕ × ℤ). a.0); inside = all_inside; listed = λ place inside. penny place inside }

-- the whole list: all places are first
pub all_first : (rests : List ℤ) (count : ℕ) (placed : List (ℕ × ℤ)) → placed ≡ enumerate_from 0 rests → count ≡ length placed → AreFirst rests count (map (λ a. a.0) placed)
all_first rests count placed is many =
    let same = subst (IsPermutation (enumerate_from 0 rests)) (sym is ∙ sym (append-nil placed)) (IsPermutation-refl (enumerate_from 0 rests)) in
    rw many (front_first rests placed [] same (λ j k d e among none. absurd (omega arith)))

-- the list up to a cut: the places before it are first
pub cut_first : (rests : List ℤ) (count : ℕ) (placed front : List (ℕ × ℤ)) (one : ℕ × ℤ) (back : List (ℕ × ℤ)) → placed ≡ enumerate_from 0 rests
    → IsPermutation placed (front ++ one ∷ back) → length front ≡ count → IsSplitAroundBy (λ x y. is_lt (rest_cmp x y)) front one back → AreFirst rests count (map (λ a. a.0) front)
cut_first rests count placed front one back is same many (before, after) =
    rw (sym many) (front_first rests front (one ∷ back) (subst (λ xs. IsPermutation xs (front ++ one ∷ back)) is same) cut)
  where
    cut : (j k : ℕ) (d e : ℕ × ℤ) → j < length front → k < length (one ∷ back) → is_lt (rest_cmp (get_or (one ∷ back) k e) (get_or front j d)) ≡ false
    cut j zero d e among within = before j d among
    cut j (suc k) d e among within =
        (ranks_by rest_total (λ a. a)).chain (get_or back k e) one (get_or front j d) (after k e (omega arith)) (before j d among)
