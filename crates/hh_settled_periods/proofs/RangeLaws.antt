-- The rows of a key in a table are next to each other: where they begin, and how many there are.
use Rattle.std.proofs.Common.{◌≡◌, ℕ, zero, suc, ◌+◌, ◌-◌, ◌<◌, ◌≤◌, List, [], ◌∷◌, length, take, drop, get_or, refl, sym, ap, ◌∙◌, Bool, true, false, cond, Ordering, arith}
use Rattle.std.specs.Prelude.{T, filter}
use Rattle.std.specs.FinMap.{is_sorted}
use Rattle.std.specs.List.{AllWithin, HoldsAt}
use Rattle.std.specs.List.Sorted.{IsNonDecreasingBy, IsPartitionPoint, IsPartitionedBy}
use Rattle.std.specs.Ordering.{is_eq, is_le, is_lt, ordering_index, ordering_reverse, ordering_then}
use Rattle.std.specs.declared.cmp.Ordering.TheVariants.{Less, Equal, Greater}
use Rattle.std.proofs.lemmas.List.Sorted.{searchable_from_sorted}
use Rattle.hh_tables.proofs.OrderLaws.{rises}
use Rattle.hh_names.specs.declared.values.Reallocation.{Reallocation}
use Rattle.hh_names.specs.Accounts.{account_cmp}
use Rattle.hh_rows.specs.Keys.{reallocation_key_cmp, unit_period_cmp}
use Rattle.hh_rows.specs.declared.keys.ReallocationKey.{ReallocationKey}
use Rattle.hh_rows.specs.declared.keys.UnitPeriod.{UnitPeriod}
use Rattle.hh_rows.proofs.KeyLaws.{unit_period_total}

-- if the whole comes before, the first part doesn't come after
not_behind : (x y : Ordering) → ordering_then x y ≡ Less → is_lt (ordering_reverse x) ≡ false
not_behind Less y e = refl
not_behind Equal y e = refl
not_behind Greater y e = cc

below_is_other : (o : Ordering) → is_lt o ≡ true → is_eq o ≡ false
below_is_other Less h = refl
below_is_other Equal h = cc
below_is_other Greater h = cc

above_is_other : (o : Ordering) → is_le o ≡ false → is_eq o ≡ false
above_is_other Less h = cc
above_is_other Equal h = cc
above_is_other Greater h = refl

neither_is_same : (o : Ordering) → is_lt o ≡ false → is_le o ≡ true → is_eq o ≡ true
neither_is_same Less h k = cc
neither_is_same Equal h k = refl
neither_is_same Greater h k = cc

module _ {E : Type 0} (order : E → Ordering) where
  -- if no element is below the key, those that are not above it are its own
  up_to : (es : List E) (count : ℕ) → AllWithin (λ e. is_lt (order e) ≡ false) es 0 (length es) → IsPartitionPoint (λ e. is_le (order e) ≡ true) (λ e. is_le (order e) ≡ false) es count
      → take count es ≡ filter (λ e. is_eq (order e)) es
  up_to [] zero from (low, high) = refl
  up_to [] (suc count) from (low, high) = refl
  up_to (e ∷ es) zero from (low, high) =
      up_to es zero (λ k d lo hi. from (suc k) d (omega arith) (omega (arith, hi))) ((λ k d lo hi. absurd (omega (arith, hi))), (λ k d lo hi. high (suc k) d (omega arith) (omega (arith, hi))))
      ∙ sym (ap (λ b. cond b (e ∷ filter (λ f. is_eq (order f)) es) (filter (λ f. is_eq (order f)) es)) (above_is_other (order e) (high zero e (omega arith) (omega arith))))
  up_to (e ∷ es) (suc count) from (low, high) =
      ap (λ l. e ∷ l) (up_to es count (λ k d lo hi. from (suc k) d (omega arith) (omega (arith, hi))) ((λ k d lo hi. low (suc k) d (omega arith) (omega (arith, hi))), (λ k d lo hi. high (suc k) d (omega (arith, lo)) (omega (arith, hi)))))
      ∙ sym (ap (λ b. cond b (e ∷ filter (λ f. is_eq (order f)) es) (filter (λ f. is_eq (order f)) es)) (neither_is_same (order e) (from zero e (omega arith) (omega arith)) (low zero e (omega arith) (omega arith))))

  -- the elements from the first that is not below the key, up to the first that is above it, are its own
  pub between : (es : List E) (from count : ℕ) → IsPartitionPoint (λ e. is_lt (order e) ≡ true) (λ e. is_lt (order e) ≡ false) es from
      → IsPartitionPoint (λ e. is_le (order e) ≡ true) (λ e. is_le (order e) ≡ false) (drop from es) count
      → take count (drop from es) ≡ filter (λ e. is_eq (order e)) es
  between es zero count (below, rest) found = up_to es count (λ k d lo hi. rest k d lo hi) found
  between [] (suc from) count (below, rest) found = up_to [] count (λ k d lo hi. absurd (omega (arith, hi))) found
  between (e ∷ es) (suc from) count (below, rest) found =
      between es from count ((λ k d lo hi. below (suc k) d (omega arith) (omega (arith, hi))), (λ k d lo hi. rest (suc k) d (omega (arith, lo)) (omega (arith, hi)))) found
      ∙ sym (ap (λ b. cond b (e ∷ filter (λ f. is_eq (order f)) es) (filter (λ f. is_eq (order f)) es)) (below_is_other (order e) (below zero e (omega arith) (omega arith))))

-- the order of a reallocation's unit and Settlement Period against a key
abbrev pub beside : UnitPeriod → ReallocationKey × Reallocation → Ordering
beside key e = unit_period_cmp e.0.unit_period key

-- in a table this order rises
pub beside_rises : (key : UnitPeriod) (es : List (ReallocationKey × Reallocation)) → T (is_sorted reallocation_key_cmp es) → IsNonDecreasingBy (λ e. ordering_index (beside key e)) es
beside_rises key es sorted = searchable_from_sorted unit_period_total (λ (e : ReallocationKey × Reallocation). e.0.unit_period) es key (λ j d low high.
    ap is_lt (unit_period_total.antisymm (get_or es (j + 1) d).0.unit_period (get_or es j d).0.unit_period)
    ∙ not_behind (unit_period_cmp (get_or es j d).0.unit_period (get_or es (j + 1) d).0.unit_period) (account_cmp (get_or es j d).0.account (get_or es (j + 1) d).0.account) (rises reallocation_key_cmp es sorted j (j + 1) d (omega arith) high))

-- a test that isn't true is false
false_unless : (b : Bool) → (b ≡ true → ⊥) → b ≡ false
false_unless true h = absurd (h refl)
false_unless false h = refl

-- a place is a partition point if the elements before and at it are as at a partition point
module _ {E : Type 0} (test : E → Bool) (es : List E) (partitioned : IsPartitionedBy test es) (i : ℕ) where
  pub all_before : i ≤ length es → (0 < i → HoldsAt (λ e. test e ≡ true) es (i - 1)) → AllWithin (λ e. test e ≡ true) es 0 i
  all_before in' last k d low high = partitioned k (i - 1) d (omega (arith, high)) (omega (arith, in', high)) (last (omega (arith, high)) d)

  pub none_behind : (i < length es → HoldsAt (λ e. test e ≡ false) es i) → AllWithin (λ e. test e ≡ false) es i (length es)
  none_behind first k d low high = false_unless (test (get_or es k d)) (λ is.
      let at : test (get_or es i d) ≡ true = partitioned i k d low high is in
      let not_at : test (get_or es i d) ≡ false = first (omega (arith, low, high)) d in
      cc)

-- a test holds for one more element
pub one_more : {E : Type 0} (test : E → Bool) (es : List E) (n : ℕ) (x : E) → n < length es → x ≡ get_or es n x → test x ≡ true → AllWithin (λ e. test e ≡ true) es 0 n
    → AllWithin (λ e. test e ≡ true) es 0 (n + 1)
one_more test [] n x in' is holds all k d low high = absurd (omega (arith, in'))
one_more test (e ∷ es) zero x in' is holds all zero d low high = ap test (sym is) ∙ holds
one_more test (e ∷ es) zero x in' is holds all (suc k) d low high = absurd (omega (arith, high))
one_more test (e ∷ es) (suc n) x in' is holds all zero d low high = all zero d (omega arith) (omega arith)
one_more test (e ∷ es) (suc n) x in' is holds all (suc k) d low high =
    one_more test es n x (omega (arith, in')) is holds (λ j d' lo hi. all (suc j) d' (omega arith) (omega (arith, hi))) k d (omega arith) (omega (arith, high))
