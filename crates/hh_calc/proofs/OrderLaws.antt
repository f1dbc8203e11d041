-- Keys that rise, and where a search finds them.
use Rattle.std.proofs.Common.{◌≡◌, ℕ, zero, suc, ◌+◌, ◌<◌, List, [], ◌∷◌, length, get_or, ap, ◌∙◌, arith, Ordering, inl, inr}
use Rattle.std.proofs.lemmas.Bool.{cases_lt}
use Rattle.std.specs.List.{Contains}
use Rattle.std.specs.List.Sorted.{IsStrictlySortedBy, IsNonDecreasingBy, IsPartitionPoint}
use Rattle.std.specs.Ordering.{is_lt, ordering_index, ordering_reverse}
use Rattle.std.specs.declared.cmp.Ordering.TheVariants.{Less, Equal, Greater}
use Rattle.std.specs.Cmp.{IsTotalOrder, tied_itself}
use Rattle.std.proofs.lemmas.List.Elements.{All-from_recursion}
use Rattle.std.proofs.lemmas.List.Sorted.{searchable_from_sorted}

module _ {K : Type 0} (R : K → K → Ordering) where
  -- each key is below each later one
  pub rises : (keys : List K) → IsStrictlySortedBy R keys → (i j : ℕ) (d : K) → i < j → j < length keys → R (get_or keys i d) (get_or keys j d) ≡ Less
  unfolding IsStrictlySortedBy
  rises [] up i j d lt in' = absurd (omega arith)
  rises (k ∷ keys) up i zero d lt in' = absurd (omega arith)
  rises (k ∷ keys) up zero (suc j) d lt in' = All-from_recursion (λ y. R k y ≡ Less) keys up.0 j d (omega arith)
  rises (k ∷ keys) up (suc i) (suc j) d lt in' = rises keys up.1 i j d (omega arith) (omega arith)

module _ {K : Type 0} {R : K → K → Ordering} (o : IsTotalOrder R) where
  -- the keys are in the order that a binary search requires
  pub searchable : (keys : List K) → IsStrictlySortedBy R keys → (x : K) → IsNonDecreasingBy (λ y. ordering_index (R y x)) keys
  searchable keys up x = searchable_from_sorted o (λ y. y) keys x (λ k d low high.
      ap is_lt (o.antisymm (get_or keys (k + 1) d) (get_or keys k d) ∙ ap ordering_reverse (rises R keys up k (k + 1) d (omega arith) high)))

  -- a key that is among them is found
  pub found : (keys : List K) (x : K) (i : ℕ) → Contains keys x → IsPartitionPoint (λ y. R y x ≡ Less) (λ y. R y x ≡ Greater) keys i → ⊥
  found keys x i (k, in', is) (below, above) =
      let same : R (get_or keys k x) x ≡ Equal = ap (λ y. R y x) is ∙ tied_itself o x in
      elim (cases_lt k i) [
        | inl lt ↦ let down = below k x (omega arith) lt in cc
        | inr le ↦ let up = above k x le in' in cc
      ]
