-- Three kinds of sums: of an amount that counts at one place, over the parts of rows, and in another order.
use Rattle.std.proofs.Common.{◌≡◌, ℕ, zero, suc, ◌+◌, ◌<◌, Bool, true, false, cond, List, [], ◌∷◌, length, get_or, refl, sym, ap, ◌∙◌, arith}
use Rattle.std.specs.Prelude.{◌≢◌, ℤ, pos, negsuc, ◌+ℤ◌, ◌-ℤ◌, sum_by}
use Rattle.std.specs.List.{flat_map}
use Rattle.std.specs.List.Sorted.{IsPermutation}
use Rattle.std.proofs.Math.IntN.{+ℤ_idl, +ℤ_idr}
use Rattle.std.proofs.lemmas.Int.{ints}
use Rattle.std.proofs.lemmas.List.Sorted.{sum_by-IsPermutation}
use Rattle.std.proofs.lemmas.List.Sums.{sum_by-cons}
use Rattle.hh_share.specs.Totals.{total}
use Rattle.hh_share.proofs.TotalLaws.{total-append}

module _ {X : Type 0} (test : X → Bool) (f : X → ℤ) where
  -- an amount that counts if the test holds
  abbrev pub counted : X → ℤ
  counted x = cond (test x) (f x) (pos 0)

  -- if the test holds at no place, the sum is 0
  none_counts : (xs : List X) (d : X) → ((j : ℕ) → j < length xs → test (get_or xs j d) ≡ false) → total counted xs ≡ pos 0
  none_counts [] d never = refl
  none_counts (x ∷ xs) d never = λ i. cond (never 0 (omega arith) i) (f x) (pos 0) +ℤ none_counts xs d (λ j lt. never (suc j) (omega arith)) i

  -- if the test holds at exactly one place, the sum is the amount at that place
  pub counts_once : (xs : List X) (d : X) (k : ℕ) → k < length xs → test (get_or xs k d) ≡ true
      → ((j : ℕ) → j < length xs → j ≢ k → test (get_or xs j d) ≡ false) → total counted xs ≡ f (get_or xs k d)
  counts_once [] d k inside is others = absurd (omega arith)
  counts_once (x ∷ xs) d zero inside is others =
      (λ i. cond (is i) (f x) (pos 0) +ℤ none_counts xs d (λ j lt. others (suc j) (omega arith) (omega arith)) i) ∙ +ℤ_idr (f x)
  counts_once (x ∷ xs) d (suc k) inside is others =
      (λ i. cond (others 0 (omega arith) (omega arith) i) (f x) (pos 0)
      +ℤ counts_once xs d k (omega arith) is (λ j lt ne. others (suc j) (omega arith) (omega arith)) i)
      ∙ +ℤ_idl (f (get_or xs k d))

-- a sum over the parts of rows is the sum of the rows' own sums
pub total-flat_map : {X Y : Type 0} (f : Y → ℤ) (parts : X → List Y) (xs : List X) → total f (flat_map parts xs) ≡ total (λ x. total f (parts x)) xs
total-flat_map f parts [] = refl
total-flat_map f parts (x ∷ xs) = total-append f (parts x) (flat_map parts xs) ∙ ap (λ z. total f (parts x) +ℤ z) (total-flat_map f parts xs)

-- by how much a number is above zero, and by how much below
abbrev above : ℤ → ℕ
above (pos n) = n
above (negsuc n) = 0

abbrev below : ℤ → ℕ
below (pos n) = 0
below (negsuc n) = suc n

-- a number is the difference of the two
above-below : (z : ℤ) → z ≡ pos (above z) -ℤ pos (below z)
above-below (pos n) = omega (arith, ints)
above-below (negsuc n) = omega (arith, ints)

module _ {X : Type 0} (f : X → ℤ) where
  -- and a sum is the difference of the two sums
  above_and_below : (xs : List X) → total f xs ≡ pos (sum_by (λ x. above (f x)) xs) -ℤ pos (sum_by (λ x. below (f x)) xs)
  above_and_below [] = refl
  above_and_below (x ∷ xs) =
      let a : sum_by (λ y. above (f y)) (x ∷ xs) ≡ above (f x) + sum_by (λ y. above (f y)) xs = sum_by-cons (λ y. above (f y)) x xs in
      let b : sum_by (λ y. below (f y)) (x ∷ xs) ≡ below (f x) + sum_by (λ y. below (f y)) xs = sum_by-cons (λ y. below (f y)) x xs in
      let one = above-below (f x) in
      let more = above_and_below xs in
      omega (arith, ints)

  -- a sum does not depend on the order of the rows
  pub total-IsPermutation : (xs ys : List X) → IsPermutation xs ys → total f ys ≡ total f xs
  total-IsPermutation xs ys moved =
      above_and_below ys
      ∙ (λ i. pos (sum_by-IsPermutation (λ x. above (f x)) xs ys moved i) -ℤ pos (sum_by-IsPermutation (λ x. below (f x)) xs ys moved i))
      ∙ sym (above_and_below xs)
