-- Counts and sums over lists and over their places.
use Rattle.std.proofs.Common.{◌≡◌, ℕ, suc, ◌+◌, ◌<◌, List, [], ◌∷◌, map, length, get_or, refl, sym, ap, ◌∙◌, Bool, true, false, cond, zero-add, arith}
use Rattle.std.specs.Prelude.{sum_by, count_by}
use Rattle.std.specs.List.{enumerate_from}
use Rattle.std.proofs.lemmas.List.Sums.{sum_by-cons}
use Rattle.std.proofs.lemmas.List.FromFn.{get_or-enumerate_from}

-- how many elements of a list pass a test, by recursion
abbrev pub count : {X : Type 0} → (X → Bool) → List X → ℕ
count test [] = 0
count test (x ∷ xs) = cond (test x) (suc (count test xs)) (count test xs)

-- std's count is the same
pub count_by-count : {X : Type 0} (test : X → Bool) (xs : List X) → count_by test xs ≡ count test xs
count_by-count test [] = refl
count_by-count test (x ∷ xs) =
    sum_by-cons (λ y. cond (test y) 1 0) x xs
    ∙ ap (λ n. cond (test x) 1 0 + n) (count_by-count test xs)
    ∙ elim (test x) as (λ b. cond b 1 0 + count test xs ≡ cond b (suc (count test xs)) (count test xs)) [ true ↦ omega arith | false ↦ omega arith ]

-- counting the results of a map counts by the test after it
pub count-map : {X Y : Type 0} (test : Y → Bool) (f : X → Y) (xs : List X) → count test (map f xs) ≡ count (λ x. test (f x)) xs
count-map test f [] = refl
count-map test f (x ∷ xs) = ap (λ n. cond (test (f x)) (suc n) n) (count-map test f xs)

-- the same for std's count
pub count_by-map : {X Y : Type 0} (test : Y → Bool) (f : X → Y) (xs : List X) → count_by test (map f xs) ≡ count_by (λ x. test (f x)) xs
count_by-map test f xs = count_by-count test (map f xs) ∙ count-map test f xs ∙ sym (count_by-count (λ x. test (f x)) xs)

-- equal tests give equal counts
pub count-same : {X : Type 0} (f g : X → Bool) (xs : List X) → ((x : X) → f x ≡ g x) → count f xs ≡ count g xs
count-same f g [] same = refl
count-same f g (x ∷ xs) same = λ i. cond (same x i) (suc (count-same f g xs same i)) (count-same f g xs same i)

-- mapping the elements leaves their places
pub enumerate-map : {X Y : Type 0} (f : X → Y) (m : ℕ) (xs : List X) → enumerate_from m (map f xs) ≡ map (λ a. (a.0, f a.1)) (enumerate_from m xs)
enumerate-map f m [] = refl
enumerate-map f m (x ∷ xs) = ap (λ t. (m, f x) ∷ t) (enumerate-map f (m + 1) xs)

-- summing two amounts together gives the sum of both sums
pub sum_by-plus : {X : Type 0} (f g : X → ℕ) (xs : List X) → sum_by (λ x. f x + g x) xs ≡ sum_by f xs + sum_by g xs
sum_by-plus f g [] = refl
sum_by-plus f g (x ∷ xs) =
    let a : sum_by (λ y. f y + g y) (x ∷ xs) ≡ (f x + g x) + sum_by (λ y. f y + g y) xs = sum_by-cons (λ y. f y + g y) x xs in
    let b : sum_by f (x ∷ xs) ≡ f x + sum_by f xs = sum_by-cons f x xs in
    let c : sum_by g (x ∷ xs) ≡ g x + sum_by g xs = sum_by-cons g x xs in
    let h : sum_by (λ y. f y + g y) xs ≡ sum_by f xs + sum_by g xs = sum_by-plus f g xs in
    omega arith

-- a sum over the elements does not depend on their places
pub sum_by-enumerate : {X : Type 0} (f : X → ℕ) (m : ℕ) (xs : List X) → sum_by (λ a. f a.1) (enumerate_from m xs) ≡ sum_by f xs
sum_by-enumerate f m [] = refl
sum_by-enumerate f m (x ∷ xs) =
    sum_by-cons (λ a. f a.1) (m, x) (enumerate_from (m + 1) xs) ∙ ap (λ n. f x + n) (sum_by-enumerate f (m + 1) xs) ∙ sym (sum_by-cons f x xs)

-- the weight at a place, paired with the place
pub claimant_is : (ws : List ℕ) (place : ℕ) → place < length ws → get_or (enumerate_from 0 ws) place (0, 0) ≡ (place, get_or ws place 0)
claimant_is ws place inside = get_or-enumerate_from 0 ws place (0, 0) inside ∙ ap (λ n. (n, get_or ws place 0)) (zero-add place)
