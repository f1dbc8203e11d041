-- The order in which leftover pence are given out: the largest rests first.
use Rattle.std.specs.Prelude.{◌≡◌, ℕ, ◌<◌, ℤ, pos, List, slice_index_or, length, map, count_by}
use Rattle.std.specs.declared.cmp.Ordering.{Ordering}
use Rattle.std.specs.Ordering.{is_lt, int_cmp, nat_cmp, on, then_cmp, flip_args}
use Rattle.std.specs.List.{enumerate_from}

-- places with their rests in order: the larger rest comes first, and of equal rests the earlier place
abbrev pub rest_cmp : ℕ × ℤ → ℕ × ℤ → Ordering
rest_cmp = then_cmp (flip_args (on (λ a. a.1) int_cmp)) (on (λ a. a.0) nat_cmp)

-- how many of the rests come before the one at a place
abbrev pub places_before : List ℤ → ℕ → ℕ
places_before rests place =
    count_by (λ b. is_lt (rest_cmp b (place, slice_index_or rests place (pos 0)))) (enumerate_from 0 rests)

-- the places of a list, from the first on
abbrev pub places_in : {X : Type 0} → List X → List ℕ
places_in xs = map (λ a. a.0) (enumerate_from 0 xs)

-- the number of places before each place is the number of rests that come before its own
abbrev pub AreRanked : List ℤ → List ℕ → Type 0
AreRanked rests places =
    (k : ℕ) → k < length places → places_before rests (slice_index_or places k 0) ≡ k
