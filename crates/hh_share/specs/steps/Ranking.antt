-- Pennies that are given out one by one.
use Rattle.std.specs.Prelude.{◌≡◌, ℕ, ◌+◌, ◌<◌, ℤ, List, slice_index_or, length, count_by, ◌==◌, nat_lt, All, if◌then◌else◌}
use Rattle.hh_share.specs.Ranking.{places_before}

-- these sizes are the whole pence, and one penny more for each time that their place is listed
abbrev pub HasPennies : List ℕ → List ℕ → List ℕ → Type 0
HasPennies wholes places sizes =
    (length sizes ≡ length wholes)
    × ((place : ℕ) → place < length wholes
    → slice_index_or sizes place 0 ≡ slice_index_or wholes place 0 + count_by (λ p. p == place) places)

-- these are so many places of rests: a place is listed once if fewer rests come before its own than that, and otherwise not
pub record AreFirst (rests : List ℤ) (count : ℕ) (places : List ℕ) : Type 0 where
  pub many : length places ≡ count
  pub inside : All (λ p. p < length rests) places
  pub listed : (place : ℕ) → place < length rests
      → count_by (λ p. p == place) places ≡ (if nat_lt (places_before rests place) count then 1 else 0)
