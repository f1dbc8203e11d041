-- How far a split departs from the quotas, by least squares.
use Rattle.std.specs.Prelude.{◌≡◌, ℕ, ◌^◌, ◌≤◌, ℤ, pos, unsigned_abs, ◌-ℤ◌, ◌*ℤ◌, List, length, sum, sum_by}
use Rattle.std.specs.List.{zip}
use Rattle.hh_share.specs.Shares.{SumsTo}

-- the distance of a share from its quota, amount * weight / sum; it is counted in parts of a penny, as many to the penny as the sum
abbrev pub distance : ℤ → List ℕ → ℕ → ℤ → ℕ
distance amount weights weight share = unsigned_abs ((amount *ℤ pos weight) -ℤ (share *ℤ pos (sum weights)))

-- the departure of a split: the sum of the squares of its shares' distances
abbrev pub departure : ℤ → List ℕ → List ℤ → ℕ
departure amount weights split = sum_by (λ a. distance amount weights a.0 a.1 ^ 2) (zip weights split)

-- a split of an amount: for each weight a number of whole pence of either sign, which sum to the amount
abbrev pub IsSplit : ℤ → List ℕ → List ℤ → Type 0
IsSplit amount weights split = (length split ≡ length weights) × SumsTo amount split

-- no split of the amount departs less from the quotas than this one
abbrev pub DepartsLeast : ℤ → List ℕ → List ℤ → Type 0
DepartsLeast amount weights split =
    (other : List ℤ) → IsSplit amount weights other → departure amount weights split ≤ departure amount weights other
