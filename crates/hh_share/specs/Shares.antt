-- Apportionment by largest remainders, Hamilton's method.
use Rattle.std.specs.Prelude.{◌≡◌, ℕ, ◌+◌, ◌-◌, ◌*◌, ◌/◌, ◌%◌, ◌<◌, nat_lt, ◌==◌, ℤ, pos, neg_ℤ, unsigned_abs, ◌-ℤ◌, ◌*ℤ◌, int_lt, List, length, map, sum, sum_by, count_by, All, Bool, ◌&&◌, ◌||◌, if◌then◌else◌}
use Rattle.std.specs.List.{enumerate_from, list_all, zip}
use Rattle.hh_num.specs.Totals.{total}

-- the weights that count: each counts as 1 if all are 0
abbrev pub counted_weights : List ℕ → List ℕ
counted_weights weights = if list_all (λ w. w == 0) weights then map (λ w. 1) weights else weights

-- Of two places with their remainders, b comes before a: its remainder is larger, or equal with an earlier place.
abbrev pub comes_before : ℕ × ℕ → ℕ × ℕ → Bool
comes_before b a = nat_lt a.1 b.1 || ((a.1 == b.1) && nat_lt b.0 a.0)

-- how many of a list of remainders come before a
abbrev pub rank : List ℕ → ℕ × ℕ → ℕ
rank remainders a = count_by (λ b. comes_before b a) (enumerate_from 0 remainders)

-- So many pence are apportioned by these weights. The quota of a weight is its exact part, size * weight / sum.
module _ (size : ℕ) (weights : List ℕ) where
  -- the whole pence of a quota
  abbrev pub lower_quota : ℕ → ℕ
  lower_quota weight = (size * weight) / sum weights

  -- the remainder, in parts of a penny; the sum of the weights is the number of parts in a penny
  abbrev pub remainder : ℕ → ℕ
  remainder weight = (size * weight) % sum weights

  -- the pence that the whole parts leave
  abbrev pub leftover : ℕ
  leftover = size - sum_by lower_quota weights

  -- The share of an account, given by its place and its weight: the whole pence, and one more if fewer
  -- remainders come before its own than pence are left over.
  abbrev pub share_size : ℕ × ℕ → ℕ
  share_size a = lower_quota a.1 + (if nat_lt (rank (map remainder weights) (a.0, remainder a.1)) leftover then 1 else 0)

-- n with the sign of z
abbrev pub with_sign_of : ℤ → ℕ → ℤ
with_sign_of z n = if int_lt z (pos 0) then neg_ℤ (pos n) else pos n

-- the share that an account has of an amount
abbrev pub share_of : ℤ → List ℕ → ℕ × ℕ → ℤ
share_of amount weights a = with_sign_of amount (share_size (unsigned_abs amount) weights a)

-- the shares that weights have of an amount, in their order
abbrev pub shares_by : ℤ → List ℕ → List ℤ
shares_by amount weights = map (share_of amount weights) (enumerate_from 0 weights)

-- the shares of an amount of pence: by the weights that count
abbrev pub shares : ℤ → List ℕ → List ℤ
shares amount weights = shares_by amount (counted_weights weights)

-- the pence of a split sum to this amount
abbrev pub SumsTo : ℤ → List ℤ → Type 0
SumsTo amount split = total (λ share. share) split ≡ amount

-- A share is its quota, amount * weight / sum, rounded down or up in size: it differs from the quota by less than a penny.
abbrev pub IsQuotaRounded : ℤ → List ℕ → ℕ → ℤ → Type 0
IsQuotaRounded amount weights weight share = unsigned_abs ((amount *ℤ pos weight) -ℤ (share *ℤ pos (sum weights))) < sum weights

-- there is a share for each weight, and each share is the quota of its weight, rounded
abbrev pub AreQuotasRounded : ℤ → List ℕ → List ℤ → Type 0
AreQuotasRounded amount weights split =
    (length split ≡ length weights) × All (λ a. IsQuotaRounded amount weights a.0 a.1) (zip weights split)
