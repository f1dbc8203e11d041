-- Volumes by which positions are moved.
use Rattle.std.specs.Prelude.{ℤ, pos, neg_ℤ}
use Rattle.hh_rows.specs.Ranges.{IsBetween}

-- at most 20,000 MWh in size: the difference of two volumes, in kWh
abbrev pub IsMove : ℤ → Type 0
IsMove = IsBetween (neg_ℤ (pos 20_000_000)) (pos 20_000_000)
