-- Ranges of scaled numbers.
use Rattle.std.specs.Prelude.{ℕ, ℤ, ◌≤ℤ◌, Bool, ◌&&◌, List, Option}
use Rattle.std.specs.Int.RustNames.{int_le}
use Rattle.hh_num.specs.Fixed.{fixed_value, kept_if}

-- z lies from low to high, both included
abbrev pub IsBetween : ℤ → ℤ → ℤ → Type 0
IsBetween low high z = (low ≤ℤ z) × (z ≤ℤ high)

-- whether it lies there
abbrev pub is_between : ℤ → ℤ → ℤ → Bool
is_between low high z = int_le low z && int_le z high

-- the number of units that a decimal text writes, if it lies within these bounds
abbrev pub fixed_between : ℕ → ℤ → ℤ → List ℕ → Option ℤ
fixed_between decimals low high text = kept_if (is_between low high) (fixed_value decimals text)
