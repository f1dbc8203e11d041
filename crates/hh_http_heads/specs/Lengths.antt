-- How the code represents lengths.
use Rattle.std.specs.Prelude.{ℕ, ◌^◌, ◌-◌, min}

-- a number, or the greatest of 64 bits if it is larger
abbrev pub saturated : ℕ → ℕ
saturated n = min n (2 ^ 64 - 1)
