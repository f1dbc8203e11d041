-- The percentage of a reallocation, which may be missing.
use Rattle.std.specs.Prelude.{ℤ, pos, Option, Some, None}
use Rattle.hh_names.specs.declared.values.Reallocation.{Reallocation}

-- the percentage of a reallocation, 0 if there is none
abbrev pub percent_in : Option Reallocation → ℤ
percent_in None = pos 0
percent_in (Some r) = r.percent
