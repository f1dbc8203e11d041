-- Numbers of digits alone: one or more of them, with neither a sign nor a point.
use Rattle.std.specs.Prelude.{ℕ, nat_le, List, Option, Some, None, if◌then◌else◌}
use Rattle.std.specs.Str.Parse.{digits_value}
use Rattle.hh_num.specs.Fixed.{are_digits, kept_if}

-- the number that a text of digits alone writes
unfoldable pub natural_value : List ℕ → Option ℕ
natural_value text = if are_digits text then Some (digits_value 10 text) else None

-- that number, if it is at most so much
abbrev pub natural_up_to : ℕ → List ℕ → Option ℕ
natural_up_to most text = kept_if (λ n. nat_le n most) (natural_value text)
