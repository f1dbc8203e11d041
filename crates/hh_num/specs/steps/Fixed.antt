-- Numbers read on from earlier digits, and numbers written with no sign.
use Rattle.std.specs.Prelude.{ℕ, ◌+◌, ◌-◌, ◌*◌, ◌/◌, ◌^◌, ◌≤◌, ◌<◌, ◌&&◌, nat_le, decimal, if◌then◌else◌, List, [], ◌∷◌, ◌++◌, length, Option, Some, None}
use Rattle.std.specs.Char.{is_ascii_digit, digit_value}
use Rattle.std.specs.Str.Parse.{digits_value_after}
use Rattle.hh_num.specs.Fixed.{all_digits, fraction_text, is_point}

-- the number that digits write behind the digits of front
abbrev pub digits_behind : ℕ → List ℕ → Option ℕ
digits_behind front text = if all_digits text then Some (digits_value_after 10 front text) else None

-- Digits that are at most 19 together with those of front: their number is below 10 ^ 19, and so below 2 ^ 64.
pub record AreFew (front : ℕ) (digits : List ℕ) : Type 0 where
  pub few : length digits ≤ 19
  pub room : front < 10 ^ (19 - length digits)

-- the units of a number with digits behind its point, if there are some and not too many
abbrev pub units_with_fraction : ℕ → ℕ → List ℕ → Option ℕ
units_with_fraction decimals whole [] = None
units_with_fraction decimals whole (b ∷ bytes) =
    if all_digits (b ∷ bytes) && nat_le (length (b ∷ bytes)) decimals
    then Some (digits_value_after 10 whole (b ∷ bytes) * 10 ^ (decimals - length (b ∷ bytes))) else None

-- the units that a text writes behind the digits of front
abbrev pub units_behind : ℕ → ℕ → List ℕ → Option ℕ
units_behind decimals front [] = Some (front * 10 ^ decimals)
units_behind decimals front (b ∷ bytes) =
    if is_point b then units_with_fraction decimals front bytes
    else if is_ascii_digit b then units_behind decimals (front * 10 + digit_value b) bytes else None

-- the digits before the point with no needless zero in front, and exactly so many behind it
abbrev pub size_text : ℕ → ℕ → List ℕ
size_text decimals n = decimal (n / 10 ^ decimals) ++ fraction_text decimals n
