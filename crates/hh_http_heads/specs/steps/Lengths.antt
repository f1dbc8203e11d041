-- The length that a text of digits writes.
use Rattle.std.specs.Prelude.{ℕ, List, Option, Some, None, if◌then◌else◌}
use Rattle.std.specs.Str.Parse.{digits_value}
use Rattle.hh_num.specs.Fixed.{are_digits}
use Rattle.hh_http_heads.specs.Lengths.{saturated}

-- the length that digits write
abbrev pub length_value : List ℕ → Option ℕ
length_value text = if are_digits text then Some (saturated (digits_value 10 text)) else None
