-- Numbers with a point, `-?digits(.digits)?`, as whole numbers of units of 10 ^ -decimals.
use Rattle.std.specs.Prelude.{◌≡◌, ℕ, zero, suc, ◌/◌, ◌%◌, decimal, unsigned_abs, ◌+◌, ◌-◌, ◌*◌, ◌^◌, ◌≤◌, Bool, true, false, ◌&&◌, nat_lt, nat_le, ◌==◌, if◌then◌else◌, List, [], ◌∷◌, ◌++◌, length, take, drop, slice_index, replicate, Option, Some, None, option_map, ℤ, pos, negsuc, neg_ℤ}
use Rattle.std.specs.Char.{is_ascii_digit}
use Rattle.std.specs.List.{list_all, position}
use Rattle.std.specs.Str.Parse.{digits_value}

abbrev pub is_point : ℕ → Bool
is_point b = b == 46

abbrev pub all_digits : List ℕ → Bool
all_digits text = list_all is_ascii_digit text

-- one or more digits
abbrev pub are_digits : List ℕ → Bool
are_digits [] = false
are_digits (b ∷ bytes) = all_digits (b ∷ bytes)

-- the digits before a point and behind it as one number of units, if there are not too many behind it
abbrev pub units_of : ℕ → List ℕ → List ℕ → Option ℕ
units_of decimals whole fraction =
    if are_digits whole && all_digits fraction && nat_le (length fraction) decimals
    then Some (digits_value 10 (whole ++ fraction) * 10 ^ (decimals - length fraction)) else None

-- the units of a text with no sign that has its point at this place, or has none
abbrev pub units_at : ℕ → List ℕ → Option ℕ → Option ℕ
units_at decimals text None = units_of decimals text []
units_at decimals text (Some point) =
    if nat_lt (point + 1) (length text) then units_of decimals (take point text) (drop (point + 1) text) else None

-- the units that a text with no sign writes
unfoldable pub unsigned_units : ℕ → List ℕ → Option ℕ
unsigned_units decimals text = units_at decimals text (position is_point text)

-- a number with its sign
abbrev pub signed : Bool → ℕ → ℤ
signed true n = neg_ℤ (pos n)
signed false n = pos n

-- the units that a text writes
unfoldable pub fixed_value : ℕ → List ℕ → Option ℤ
fixed_value decimals text =
    if slice_index text 0 == 45 then option_map (signed true) (unsigned_units decimals (drop 1 text)) else option_map (signed false) (unsigned_units decimals text)

-- the value, if it passes a test
abbrev pub kept_if : {A : Type 0} → (A → Bool) → Option A → Option A
kept_if test None = None
kept_if test (Some x) = if test x then Some x else None

abbrev pub fits_u64 : ℕ → Bool
fits_u64 n = nat_lt n (2 ^ 64)

abbrev pub fits_i64 : ℤ → Bool
fits_i64 (pos n) = nat_lt n (2 ^ 63)
fits_i64 (negsuc n) = nat_lt n (2 ^ 63)

-- a minus sign, or none
abbrev pub minus_of : Bool → List ℕ
minus_of true = 45 ∷ []
minus_of false = []

-- a point is written only if digits follow it
abbrev pub point_and : List ℕ → List ℕ
point_and [] = []
point_and (b ∷ bytes) = 46 ∷ b ∷ bytes

-- The text is in the grammar -?digits(.digits)?, with at most so many digits behind the point, and value is its value in units.
pub record IsFixed (decimals : ℕ) (text : List ℕ) (value : ℤ) : Type 0 where
  pub negative : Bool
  pub whole : List ℕ
  pub fraction : List ℕ
  pub spelled : text ≡ minus_of negative ++ whole ++ point_and fraction
  pub some_digits : are_digits whole ≡ true
  pub more_digits : all_digits fraction ≡ true
  pub few : length fraction ≤ decimals
  pub valued : value ≡ signed negative (digits_value 10 (whole ++ fraction) * 10 ^ (decimals - length fraction))

-- the digits of n below 10 ^ k, all k of them
abbrev pub last_digits : ℕ → ℕ → List ℕ
last_digits zero n = []
last_digits (suc k) n = (48 + n / 10 ^ k % 10) ∷ last_digits k n

-- the point and so many last digits behind it, or nothing if there are to be none
abbrev pub fraction_text : ℕ → ℕ → List ℕ
fraction_text decimals n = point_and (last_digits decimals n)

abbrev pub is_negative : ℤ → Bool
is_negative (pos n) = false
is_negative (negsuc n) = true

-- the one spelling of units: no needless zero in front, and exactly so many digits behind the point
abbrev pub fixed_text : ℕ → ℤ → List ℕ
fixed_text decimals v =
    minus_of (is_negative v) ++ decimal (unsigned_abs v / 10 ^ decimals) ++ fraction_text decimals (unsigned_abs v)

-- a text, with so many blanks in front that it fills a width
unfoldable pub flush_right : ℕ → List ℕ → List ℕ
flush_right width text = replicate (width - length text) 32 ++ text
