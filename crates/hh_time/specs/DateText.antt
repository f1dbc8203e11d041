-- Dates as texts, YYYY-MM-DD.
use Rattle.std.specs.Prelude.{ℕ, ◌+◌, ◌-◌, ◌*◌, ◌/◌, ◌%◌, nat_le, ◌==◌, pos, unsigned_abs, List, [], ◌∷◌, ◌&&◌, if◌then◌else◌, Option, Some, None}
use Rattle.std.specs.List.{list_all}
use Rattle.std.specs.Char.{is_ascii_digit}
use Rattle.jiff.specs.Types.{Date}
use Rattle.jiff_core.specs.Calendar.{days_in_month, days_from_civil}
use Rattle.hh_time.specs.Calendar.{date_on}

-- the two digits of a number below 100, and what follows
abbrev pub two_digits : ℕ → List ℕ → List ℕ
two_digits n rest = (48 + n / 10) ∷ (48 + n % 10) ∷ rest

-- NNNN-NN-NN, of four numbers below 100
abbrev pub dashed : ℕ → ℕ → ℕ → ℕ → List ℕ
dashed a b c d = two_digits a (two_digits b (45 ∷ two_digits c (45 ∷ two_digits d [])))

-- the text of a date with a year of four digits
abbrev pub text_of : Date → List ℕ
text_of date = dashed (unsigned_abs date.year / 100) (unsigned_abs date.year % 100) date.month date.day

-- the text of the date so many days after 1970-01-01
unfoldable pub date_text : ℕ → List ℕ
date_text d = text_of (date_on d)

-- the day number of a year, month and day, if the calendar has it and it is accepted
abbrev pub civil_day : ℕ → ℕ → ℕ → Option ℕ
civil_day y m d =
    if nat_le 2001 y && nat_le y 2099 && nat_le 1 m && nat_le m 12 && nat_le 1 d && nat_le d (days_in_month (pos y) m)
    then Some (unsigned_abs (days_from_civil (pos y) m d))
    else None

-- the number that two digits write
abbrev pub pair_value : ℕ → ℕ → ℕ
pair_value tens ones = (tens - 48) * 10 + (ones - 48)

-- the day number of the date that a text names, if it names one that is accepted
unfoldable pub date_value : List ℕ → Option ℕ
date_value (y ∷ e ∷ a ∷ r ∷ s ∷ m ∷ n ∷ t ∷ d ∷ f ∷ []) =
    if list_all is_ascii_digit (y ∷ e ∷ a ∷ r ∷ m ∷ n ∷ d ∷ f ∷ []) && (s == 45) && (t == 45)
    then civil_day (pair_value y e * 100 + pair_value a r) (pair_value m n) (pair_value d f)
    else None
date_value _ = None
