-- Ranges of dates. A date is its number of days since 1970-01-01.
use Rattle.std.specs.Prelude.{ℕ, nat_le, ◌==◌, List, length, Bool, ◌&&◌, Option, Some, None, option_and_then, if◌then◌else◌}
use Rattle.hh_time.specs.Days.{last_date}
use Rattle.hh_time.specs.DateText.{date_value}

-- the dates from a first to a last, both included
pub record Range : Type 0 where
  pub from : ℕ
  pub to : ℕ

-- the date is one of the range
abbrev pub holds : Range → ℕ → Bool
holds range date = nat_le range.from date && nat_le date range.to

-- each date of the first range is one of the second
abbrev pub is_inside : Range → Range → Bool
is_inside inner outer = nat_le outer.from inner.from && nat_le inner.to outer.to

-- the earlier of two dates
abbrev pub earlier : ℕ → ℕ → ℕ
earlier a b = if nat_le a b then a else b

-- the range with the earlier of its first date and another date as its first
abbrev pub begun_by : ℕ → Range → Range
begun_by date range = record range { from = earlier date range.from }

-- the range from one date to another, if the second isn't before the first
abbrev pub range_between : ℕ → ℕ → Option Range
range_between from to = if nat_le from to then Some (record { from = from; to = to }) else None

-- the last date of a range; an empty text means the last date that is accepted
abbrev pub last_date_value : List ℕ → Option ℕ
last_date_value text = if length text == 0 then Some last_date else date_value text

-- the range from a date to the one that a text names
unfoldable pub range_to_value : ℕ → List ℕ → Option Range
range_to_value from text = option_and_then (range_between from) (last_date_value text)
