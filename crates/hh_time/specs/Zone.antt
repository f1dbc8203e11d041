-- The local midnights of dates in the time zones of `jiff`.
use Rattle.std.specs.Prelude.{ℕ, ℤ, pos, int_div, Option}
use Rattle.jiff.specs.Words.{picked_instant, IsBetween}
use Rattle.jiff.specs.Spans.{midnight_of}
use Rattle.jiff.specs.Types.{Date, TimeZone}
use Rattle.hh_time.specs.Days.{Midnights, count_of}
use Rattle.hh_time.specs.Calendar.{date_on}

-- a date from 2001-01-01 to 2099-12-31
abbrev pub IsAccepted : Date → Type 0
IsAccepted date = IsBetween (pos 2001) (pos 2099) date.year

-- the instant of local midnight that the compatible conversion of `jiff` picks, in whole seconds
abbrev pub start_of : TimeZone → Date → ℤ
start_of zone date = int_div (picked_instant zone (midnight_of date)) (pos 1_000_000_000)

-- the local midnights of a zone
unfoldable pub midnight_in : TimeZone → Midnights
midnight_in zone n = start_of zone (date_on n)

-- how many periods a date has in a zone, if it has a Settlement Day
abbrev pub count_in : TimeZone → ℕ → Option ℕ
count_in zone = count_of (midnight_in zone)
