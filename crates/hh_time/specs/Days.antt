-- Settlement Days and their half-hourly periods. A date is its number of days since 1970-01-01, an instant its
-- seconds since that day began in UTC.
use Rattle.std.specs.Prelude.{ℕ, ◌+◌, ◌-◌, ◌*◌, nat_le, ℤ, pos, ◌+ℤ◌, ◌-ℤ◌, int_le, Bool, ◌&&◌, if◌then◌else◌, Option, Some, None, is_some, unwrap_or}
use Rattle.std.specs.Ordering.{int_eq}

-- the instant of the local midnight that begins each date, as a zone has it
abbrev pub Midnights : Type 0
Midnights = ℕ → ℤ

-- 2001-01-01
abbrev pub first_date : ℕ
first_date = 11_323

-- 2099-12-31
abbrev pub last_date : ℕ
last_date = 47_481

-- no date before 2001 or after 2099 is accepted
abbrev pub is_accepted : ℕ → Bool
is_accepted d = nat_le first_date d && nat_le d last_date

-- how many half hours a day of so many seconds has, if it is 46, 48 or 50
abbrev pub half_hours : ℤ → Option ℕ
half_hours seconds =
    if int_eq seconds (pos (1800 * 46)) then Some 46
    else if int_eq seconds (pos (1800 * 48)) then Some 48
    else if int_eq seconds (pos (1800 * 50)) then Some 50
    else None

-- how many periods a date has; none if it is not accepted, or if its day has another length
abbrev pub count_of : Midnights → ℕ → Option ℕ
count_of midnight d = if is_accepted d then half_hours (midnight (d + 1) -ℤ midnight d) else None

-- how many periods a date has, 0 if it has no Settlement Day
abbrev pub period_count : Midnights → ℕ → ℕ
period_count midnight d = unwrap_or (count_of midnight d) 0

-- the date has this period; periods are numbered from 1
abbrev pub has_period : Midnights → ℕ → ℕ → Bool
has_period midnight d p = nat_le 1 p && nat_le p (period_count midnight d)

-- the instant at which a period begins
abbrev pub begins : Midnights → ℕ → ℕ → ℤ
begins midnight d p = midnight d +ℤ pos (1800 * (p - 1))

-- a notification of the period has to come before this instant
abbrev pub deadline : Midnights → ℕ → ℕ → ℕ → ℤ
deadline midnight lead_minutes d p = begins midnight d p -ℤ pos (60 * lead_minutes)

-- the date has periods, and the moment is at its end or later
abbrev pub is_over : Midnights → ℕ → ℤ → Bool
is_over midnight d moment = is_some (count_of midnight d) && int_le (midnight (d + 1)) moment
