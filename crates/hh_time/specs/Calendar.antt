-- The dates of `jiff` in their order, each by its number of days since 1970-01-01.
use Rattle.std.specs.Prelude.{ℕ, zero, suc, ◌+◌, ◌<◌, ◌≤◌, ◌⊎◌, ℤ, pos, neg_ℤ, ◌+ℤ◌, ◌<ℤ◌, ◌≤ℤ◌}
use Rattle.std.specs.Int.{IsInRange}
use Rattle.std.proofs.Common.{inl, inr, lit≤, le_refl, le_trans, le-add_left}
use Rattle.std.proofs.lemmas.Bool.{cases_lt}
use Rattle.std.proofs.lemmas.Int.{by_lt_z}
use Rattle.jiff_core.specs.Calendar.{days_in_month}
use Rattle.jiff_core.proofs.CalendarLemmas.{days_in_month_bounds}
use Rattle.jiff.specs.Types.{Date}

-- each month has a first day
pub first_in : (year : ℤ) (month : ℕ) → IsInRange 1 (days_in_month year month) 1
first_in year month = (le_refl 1, le_trans (lit≤ tt) (days_in_month_bounds year month).1)

-- 1 January of the next year, if the calendar has that year
abbrev pub next_year : (d : Date) → ((d.year +ℤ pos 1) <ℤ neg_ℤ (pos 9999)) ⊎ (neg_ℤ (pos 9999) ≤ℤ (d.year +ℤ pos 1)) → (pos 9999 <ℤ (d.year +ℤ pos 1)) ⊎ ((d.year +ℤ pos 1) ≤ℤ pos 9999) → Date
next_year d (inr low) (inr high) = record { year = d.year +ℤ pos 1; month = 1; day = 1; year_in = (low, high); month_in = (le_refl 1, lit≤ tt); day_in = first_in (d.year +ℤ pos 1) 1 }
next_year d _ _ = d

-- the first of the next month
abbrev pub next_month : (d : Date) → (12 < d.month + 1) ⊎ (d.month + 1 ≤ 12) → Date
next_month d (inr more) = record { year = d.year; month = d.month + 1; day = 1; year_in = d.year_in; month_in = (le-add_left 1 d.month, more); day_in = first_in d.year (d.month + 1) }
next_month d (inl december) = next_year d (by_lt_z _ _ inl inr) (by_lt_z _ _ inl inr)

-- the day after; the calendar's last day, 9999-12-31, is followed by itself
abbrev pub next_day : (d : Date) → (days_in_month d.year d.month < d.day + 1) ⊎ (d.day + 1 ≤ days_in_month d.year d.month) → Date
next_day d (inr more) = record { year = d.year; month = d.month; day = d.day + 1; year_in = d.year_in; month_in = d.month_in; day_in = (le-add_left 1 d.day, more) }
next_day d (inl last) = next_month d (cases_lt _ _)

-- the date so many days after 1970-01-01
unfoldable pub date_on : ℕ → Date
date_on zero = record { year = pos 1970; month = 1; day = 1; year_in = (record { le = tt }, record { le = tt }); month_in = (le_refl 1, lit≤ tt); day_in = first_in (pos 1970) 1 }
date_on (suc n) = next_day (date_on n) (cases_lt _ _)
