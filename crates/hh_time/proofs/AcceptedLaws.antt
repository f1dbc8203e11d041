-- The day numbers of the accepted dates.
use Rattle.std.proofs.Common.{◌≡◌, pos, ◌<ℤ◌, ◌≤ℤ◌, inl, inr, refl, arith, rules}
use Rattle.std.specs.Prelude.{◌↔◌}
use Rattle.std.proofs.lemmas.Int.{by_lt_z}
use Rattle.jiff_core.specs.Calendar.{days_from_civil, day_count, days_of_years, days_of_months}
use Rattle.jiff_core.proofs.DateLemmas.{cases_date}
use Rattle.jiff_core.proofs.CalendarLemmas.{days_in_month_bounds}
use Rattle.jiff.proofs.SpanFacts.{signed_arith}
use Rattle.jiff.proofs.Family.{epoch_day-lt, epoch_day_same}
use Rattle.jiff.specs.Types.{Date}
use Rattle.jiff.specs.Words.{epoch_day, IsBetween}
use Rattle.hh_time.specs.Zone.{IsAccepted}

days-2001 : days_from_civil (pos 2001) 1 1 ≡ pos 11_323
unfolding days_from_civil day_count days_of_years days_of_months
days-2001 = refl

days-2099 : days_from_civil (pos 2099) 12 31 ≡ pos 47_481
unfolding days_from_civil day_count days_of_years days_of_months
days-2099 = refl

first_2001 : Date
first_2001 = record { year = pos 2001; month = 1; day = 1; year_in = search rules; month_in = search rules; day_in = search rules }

last_2099 : Date
last_2099 = record { year = pos 2099; month = 12; day = 31; year_in = search rules; month_in = search rules; day_in = search rules }

-- the day number of an accepted date is that of a date from 2001-01-01 to 2099-12-31
pub from_2001 : (d : Date) → pos 2001 ≤ℤ d.year → pos 11_323 ≤ℤ epoch_day d
unfolding first_2001
from_2001 d h =
    elim (cases_date first_2001 d) [
      | inl lt ↦ let e = epoch_day-lt first_2001 d lt in omega (arith, signed_arith, days-2001)
      | inr (inl (inl year)) ↦ absurd (omega (arith, signed_arith))
      | inr (inl (inr (year, inl month))) ↦ absurd (omega (arith, signed_arith, d.month_in))
      | inr (inl (inr (year, inr day))) ↦ absurd (omega (arith, signed_arith, d.day_in))
      | inr (inr e) ↦ let s = epoch_day_same first_2001 d e.0 e.1 e.2 in omega (arith, signed_arith, days-2001)
    ]

before_2001 : (d : Date) → d.year <ℤ pos 2001 → epoch_day d <ℤ pos 11_323
unfolding first_2001
before_2001 d h = let e = epoch_day-lt d first_2001 (inl h) in omega (arith, signed_arith, days-2001)

-- no day of a year is after 31 December
to_last : (last d : Date) → last.month ≡ 12 → last.day ≡ 31 → d.year ≤ℤ last.year → epoch_day d ≤ℤ epoch_day last
to_last last d month day h =
    elim (cases_date last d) [
      | inl (inl year) ↦ absurd (omega (arith, signed_arith))
      | inl (inr (year, inl later)) ↦ absurd (omega (arith, signed_arith, d.month_in))
      | inl (inr (year, inr later)) ↦ absurd (omega (arith, signed_arith, d.day_in, days_in_month_bounds d.year d.month))
      | inr (inl lt) ↦ let e = epoch_day-lt d last lt in omega (arith, signed_arith)
      | inr (inr e) ↦ let s = epoch_day_same last d e.0 e.1 e.2 in omega (arith, signed_arith)
    ]

pub to_2099 : (d : Date) → d.year ≤ℤ pos 2099 → epoch_day d ≤ℤ pos 47_481
unfolding last_2099
to_2099 d h = let e = to_last last_2099 d refl refl h in omega (arith, signed_arith, days-2099)

after_2099 : (d : Date) → pos 2099 <ℤ d.year → pos 47_481 <ℤ epoch_day d
unfolding last_2099
after_2099 d h = let e = epoch_day-lt last_2099 d (inl h) in omega (arith, signed_arith, days-2099)

-- a date is accepted exactly if its day number lies between those of the first and the last
pub accepted-number : (d : Date) → IsAccepted d ↔ IsBetween (pos 11_323) (pos 47_481) (epoch_day d)
accepted-number d = (
  λ h. (from_2001 d h.0, to_2099 d h.1),
  λ n. (
    by_lt_z d.year (pos 2001) (λ lt. absurd (let e = before_2001 d lt in omega (arith, signed_arith))) (λ ge. ge),
    by_lt_z (pos 2099) d.year (λ lt. absurd (let e = after_2099 d lt in omega (arith, signed_arith))) (λ ge. ge),
  ),
)
