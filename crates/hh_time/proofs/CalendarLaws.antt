-- Each day number belongs to one date.
use Rattle.std.proofs.Common.{◌≡◌, ◌⊎◌, ℕ, zero, suc, ◌+◌, ◌<◌, ◌≤◌, ◌∙◌, ap, sym, ℤ, pos, neg_ℤ, ◌+ℤ◌, ◌<ℤ◌, ◌≤ℤ◌, inl, inr, refl, arith}
use Rattle.std.proofs.lemmas.Bool.{cases_lt}
use Rattle.std.proofs.lemmas.Int.{by_lt_z}
use Rattle.jiff_core.specs.Calendar.{days_from_civil, day_count, days_of_years, days_of_months, days_in_month}
use Rattle.jiff.proofs.Family.{days_from_civil-day, days_from_civil-next_month, days_from_civil-next_year, days_from_civil-max, same_date}
use Rattle.jiff.proofs.SpanFacts.{signed_arith}
use Rattle.jiff.specs.Types.{Date}
use Rattle.jiff.specs.Words.{epoch_day}
use Rattle.hh_time.specs.Calendar.{next_year, next_month, next_day, date_on}

number_of_zero : days_from_civil (pos 1970) 1 1 ≡ pos 0
unfolding days_from_civil day_count days_of_years days_of_months
number_of_zero = refl

days_of_december : (y : ℤ) → days_in_month y 12 ≡ 31
days_of_december y = refl

-- the end of a year
december : (d : Date) → days_in_month d.year d.month ≤ d.day → 12 ≤ d.month → (d.month ≡ 12) × (d.day ≡ 31)
december d full late =
    let month : d.month ≡ 12 = omega (arith, d.month_in.1) in
    let length : days_in_month d.year d.month ≡ 31 = ap (λ m. days_in_month d.year m) month ∙ days_of_december d.year in
    (month, omega (arith, d.day_in.1))

year_passes : (d : Date) (low : ((d.year +ℤ pos 1) <ℤ neg_ℤ (pos 9999)) ⊎ (neg_ℤ (pos 9999) ≤ℤ (d.year +ℤ pos 1))) (high : (pos 9999 <ℤ (d.year +ℤ pos 1)) ⊎ ((d.year +ℤ pos 1) ≤ℤ pos 9999)) → d.month ≡ 12 → d.day ≡ 31
    → epoch_day d <ℤ pos 2_932_896 → epoch_day (next_year d low high) ≡ epoch_day d +ℤ pos 1
year_passes d (inl low) high month day before = let from = d.year_in.0 in absurd (omega (arith, signed_arith))
year_passes d (inr low) (inl high) month day before =
    let to = d.year_in.1 in
    let year : d.year ≡ pos 9999 = omega (arith, signed_arith) in
    let last : epoch_day d ≡ pos 2_932_896 = rw (year, month, day) days_from_civil-max in
    absurd (omega (arith, signed_arith))
year_passes d (inr low) (inr high) month day before =
    let from = d.year_in.0 in
    rw (month, day) (days_from_civil-next_year d.year (d.year +ℤ pos 1) (omega (arith, signed_arith)) refl)

month_passes : (d : Date) (m : (12 < d.month + 1) ⊎ (d.month + 1 ≤ 12)) → days_in_month d.year d.month ≤ d.day → epoch_day d <ℤ pos 2_932_896
    → epoch_day (next_month d m) ≡ epoch_day d +ℤ pos 1
month_passes d (inl late) full before =
    let end = december d full (omega arith) in
    year_passes d (by_lt_z _ _ inl inr) (by_lt_z _ _ inl inr) end.0 end.1 before
month_passes d (inr more) full before =
    days_from_civil-next_month d.year d.month d.day d.month_in.0 (omega (arith, d.day_in.1))

day_passes : (d : Date) (m : (days_in_month d.year d.month < d.day + 1) ⊎ (d.day + 1 ≤ days_in_month d.year d.month)) → epoch_day d <ℤ pos 2_932_896
    → epoch_day (next_day d m) ≡ epoch_day d +ℤ pos 1
day_passes d (inl last) before = month_passes d (cases_lt _ _) (omega arith) before
day_passes d (inr more) before = omega (arith, signed_arith, days_from_civil-day d.year d.month (d.day + 1) d.day (omega arith) d.day_in.0)

-- the date so many days after 1970-01-01 has this day number
pub number_on : (n : ℕ) → n ≤ 2_932_896 → epoch_day (date_on n) ≡ pos n
unfolding date_on
number_on zero h = number_of_zero
number_on (suc n) h =
    let before = number_on n (omega arith) in
    let more : (epoch_day (date_on n) +ℤ pos 1) ≡ pos (suc n) = omega (arith, signed_arith) in
    day_passes (date_on n) (cases_lt _ _) (omega (arith, signed_arith)) ∙ more

-- and no other date has it
pub date_of_number : (date : Date) (n : ℕ) → n ≤ 2_932_896 → epoch_day date ≡ pos n → date_on n ≡ date
date_of_number date n h e = same_date (date_on n) date (number_on n h ∙ sym e)
