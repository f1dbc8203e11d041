use Rattle.std.proofs.Common.{◌≡◌, ◌∙◌, ap, arith, w8, w16, FitsSigned, to_z, of_z}
use Rattle.std.specs.Prelude.{unsigned_abs}
use Rattle.std.proofs.lemmas.Int.{to_z-of_z}
use Rattle.jiff_core.proofs.CalendarLemmas.{days_in_month_bounds}
use Rattle.jiff.proofs.SpanFacts.{signed_arith}
use Rattle.hh_time.specs.DateText.{date_text, text_of}
use Rattle.hh_time.proofs.date.SettlementDate.text.Goals as goal

pub returns-clause-value : goal.returns-clause-value
unfolding date_text
returns-clause-value c =
    let date = c.date-date.result in
    let accepted = c.date-date.ensures.accepted in
    let long = days_in_month_bounds date.year date.month in
    let last = date.day_in.1 in
    let twelve = date.month_in.1 in
    let year_fits : FitsSigned w16 c.year-year.result = omega (arith, signed_arith, c.year-year.ensures) in
    let month_fits : FitsSigned w8 c.month.result = omega (arith, signed_arith, c.month.ensures) in
    let day_fits : FitsSigned w8 c.day.result = omega (arith, signed_arith, c.day.ensures) in
    let year : unsigned_abs (to_z w16 (of_z w16 c.year-year.result)) ≡ unsigned_abs date.year = ap unsigned_abs (to_z-of_z w16 c.year-year.result year_fits ∙ c.year-year.ensures) in
    let month : unsigned_abs (to_z w8 (of_z w8 c.month.result)) ≡ date.month = ap unsigned_abs (to_z-of_z w8 c.month.result month_fits ∙ c.month.ensures) in
    let day : unsigned_abs (to_z w8 (of_z w8 c.day.result)) ≡ date.day = ap unsigned_abs (to_z-of_z w8 c.day.result day_fits ∙ c.day.ensures) in
    rw (c.digits.ensures, c.digits-2.ensures, c.digits-3.ensures, c.digits-4.ensures, year, month, day) (ap text_of c.date-date.ensures.value)
