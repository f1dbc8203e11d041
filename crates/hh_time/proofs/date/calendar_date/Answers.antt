use Rattle.std.proofs.Common.{◌≡◌, ◌∙◌, ap, sym, arith, pos, w64, FitsSigned}
use Rattle.std.proofs.lemmas.Int.{to_z-of_z}
use Rattle.jiff.proofs.SpanFacts.{signed_arith}
use Rattle.jiff.specs.Words.{epoch_day}
use Rattle.hh_time.proofs.CalendarLaws.{date_of_number}
use Rattle.hh_time.proofs.date.calendar_date.Goals as goal

pub returns-clause-value : goal.returns-clause-value
returns-clause-value c =
    let plain : c.from_plain.result ≡ c.in-Ok.plain = c.from_plain.ensures in
    let fits : FitsSigned w64 c.from.result = omega (arith, signed_arith) in
    let number : epoch_day c.in-Ok.plain ≡ pos c.args.days = c.in-Ok.ensures.value ∙ to_z-of_z w64 c.from.result fits ∙ c.from.ensures in
    sym (date_of_number c.from_plain.result c.args.days (omega arith) (ap epoch_day plain ∙ number))
