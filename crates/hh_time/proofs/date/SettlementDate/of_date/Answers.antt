use Rattle.std.proofs.Common.{◌≡◌, ◌∙◌, ap, sym, subst, arith, ℤ, pos, w32, FitsSigned, to_z, of_z}
use Rattle.std.proofs.lemmas.Int.{to_z-of_z}
use Rattle.jiff.proofs.SpanFacts.{signed_arith}
use Rattle.jiff.specs.Words.{epoch_day, IsBetween}
use Rattle.hh_time.proofs.AcceptedLaws.{accepted-number}
use Rattle.hh_time.proofs.date.SettlementDate.of_date.Goals as goal

pub returns-clause-accepted : goal.returns-clause-accepted
returns-clause-accepted c =
    let plain : c.to_plain.result ≡ c.args.date = c.to_plain.ensures in
    let fits : FitsSigned w32 c.to_unix_epoch_day.result = omega (arith, signed_arith, c.to_unix_epoch_day.ensures.bound) in
    let number : to_z w32 (of_z w32 c.to_unix_epoch_day.result) ≡ epoch_day c.args.date = to_z-of_z w32 c.to_unix_epoch_day.result fits ∙ c.to_unix_epoch_day.ensures.value ∙ ap epoch_day plain in
    let law = accepted-number c.args.date in
    let In : ℤ → Type 0 = λ z. IsBetween (pos 11_323) (pos 47_481) z in
    (λ some. law.1 (subst In number (c.of_number.ensures.accepted.0 some)), λ accepted. c.of_number.ensures.accepted.1 (subst In (sym number) (law.0 accepted)))
