use Rattle.std.proofs.Common.{arith, pos}
use Rattle.jiff.proofs.SpanFacts.{signed_arith}
use Rattle.jiff.specs.Words.{epoch_day, IsBetween}
use Rattle.hh_time.proofs.AcceptedLaws.{accepted-number}
use Rattle.hh_time.proofs.date.SettlementDate.date.Goals as goal

pub returns-clause-accepted : goal.returns-clause-accepted
returns-clause-accepted c =
    let range = c.number.ensures.range in
    let within : IsBetween (pos 11_323) (pos 47_481) (epoch_day c.calendar_date.result) = omega (arith, signed_arith, c.calendar_date.ensures.number, c.number.ensures.value) in
    (accepted-number c.calendar_date.result).1 within
