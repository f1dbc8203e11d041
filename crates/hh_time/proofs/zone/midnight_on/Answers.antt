use Rattle.std.proofs.Common.{◌≡◌, ◌∙◌, ap, sym, subst, arith, ℤ, pos, ◌+ℤ◌, ◌-ℤ◌, ◌*◌, true, false, w64, FitsSigned}
use Rattle.std.proofs.lemmas.Int.{to_z-of_z}
use Rattle.std.specs.Prelude.{int_div}
use Rattle.jiff.proofs.SpanFacts.{signed_arith}
use Rattle.jiff.specs.Types.{Date, DateTime, Timestamp}
use Rattle.jiff.specs.Words.{plain_zone, picked_instant, IsBetween, IsTimestampNanos}
use Rattle.hh_time.proofs.MidnightFacts.{midnight_is, is_instant, is_near}
use Rattle.hh_time.specs.Zone.{start_of, midnight_in}
use Rattle.hh_time.proofs.zone.midnight_on.Goals as goal

pub unreachable-requires : goal.unreachable-requires
unreachable-requires c =
    let placed = c.in-Err.ensures in
    let date = c.calendar_date.result in
    let zone = plain_zone c.args.zone.now in
    let same = midnight_is placed.0 date placed.1 placed.2 in
    let Fits : DateTime → Type 0 = λ dt. IsTimestampNanos (picked_instant zone dt) in
    let fits = is_instant zone date c.args.days c.calendar_date.ensures.number (omega arith) in
    let bad : false ≡ true = placed.3.succeeds.1 (subst Fits (sym same) fits) in
    (cc)

pub returns-clause-value : goal.returns-clause-value
unfolding midnight_in
returns-clause-value c =
    let placed = c.in-Ok.ensures in
    let date = c.calendar_date.result in
    let zone = plain_zone c.args.zone.now in
    let same = midnight_is placed.0 date placed.1 placed.2 in
    let instant = placed.3.value ∙ ap (λ (dt : DateTime). picked_instant zone dt) same in
    let second : c.as_second.result ≡ start_of zone date =
    c.as_second.ensures ∙ ap (λ (t : Timestamp). int_div t.nanosecond (pos 1_000_000_000)) c.timestamp.ensures
    ∙ ap (λ (n : ℤ). int_div n (pos 1_000_000_000)) instant in
    let fits : FitsSigned w64 c.as_second.result = omega (arith, signed_arith, c.as_second.type_inv) in
    to_z-of_z w64 c.as_second.result fits ∙ second ∙ ap (λ (d : Date). start_of zone d) c.calendar_date.ensures.value

pub returns-clause-near : goal.returns-clause-near
returns-clause-near c =
    let placed = c.in-Ok.ensures in
    let date = c.calendar_date.result in
    let zone = plain_zone c.args.zone.now in
    let same = midnight_is placed.0 date placed.1 placed.2 in
    let instant = placed.3.value ∙ ap (λ (dt : DateTime). picked_instant zone dt) same in
    let second : c.as_second.result ≡ start_of zone date =
    c.as_second.ensures ∙ ap (λ (t : Timestamp). int_div t.nanosecond (pos 1_000_000_000)) c.timestamp.ensures
    ∙ ap (λ (n : ℤ). int_div n (pos 1_000_000_000)) instant in
    let fits : FitsSigned w64 c.as_second.result = omega (arith, signed_arith, c.as_second.type_inv) in
    let In : ℤ → Type 0 = λ s. IsBetween (pos (86_400 * c.args.days) -ℤ pos 93_600) (pos (86_400 * c.args.days) +ℤ pos 93_600) s in
    subst In (sym (to_z-of_z w64 c.as_second.result fits ∙ second)) (is_near zone date c.args.days c.calendar_date.ensures.number)
