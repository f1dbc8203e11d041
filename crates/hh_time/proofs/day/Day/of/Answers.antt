use Rattle.std.proofs.Common.{◌∙◌, ap, sym, subst, ℕ, ◌+◌, ◌*◌, pos, ◌+ℤ◌, ◌-ℤ◌}
use Rattle.jiff.specs.Words.{plain_zone, IsBetween}
use Rattle.hh_time.specs.Zone.{midnight_in}
use Rattle.hh_time.proofs.DayFacts.{count_is}
use Rattle.hh_time.proofs.day.Day.of.Goals as goal

pub returns-clause-count : goal.returns-clause-count
returns-clause-count c =
    let midnight = midnight_in (plain_zone c.args.zone.now) in
    let number = c.number.ensures.value in
    let next = c.midnight_on-end.ensures.value ∙ ap (λ (n : ℕ). midnight (n + 1)) number in
    let Near : ℕ → Type 0 = λ n. IsBetween (pos (86_400 * (n + 1)) -ℤ pos 93_600) (pos (86_400 * (n + 1)) +ℤ pos 93_600) c.midnight_on-end.result in
    let same = count_is midnight c.args.date c.midnight-start.result c.midnight_on-end.result c.number.ensures.range.0 c.number.ensures.range.1
    c.midnight-start.ensures.value next c.midnight-start.ensures.range (subst Near number c.midnight_on-end.ensures.near) in
    sym same ∙ sym c.half_hours.ensures ∙ c.in_ok-count.was
