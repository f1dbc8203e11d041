use Rattle.std.proofs.Common.{arith, ◌∙◌, ◌^◌, ◌*◌, ap}
use Rattle.std.specs.Prelude.{◌*ℤ◌}
use Rattle.hh_calc.specs.steps.Sums.{balancing_amounts}
use Rattle.hh_calc.proofs.CreditFacts.{held_times, held_wide, held_word, multiplier_most}
use Rattle.hh_calc.proofs.WordFacts.{volume_size}
use Rattle.hh_calc.proofs.sums.amounts_of_balancing.Goals as goal

pub returns-clause-amounts : goal.returns-clause-amounts
returns-clause-amounts c =
    let balancing = held_wide _ _ _ (10 ^ 7) c.units.ensures.value (volume_size _ c.units.ensures.range) (omega arith) c.from.ensures in
    let tlm = held_wide _ _ _ (2 * 10 ^ 7) c.units-2.ensures.value (multiplier_most _ c.units-2.ensures.range) (omega arith) c.from-2.ensures in
    let volume = held_word _ _ (2 * 10 ^ 14) (held_times _ _ _ _ (10 ^ 7) (2 * 10 ^ 7) balancing tlm) (omega arith) in
    ap balancing_amounts (volume.is ∙ λ i. (c.reading-reading.ensures i).balancing *ℤ (c.reading-reading.ensures i).tlm)

pub returns-clause-small : goal.returns-clause-small
returns-clause-small c =
    let balancing = held_wide _ _ _ (10 ^ 7) c.units.ensures.value (volume_size _ c.units.ensures.range) (omega arith) c.from.ensures in
    let tlm = held_wide _ _ _ (2 * 10 ^ 7) c.units-2.ensures.value (multiplier_most _ c.units-2.ensures.range) (omega arith) c.from-2.ensures in
    let volume = held_word _ _ (2 * 10 ^ 14) (held_times _ _ _ _ (10 ^ 7) (2 * 10 ^ 7) balancing tlm) (omega arith) in
    record { credited = omega arith; balancing = rw volume.is volume.small; contracts = omega arith; weight = omega arith }
