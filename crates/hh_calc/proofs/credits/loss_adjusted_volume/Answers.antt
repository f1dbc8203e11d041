use Rattle.std.proofs.Common.{arith, ◌∙◌, ◌^◌, ◌*◌}
use Rattle.std.specs.Prelude.{◌*ℤ◌}
use Rattle.hh_calc.proofs.CreditFacts.{held_times, held_wide, held_word, multiplier_most}
use Rattle.hh_calc.proofs.WordFacts.{volume_size}
use Rattle.hh_calc.proofs.credits.loss_adjusted_volume.Goals as goal

pub returns-clause-volume : goal.returns-clause-volume
returns-clause-volume c =
    let metered = held_wide _ _ _ (10 ^ 7) c.units.ensures.value (volume_size _ c.units.ensures.range) (omega arith) c.from.ensures in
    let tlm = held_wide _ _ _ (2 * 10 ^ 7) c.units-2.ensures.value (multiplier_most _ c.units-2.ensures.range) (omega arith) c.from-2.ensures in
    let volume = held_word _ _ (2 * 10 ^ 14) (held_times _ _ _ _ (10 ^ 7) (2 * 10 ^ 7) metered tlm) (omega arith) in
    volume.is ∙ λ i. (c.reading-reading.ensures i).metered *ℤ (c.reading-reading.ensures i).tlm

pub returns-clause-size : goal.returns-clause-size
returns-clause-size c =
    let metered = held_wide _ _ _ (10 ^ 7) c.units.ensures.value (volume_size _ c.units.ensures.range) (omega arith) c.from.ensures in
    let tlm = held_wide _ _ _ (2 * 10 ^ 7) c.units-2.ensures.value (multiplier_most _ c.units-2.ensures.range) (omega arith) c.from-2.ensures in
    let volume = held_word _ _ (2 * 10 ^ 14) (held_times _ _ _ _ (10 ^ 7) (2 * 10 ^ 7) metered tlm) (omega arith) in
    rw volume.is volume.small
