use Rattle.std.proofs.Common.{arith, ◌∙◌, ◌^◌, ◌*◌}
use Rattle.std.specs.Prelude.{pos, ◌+ℤ◌, ◌-ℤ◌, ◌*ℤ◌}
use Rattle.hh_share.specs.Rounding.{near}
use Rattle.hh_calc.proofs.CreditFacts.{held_amount, held_credit, held_fits, held_limit, held_part, held_percentage, held_wide, held_word, multiplier_most, percent_most}
use Rattle.hh_calc.proofs.WordFacts.{volume_size}
use Rattle.hh_calc.proofs.credits.credit_to.Goals as goal

pub overflow_mul-part : goal.overflow_mul-part
overflow_mul-part c =
    let metered = held_wide _ _ _ (10 ^ 7) c.units.ensures.value (volume_size _ c.units.ensures.range) (omega arith) c.from.ensures in
    let balancing = held_wide _ _ _ (10 ^ 7) c.units-2.ensures.value (volume_size _ c.units-2.ensures.range) (omega arith) c.from-2.ensures in
    let percent = held_wide _ _ _ (10 ^ 7) c.units-3.ensures.value (percent_most _ c.units-3.ensures.range) (omega arith) c.from-3.ensures in
    held_fits _ _ (2 * 10 ^ 14) (held_percentage _ _ _ _ _ _ metered balancing percent) (omega arith)

pub overflow_add-part : goal.overflow_add-part
overflow_add-part c =
    let metered = held_wide _ _ _ (10 ^ 7) c.units.ensures.value (volume_size _ c.units.ensures.range) (omega arith) c.from.ensures in
    let balancing = held_wide _ _ _ (10 ^ 7) c.units-2.ensures.value (volume_size _ c.units-2.ensures.range) (omega arith) c.from-2.ensures in
    let percent = held_wide _ _ _ (10 ^ 7) c.units-3.ensures.value (percent_most _ c.units-3.ensures.range) (omega arith) c.from-3.ensures in
    let fixed = held_wide _ _ _ (10 ^ 7) c.units-4.ensures.value (volume_size _ c.units-4.ensures.range) (omega arith) c.from-4.ensures in
    held_fits _ _ (3 * 10 ^ 14) (held_part _ _ _ _ _ _ metered balancing percent _ _ fixed) (omega arith)

pub overflow_mul-part-3 : goal.overflow_mul-part-3
overflow_mul-part-3 c =
    let metered = held_wide _ _ _ (10 ^ 7) c.units.ensures.value (volume_size _ c.units.ensures.range) (omega arith) c.from.ensures in
    let balancing = held_wide _ _ _ (10 ^ 7) c.units-2.ensures.value (volume_size _ c.units-2.ensures.range) (omega arith) c.from-2.ensures in
    let percent = held_wide _ _ _ (10 ^ 7) c.units-3.ensures.value (percent_most _ c.units-3.ensures.range) (omega arith) c.from-3.ensures in
    let fixed = held_wide _ _ _ (10 ^ 7) c.units-4.ensures.value (volume_size _ c.units-4.ensures.range) (omega arith) c.from-4.ensures in
    let tlm = held_wide _ _ _ (2 * 10 ^ 7) c.units-5.ensures.value (multiplier_most _ c.units-5.ensures.range) (omega arith) c.from-5.ensures in
    held_fits _ _ (6 * 10 ^ 21) (held_amount _ _ _ _ _ _ metered balancing percent _ _ fixed _ _ tlm) (omega arith)

pub round_div-requires-clause-limit : goal.round_div-requires-clause-limit
round_div-requires-clause-limit c =
    let metered = held_wide _ _ _ (10 ^ 7) c.units.ensures.value (volume_size _ c.units.ensures.range) (omega arith) c.from.ensures in
    let balancing = held_wide _ _ _ (10 ^ 7) c.units-2.ensures.value (volume_size _ c.units-2.ensures.range) (omega arith) c.from-2.ensures in
    let percent = held_wide _ _ _ (10 ^ 7) c.units-3.ensures.value (percent_most _ c.units-3.ensures.range) (omega arith) c.from-3.ensures in
    let fixed = held_wide _ _ _ (10 ^ 7) c.units-4.ensures.value (volume_size _ c.units-4.ensures.range) (omega arith) c.from-4.ensures in
    let tlm = held_wide _ _ _ (2 * 10 ^ 7) c.units-5.ensures.value (multiplier_most _ c.units-5.ensures.range) (omega arith) c.from-5.ensures in
    let amount = held_word _ _ (6 * 10 ^ 21) (held_amount _ _ _ _ _ _ metered balancing percent _ _ fixed _ _ tlm) (omega arith) in
    held_limit _ _ amount

pub returns-clause-credit : goal.returns-clause-credit
returns-clause-credit c =
    let metered = held_wide _ _ _ (10 ^ 7) c.units.ensures.value (volume_size _ c.units.ensures.range) (omega arith) c.from.ensures in
    let balancing = held_wide _ _ _ (10 ^ 7) c.units-2.ensures.value (volume_size _ c.units-2.ensures.range) (omega arith) c.from-2.ensures in
    let percent = held_wide _ _ _ (10 ^ 7) c.units-3.ensures.value (percent_most _ c.units-3.ensures.range) (omega arith) c.from-3.ensures in
    let fixed = held_wide _ _ _ (10 ^ 7) c.units-4.ensures.value (volume_size _ c.units-4.ensures.range) (omega arith) c.from-4.ensures in
    let tlm = held_wide _ _ _ (2 * 10 ^ 7) c.units-5.ensures.value (multiplier_most _ c.units-5.ensures.range) (omega arith) c.from-5.ensures in
    let amount = held_word _ _ (6 * 10 ^ 21) (held_amount _ _ _ _ _ _ metered balancing percent _ _ fixed _ _ tlm) (omega arith) in
    (held_credit _ _ _ c.round_div.type_inv c.round_div.ensures.exact amount).is
    ∙ λ i. near (((((c.reading-reading.ensures i).metered -ℤ (c.reading-reading.ensures i).balancing) *ℤ c.args.subsidiary.now.reallocation.percent) +ℤ (c.args.subsidiary.now.reallocation.fixed *ℤ pos (10 ^ 7))) *ℤ (c.reading-reading.ensures i).tlm) (pos (10 ^ 7))

pub returns-clause-size : goal.returns-clause-size
returns-clause-size c =
    let metered = held_wide _ _ _ (10 ^ 7) c.units.ensures.value (volume_size _ c.units.ensures.range) (omega arith) c.from.ensures in
    let balancing = held_wide _ _ _ (10 ^ 7) c.units-2.ensures.value (volume_size _ c.units-2.ensures.range) (omega arith) c.from-2.ensures in
    let percent = held_wide _ _ _ (10 ^ 7) c.units-3.ensures.value (percent_most _ c.units-3.ensures.range) (omega arith) c.from-3.ensures in
    let fixed = held_wide _ _ _ (10 ^ 7) c.units-4.ensures.value (volume_size _ c.units-4.ensures.range) (omega arith) c.from-4.ensures in
    let tlm = held_wide _ _ _ (2 * 10 ^ 7) c.units-5.ensures.value (multiplier_most _ c.units-5.ensures.range) (omega arith) c.from-5.ensures in
    let amount = held_word _ _ (6 * 10 ^ 21) (held_amount _ _ _ _ _ _ metered balancing percent _ _ fixed _ _ tlm) (omega arith) in
    let credit = held_credit _ _ _ c.round_div.type_inv c.round_div.ensures.exact amount in
    rw credit.is credit.small
