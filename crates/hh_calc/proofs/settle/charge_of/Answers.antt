use Rattle.std.proofs.Common.{arith, ◌∙◌, ◌≤◌, ◌^◌}
use Rattle.std.specs.Prelude.{unsigned_abs}
use Rattle.std.specs.Int.{w128}
use Rattle.std.proofs.lemmas.Int.{to_z-of_z}
use Rattle.hh_calc.proofs.RowFacts.{charge_word, price_size, widened}
use Rattle.hh_calc.proofs.settle.charge_of.Goals as goal

pub round_div-requires-clause-limit : goal.round_div-requires-clause-limit
round_div-requires-clause-limit c =
    let size : unsigned_abs c.args.imbalance ≤ 10 ^ 17 = c.requires in
    let price = price_size c.args.price c.units-2.ensures.range in
    (charge_word c.args.imbalance c.args.price _ _ size price
    (widened c.args.imbalance _ _ c.units.ensures.value (omega arith) c.from.ensures)
    (widened c.args.price _ _ c.units-2.ensures.value (omega arith) c.from-2.ensures)).1

pub returns : goal.returns
returns c =
    let size : unsigned_abs c.args.imbalance ≤ 10 ^ 17 = c.requires in
    let price = price_size c.args.price c.units-2.ensures.range in
    let word = charge_word c.args.imbalance c.args.price _ _ size price
    (widened c.args.imbalance _ _ c.units.ensures.value (omega arith) c.from.ensures)
    (widened c.args.price _ _ c.units-2.ensures.value (omega arith) c.from-2.ensures) in
    to_z-of_z w128 c.round_div.result (record { sfits = c.round_div.type_inv }) ∙ rw word.0 at c.round_div.ensures.exact
