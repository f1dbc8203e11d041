use Rattle.std.proofs.Common.{arith, ◌^◌, ap, refl}
use Rattle.hh_calc.specs.Formulas.{ticks_per_kwh}
use Rattle.hh_calc.specs.steps.Sums.{contract_amounts}
use Rattle.hh_calc.proofs.CreditFacts.{Holds, held_times, held_wide, held_word}
use Rattle.hh_calc.proofs.WordFacts.{net_size}
use Rattle.hh_calc.proofs.sums.amounts_of_net.Goals as goal

pub returns-clause-amounts : goal.returns-clause-amounts
returns-clause-amounts c =
    let net = held_wide _ _ _ (10 ^ 11) c.units.ensures.value (net_size _ c.units.ensures.range) (omega arith) c.from.ensures in
    let ticks : Holds ticks_per_kwh ticks_per_kwh (10 ^ 7) = record { is = refl; small = omega arith } in
    let volume = held_word _ _ (10 ^ 18) (held_times _ _ _ _ (10 ^ 11) (10 ^ 7) net ticks) (omega arith) in
    ap contract_amounts volume.is

pub returns-clause-small : goal.returns-clause-small
returns-clause-small c =
    let net = held_wide _ _ _ (10 ^ 11) c.units.ensures.value (net_size _ c.units.ensures.range) (omega arith) c.from.ensures in
    let ticks : Holds ticks_per_kwh ticks_per_kwh (10 ^ 7) = record { is = refl; small = omega arith } in
    let volume = held_word _ _ (10 ^ 18) (held_times _ _ _ _ (10 ^ 11) (10 ^ 7) net ticks) (omega arith) in
    record { credited = omega arith; balancing = omega arith; contracts = rw volume.is volume.small; weight = omega arith }
