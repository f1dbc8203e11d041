use Rattle.std.proofs.Common.{◌<◌, sym, ◌∙◌, length, arith}
use Rattle.std.proofs.lemmas.Bool.Decides.{nat_tests}
use Rattle.hh_num.proofs.FixedFacts.{units_of_whole, units_of_fraction, units_of_all}
use Rattle.hh_num.proofs.fixed.units.Goals as goal

pub returns-in_err-digits_behind_front : goal.returns-in_err-digits_behind_front
returns-in_err-digits_behind_front c = grind (arith, units_of_whole)

pub returns-in_err-number : goal.returns-in_err-number
returns-in_err-number c = grind (arith, units_of_fraction)

pub returns : goal.returns
returns c =
    let some : 0 < length c.args.whole.now = grind (arith, nat_tests) in
    let e = units_of_all c.args.decimals c.in_ok-digits_behind_front.field-0 c.in_ok-number.number c.args.whole.now c.args.fraction.now some (omega arith) (sym c.digits_behind_front.ensures ∙ c.in_ok-digits_behind_front.was) (sym c.digits_behind_front-2.ensures ∙ c.in_ok-number.was) in
    rw e (grind (arith, nat_tests))
