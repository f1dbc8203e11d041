use Rattle.std.proofs.Common.{◌≤◌, arith}
use Rattle.std.proofs.lemmas.Bool.Decides.{nat_tests}
use Rattle.std.proofs.lemmas.Grind.{common_steps}
use Rattle.hh_num.proofs.FewDigits.{few_fit, few_next}
use Rattle.hh_num.proofs.fixed.few_digits_behind.Goals as goal

pub overflow_mul-number : goal.overflow_mul-number
overflow_mul-number c =
    let fits = few_fit c.loop-digit.number 0 c.loop-digit.digit-index c.args.digits.now c.loop-digit.invariant.few (omega arith) (omega arith) in
    record { fits = omega arith }

pub overflow_add-number : goal.overflow_add-number
overflow_add-number c =
    let digit : c.from.result ≤ 9 = grind (arith, nat_tests) in
    let fits = few_fit c.loop-digit.number c.from.result c.loop-digit.digit-index c.args.digits.now c.loop-digit.invariant.few (omega arith) digit in
    record { fits = omega arith }

pub loop-digit-preserved : goal.loop-digit-preserved
loop-digit-preserved c =
    let digit : c.from.result ≤ 9 = grind (arith, nat_tests) in
    record {
      few = few_next c.loop-digit.number c.from.result c.loop-digit.digit-index c.args.digits.now c.loop-digit.invariant.few (omega arith) digit;
      same = grind (arith, nat_tests, common_steps);
    }
