use Rattle.std.proofs.Common.{◌<◌, ◌^◌, arith}
use Rattle.std.proofs.lemmas.Bool.Decides.{nat_tests}
use Rattle.std.proofs.lemmas.List.{at_drop_all}
use Rattle.hh_num.specs.Fixed.{kept_if, fits_u64}
use Rattle.hh_num.specs.steps.Fixed.{digits_behind}
use Rattle.hh_num.proofs.fixed.digits_behind_front.Goals as goal

pub returns : goal.returns
returns c =
    let number = c.loop-digit.number in
    let small : number < 2 ^ 64 = c.loop-digit.invariant.fits in
    let same = c.loop-digit.invariant.same in
    let end = at_drop_all (λ xs. kept_if fits_u64 (digits_behind number xs)) c.args.digits.now c.loop-digit.digit-index (omega arith) in
    grind (arith, nat_tests)
