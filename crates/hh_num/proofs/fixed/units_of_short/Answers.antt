use Rattle.std.proofs.Common.{◌≡◌, ◌+◌, ◌-◌, ◌≤◌, length, drop, take, refl, arith}
use Rattle.std.proofs.lemmas.Bool.Decides.{nat_tests}
use Rattle.std.proofs.lemmas.Grind.{common_steps}
use Rattle.hh_num.proofs.FewDigits.{few_fit, few_next, few_none, few_on}
use Rattle.hh_num.proofs.fixed.units_of_short.Goals as goal

pub loop-place-init : goal.loop-place-init
loop-place-init c = record { few = few_none c.args.text.now c.requires.short; same = refl }

pub units_with_fraction-requires-clause-few : goal.units_with_fraction-requires-clause-few
units_with_fraction-requires-clause-few c =
    let few = few_on c.loop-place.whole c.loop-place.place c.args.text.now c.loop-place.invariant.few in
    let all : take (length c.args.text.now - (c.loop-place.place + 1)) (drop (c.loop-place.place + 1) c.args.text.now) ≡ drop (c.loop-place.place + 1) c.args.text.now = grind (arith, common_steps) in
    rw all few

pub overflow_mul-whole : goal.overflow_mul-whole
overflow_mul-whole c =
    let fits = few_fit c.loop-place.whole 0 c.loop-place.place c.args.text.now c.loop-place.invariant.few (omega arith) (omega arith) in
    record { fits = omega arith }

pub overflow_add-whole : goal.overflow_add-whole
overflow_add-whole c =
    let digit : c.from.result ≤ 9 = grind (arith, nat_tests) in
    let fits = few_fit c.loop-place.whole c.from.result c.loop-place.place c.args.text.now c.loop-place.invariant.few (omega arith) digit in
    record { fits = omega arith }

pub loop-place-preserved : goal.loop-place-preserved
loop-place-preserved c =
    let digit : c.from.result ≤ 9 = grind (arith, nat_tests) in
    record {
      few = few_next c.loop-place.whole c.from.result c.loop-place.place c.args.text.now c.loop-place.invariant.few (omega arith) digit;
      same = grind (arith, nat_tests, common_steps);
    }
