use Rattle.std.proofs.Common.{[], ◌*◌, ◌+◌, arith, length, take, ap, subst, ◌∙◌}
use Rattle.std.specs.List.{zip}
use Rattle.std.proofs.lemmas.List.{take_all}
use Rattle.hh_calc.specs.steps.Sums.{greatest_credit, greatest_sum, greatest_unit_sum, with_amounts, with_nets, AreChanged}
use Rattle.hh_calc.proofs.SumLaws.{all_within, changed_on, grown_on, length-beside, net_step, no_nets, not_grown, unchanged}
use Rattle.hh_calc.proofs.sums.add_nets.Goals as goal

pub loop-place-init : goal.loop-place-init
loop-place-init c = record {
  added = unchanged c.args.accounts.now (with_nets []) no_nets c.args.sums.now;
  grown = not_grown (0 * greatest_credit) c.args.sums.now;
}

pub add_to-requires-clause-room : goal.add_to-requires-clause-room
add_to-requires-clause-room c =
    all_within (greatest_unit_sum + c.loop-place.place * greatest_credit) (2 * greatest_sum) c.loop-place.sums (omega arith)
    (c.loop-place.invariant.grown greatest_unit_sum c.requires.room)

pub loop-place-preserved : goal.loop-place-preserved
loop-place-preserved c =
    let accounts = c.args.accounts.now in
    let nets = c.args.nets.now in
    let i = c.loop-place.place in
    let account = c.index-accounts-place.result in
    let net = c.index-nets-place.result in
    record {
      added = changed_on accounts (with_nets (take i (zip accounts nets))) (with_amounts account c.amounts_of_net.result) (with_nets (take (i + 1) (zip accounts nets)))
          (λ a s. ap (λ x. with_amounts account x a (with_nets (take i (zip accounts nets)) a s)) c.amounts_of_net.ensures.amounts
          ∙ net_step accounts nets c.requires.own i account net (omega arith) c.index-accounts-place.is c.index-nets-place.is a s)
          _ _ _ c.loop-place.invariant.added c.add_to.ensures.added;
      grown = grown_on (i * greatest_credit) greatest_credit ((i + 1) * greatest_credit) (omega arith) _ _ _ c.loop-place.invariant.grown
          (c.add_to.ensures.grown greatest_credit c.amounts_of_net.ensures.small);
    }

pub returns-clause-added : goal.returns-clause-added
returns-clause-added c =
    let accounts = c.args.accounts.now in
    let nets = c.args.nets.now in
    let long = length-beside accounts nets c.requires.own in
    subst (λ entries. AreChanged accounts (with_nets entries) c.args.sums.now c.loop-place.sums)
    (take_all c.loop-place.place (zip accounts nets) (rw long c.loop-place-test.false)) c.loop-place.invariant.added

pub returns-clause-grown : goal.returns-clause-grown
returns-clause-grown c = λ most small.
    all_within (most + c.loop-place.place * greatest_credit) (most + length c.args.accounts.now * greatest_credit) c.loop-place.sums (omega arith)
    (c.loop-place.invariant.grown most small)
