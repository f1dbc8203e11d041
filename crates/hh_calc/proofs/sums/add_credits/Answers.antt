use Rattle.std.proofs.Common.{◌∙◌, ◌*◌, ◌+◌, [], ap, arith, length, take}
use Rattle.hh_calc.specs.steps.Ready.{IsCreditListed}
use Rattle.hh_calc.specs.steps.Sums.{greatest_credit, greatest_sum, with_amounts, with_credits}
use Rattle.hh_calc.proofs.SumLaws.{all_read, all_within, changed_on, credit_step, grown_on, no_credits, not_grown, unchanged}
use Rattle.hh_calc.proofs.sums.add_credits.Goals as goal

pub loop-credit-init : goal.loop-credit-init
loop-credit-init c = record {
  added = unchanged c.args.accounts.now (with_credits c.args.weighs []) (no_credits c.args.weighs) c.args.sums.now;
  grown = not_grown (0 * greatest_credit) c.args.sums.now;
}

pub add_to-requires-clause-listed : goal.add_to-requires-clause-listed
add_to-requires-clause-listed c = all_read (IsCreditListed c.args.accounts.now) c.args.credits.now c.loop-credit.credit-index _ c.requires.listed (omega arith) c.credit-item.is

pub add_to-requires-clause-room : goal.add_to-requires-clause-room
add_to-requires-clause-room c =
    all_within (greatest_sum + c.loop-credit.credit-index * greatest_credit) (2 * greatest_sum) c.loop-credit.sums (omega (arith, c.requires.few))
    (c.loop-credit.invariant.grown greatest_sum c.requires.room)

pub loop-credit-preserved : goal.loop-credit-preserved
loop-credit-preserved c =
    let accounts = c.args.accounts.now in
    let credits = c.args.credits.now in
    let credit = c.credit-item.result in
    let i = c.loop-credit.credit-index in
    record {
      added = changed_on accounts (with_credits c.args.weighs (take i credits)) (with_amounts credit.account c.amounts_of_credit.result) (with_credits c.args.weighs (take (i + 1) credits))
          (λ a s. ap (λ x. with_amounts credit.account x a (with_credits c.args.weighs (take i credits) a s)) c.amounts_of_credit.ensures.amounts
          ∙ credit_step c.args.weighs credits i credit (omega arith) c.credit-item.is a s)
          _ _ _ c.loop-credit.invariant.added c.add_to.ensures.added;
      grown = grown_on (i * greatest_credit) greatest_credit ((i + 1) * greatest_credit) (omega arith) _ _ _ c.loop-credit.invariant.grown
          (c.add_to.ensures.grown greatest_credit c.amounts_of_credit.ensures.small);
    }

pub returns-clause-grown : goal.returns-clause-grown
returns-clause-grown c = λ most small.
    all_within (most + c.loop-credit.credit-index * greatest_credit) (most + length c.args.credits.now * greatest_credit) c.loop-credit.sums (omega arith)
    (c.loop-credit.invariant.grown most small)
