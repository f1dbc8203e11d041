use Rattle.std.proofs.Common.{arith, ◌∙◌}
use Rattle.std.proofs.lemmas.List.{get_or_default}
use Rattle.hh_names.proofs.AccountLaws.{account_total}
use Rattle.hh_names.specs.Accounts.{account_cmp}
use Rattle.hh_calc.proofs.OrderLaws.{rises}
use Rattle.hh_calc.proofs.ReadyLaws.{failed, in_order, passed}
use Rattle.hh_calc.proofs.ready.are_in_order.Goals as goal

pub returns-then-not-is_before : goal.returns-then-not-is_before
returns-then-not-is_before c =
    let here = c.index-accounts-place.is in
    let there = c.index-accounts-place-in-loop-place.is ∙ get_or_default c.args.accounts.now c.loop-place.place _ c.index-accounts-place.result (omega arith) in
    failed _ (λ up. cc (c.if-not-is_before.ensures.1 ((λ i. account_cmp (here i) (there i)) ∙ rises account_cmp c.args.accounts.now up _ _ _ (omega arith) (omega arith))))

pub returns : goal.returns
returns c = passed _ (in_order account_total c.args.accounts.now (λ k d lt. c.loop-place.invariant k d (omega arith)))
