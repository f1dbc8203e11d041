use Rattle.std.proofs.Common.{◌≡◌, ◌<◌, rules, arith, length, refl, Bool, true, false}
use Rattle.std.specs.Prelude.{not}
use Rattle.std.specs.Cmp.{Equal-is}
use Rattle.hh_names.specs.Accounts.{account_cmp}
use Rattle.hh_names.proofs.AccountLaws.{exact_accounts}
use Rattle.hh_settled_periods.proofs.SameLaws.{mapped_more}
use Rattle.hh_settled_periods.proofs.same_since.are_accounts_of.Goals as goal

passes : (b : Bool) → false ≡ not b → b ≡ true
passes true h = refl
passes false h = cc

pub loop-place-preserved : goal.loop-place-preserved
loop-place-preserved c =
    let i = c.loop-place.place in
    let account = c.index-rows-place.result.1.account in
    let other = c.index-accounts-place.result in
    let inside : i < length c.args.accounts.now = search (rules, arith, c.if-rows-accounts.false) in
    mapped_more (λ e. e.1.account) c.args.rows.now c.args.accounts.now i c.index-rows-place.result other c.loop-place-test.true c.index-rows-place.is inside c.index-accounts-place.is
    (exact_accounts account other ((Equal-is (account_cmp account other)).0 (passes _ c.if-ne.ensures))) c.loop-place.invariant
