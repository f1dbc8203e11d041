use Rattle.std.proofs.Common.{refl, subst, sym}
use Rattle.hh_reports.specs.Writers.{HasAmounts}
use Rattle.hh_reports.proofs.NetLaws.{amounts_more, small_put}
use Rattle.hh_reports.proofs.sums.AccountSums.add.Goals as goal

pub invariant_of-self-2 : goal.invariant_of-self-2
invariant_of-self-2 c = rw c.in_ok-add_to.ensures.added (small_put c.self.inside.sums c.args.amount c.self.inside.given c.add_to.ensures.small c.self.invariant)

pub returns-clause-sums : goal.returns-clause-sums
returns-clause-sums c = λ amounts before.
    let seen = subst (λ s. HasAmounts s amounts) (sym c.self.view_is) before in
    amounts_more amounts c.args.amount _ _ c.in_ok-add_to.ensures.added refl seen
