use Rattle.std.proofs.Common.{refl, subst, sym}
use Rattle.std.specs.Prelude.{All}
use Rattle.hh_calc.specs.Ready.{AreAccountsInOrder, AreContractsReady, HasFewSubsidiaries, IsUnitListed}
use Rattle.hh_calc.proofs.ReadyLaws.{carried, failed}
use Rattle.hh_calc.proofs.data.PeriodData.is_ready.Goals as goal

pub returns-then-not-are_in_order : goal.returns-then-not-are_in_order
returns-then-not-are_in_order c = failed _ (λ (ordered, named, few). cc (c.if-not-are_in_order.ensures.1 (subst AreAccountsInOrder (sym c.accounts.ensures) ordered)))

pub returns-then-not-are_units_listed : goal.returns-then-not-are_units_listed
returns-then-not-are_units_listed c = failed _ (λ (ordered, named, few). cc (c.if-not-are_units_listed.ensures.1 (carried (λ accounts units. All (IsUnitListed accounts) units) _ _ _ _ (sym c.accounts-2.ensures) (sym c.units.ensures) named.0)))

pub returns-then-not-are_contracts_ready : goal.returns-then-not-are_contracts_ready
returns-then-not-are_contracts_ready c = failed _ (λ (ordered, named, few). cc (c.if-not-are_contracts_ready.ensures.1 (carried AreContractsReady _ _ _ _ (sym c.accounts-3.ensures) (sym c.contracts.ensures) named.1)))

pub returns : goal.returns
returns c =
    let ordered = subst AreAccountsInOrder c.accounts.ensures (c.if-not-are_in_order.ensures.0 refl) in
    let units = carried (λ accounts units. All (IsUnitListed accounts) units) _ _ _ _ c.accounts-2.ensures c.units.ensures (c.if-not-are_units_listed.ensures.0 refl) in
    let contracts = carried AreContractsReady _ _ _ _ c.accounts-3.ensures c.contracts.ensures (c.if-not-are_contracts_ready.ensures.0 refl) in
    let fewness = c.are_subsidiaries_few.ensures in (
      λ e. (ordered, (units, contracts), subst (All HasFewSubsidiaries) c.units-2.ensures (fewness.0 e)),
      λ (ordered, named, few). fewness.1 (subst (All HasFewSubsidiaries) (sym c.units-2.ensures) few),
    )
