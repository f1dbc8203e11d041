use Rattle.std.proofs.Common.{◌≡◌, ◌↔◌, IsTrue, ap, subst, sym, ◌∙◌}
use Rattle.hh_calc.specs.Ready.{AreContractsReady}
use Rattle.hh_calc.specs.Terms.{contracts_given, Rows}
use Rattle.hh_calc.proofs.ready.are_contracts_ready.Goals as goal

pub returns-in-Rows : goal.returns-in-Rows
returns-in-Rows c =
    let seen : contracts_given c.args.contracts.now ≡ Rows c.deref.result.now = ap contracts_given c.in-Rows.is ∙ ap Rows (sym c.deref.ensures.value) in
    subst (λ t. IsTrue c.are_contracts_listed.result ↔ AreContractsReady c.args.accounts.now t) (sym seen) c.are_contracts_listed.ensures
