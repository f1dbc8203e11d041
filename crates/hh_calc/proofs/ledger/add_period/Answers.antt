use Rattle.hh_calc.proofs.LedgerLaws.{contracts_after}
use Rattle.hh_calc.proofs.ledger.add_period.Goals as goal

pub add_units-requires-clause-listed : goal.add_units-requires-clause-listed
add_units-requires-clause-listed c = rw (c.accounts.ensures, c.units.ensures) c.requires.listed.0

pub add_net_contracts-requires-clause-ready : goal.add_net_contracts-requires-clause-ready
add_net_contracts-requires-clause-ready c = rw (c.accounts-2.ensures, c.contracts.ensures) c.requires.listed.1

pub returns-clause-sums : goal.returns-clause-sums
returns-clause-sums c =
    let p = c.args.period.now in
    contracts_after p c.add_units.new.sums c.add_net_contracts.new.sums (rw (c.accounts.ensures, c.units.ensures) at c.in_ok-add_units.ensures.sums)
    (rw (c.accounts-2.ensures, c.contracts.ensures) at c.add_net_contracts.ensures.added)
