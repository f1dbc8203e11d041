use Rattle.hh_period.proofs.NamedFacts.{counterparties_among, leads_among, subsidiaries_few}
use Rattle.hh_period.proofs.inputs.gather_period.Goals as goal

pub returns-clause-ordered : goal.returns-clause-ordered
returns-clause-ordered c = rw c.new.ensures c.in_ok-accounts.ensures.ordered

pub returns-clause-listed : goal.returns-clause-listed
returns-clause-listed c =
    rw (c.new.ensures, c.in_ok-accounts.ensures.accounts, c.in_ok-units.ensures, c.in_ok-contracts.ensures.contracts, c.deref-4.ensures.value, c.deref-3.ensures.value, c.deref-2.ensures.value, c.deref.ensures.value)
    (leads_among c.in_ok-meters.meters.items c.in_ok-rows.rows.items, counterparties_among c.in_ok-meters.meters.items c.in_ok-rows.rows.items)

pub returns-clause-few : goal.returns-clause-few
returns-clause-few c = rw (c.new.ensures, c.in_ok-units.ensures, c.deref-4.ensures.value) (subsidiaries_few c.in_ok-meters.meters.items)
