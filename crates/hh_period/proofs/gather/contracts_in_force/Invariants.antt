use Rattle.std.proofs.Common.{◌≡◌, ◌+◌, drop, map, take}
use Rattle.hh_tables.specs.Tables.{table_of_last}
use Rattle.hh_names.specs.Accounts.{bytes_cmp}
use Rattle.hh_period.specs.Rows.{first_refusal, first_refused, period_contract_entry, refusal_among}
use Rattle.hh_period.proofs.ContractFacts.{KeepsCounterparties}
use Rattle.hh_period.proofs.gather.contracts_in_force.Given as goal

-- the table has the contracts of the rows so far, none of these is refused, and each reference has its first counterparties
abbrev pub invariant-loop-index : goal.invariant-loop-index
invariant-loop-index l = record {
  entries : l.contracts.entries ≡ table_of_last bytes_cmp (map period_contract_entry (take l.index l.rows));
  accepted : first_refused (refusal_among l.rows) (l.index + 1) (drop l.index l.rows) ≡ first_refusal l.rows;
  kept : KeepsCounterparties (take l.index l.rows) l.contracts.entries;
}
