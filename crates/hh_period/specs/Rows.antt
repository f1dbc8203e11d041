-- The period that the rows of two files and a price make.
use Rattle.std.specs.Prelude.{ℕ, ◌+◌, ℤ, List, [], ◌∷◌, ◌++◌, map, false, Option, Some, None, Result, Ok, Err}
use Rattle.std.specs.FinMap.{find}
use Rattle.std.specs.List.{flat_map}
use Rattle.hh_tables.specs.Tables.{table_of_last}
use Rattle.hh_names.specs.declared.account.Account.{Account}
use Rattle.hh_names.specs.declared.fault.Fault.{Fault}
use Rattle.hh_names.specs.declared.fault.Refusal.{Refusal}
use Rattle.hh_names.specs.declared.values.Contract.{Contract}
use Rattle.hh_names.specs.declared.values.Counterparties.{Counterparties}
use Rattle.hh_names.specs.Accounts.{account_cmp, bytes_cmp}
use Rattle.hh_names.specs.CounterpartyRule.{counterparty_refusals}
use Rattle.hh_names.specs.Faults.{first_met, row_fault}
use Rattle.hh_calc.specs.Terms.{UnitDataView, PeriodDataView, Rows}
use Rattle.hh_texts.specs.declared.period_contracts.PeriodContractRow.{PeriodContractRow}
use Rattle.hh_texts.specs.declared.period_meters.PeriodMeterRow.{PeriodMeterRow}

-- the BM Unit of a row; it is no interconnector, and has no subsidiaries
abbrev pub unit_data_of : PeriodMeterRow → UnitDataView
unit_data_of r = record { unit = r.unit; lead = r.lead; interconnector = false; reading = r.reading; subsidiaries = [] }

-- what a row puts under its unit
abbrev pub unit_data_entry : PeriodMeterRow → List ℕ × UnitDataView
unit_data_entry r = (r.unit, unit_data_of r)

-- what a row puts under its reference
abbrev pub period_contract_entry : PeriodContractRow → List ℕ × Contract
period_contract_entry r = (r.reference, r.contract)

-- the values in the order of their keys; the last row of each key counts
abbrev pub in_force : {V : Type 0} → List (List ℕ × V) → List V
in_force entries = map (λ e. e.1) (table_of_last bytes_cmp entries)

-- accounts, each once, in account order
abbrev pub in_account_order : List Account → List Account
in_account_order names = map (λ e. e.0) (table_of_last account_cmp (map (λ a. (a, a)) names))

-- the seller and the buyer of a row
abbrev pub seller_and_buyer : PeriodContractRow → List Account
seller_and_buyer r = r.contract.counterparties.seller ∷ r.contract.counterparties.buyer ∷ []

-- all accounts that rows name; rows that a later one replaces also count
abbrev pub named_accounts : List PeriodMeterRow → List PeriodContractRow → List Account
named_accounts meters contracts = map (λ r. r.lead) meters ++ flat_map seller_and_buyer contracts

-- the accounts of a period of these rows
abbrev pub period_accounts : List PeriodMeterRow → List PeriodContractRow → List Account
period_accounts meters contracts = in_account_order (named_accounts meters contracts)

-- the period of these rows and this price
abbrev pub period_of : List PeriodMeterRow → List PeriodContractRow → ℤ → PeriodDataView
period_of meters contracts price = record {
  accounts = period_accounts meters contracts;
  units = in_force (map unit_data_entry meters);
  contracts = Rows (in_force (map period_contract_entry contracts));
  price = price;
}

-- the counterparties that a row gives its reference
abbrev pub counterparties_entry : PeriodContractRow → List ℕ × Counterparties
counterparties_entry r = (r.reference, r.contract.counterparties)

-- why a row is refused among these rows; the first row of its reference decides the counterparties
abbrev pub refusal_among : List PeriodContractRow → PeriodContractRow → Option Refusal
refusal_among rows r = first_met (counterparty_refusals (find bytes_cmp r.reference (map counterparties_entry rows)) r.contract.counterparties)

-- a refusal of a row, or what comes later
abbrev pub refused_or : ℕ → Option Refusal → Option Fault → Option Fault
refused_or row None later = later
refused_or row (Some refusal) later = Some (row_fault refusal row)

-- the first refusal of rows that are numbered from this number on
abbrev pub first_refused : (PeriodContractRow → Option Refusal) → ℕ → List PeriodContractRow → Option Fault
first_refused refusal_of row [] = None
first_refused refusal_of row (r ∷ rows) = refused_or row (refusal_of r) (first_refused refusal_of (row + 1) rows)

-- the first refusal of all rows, with the number of its row
abbrev pub first_refusal : List PeriodContractRow → Option Fault
first_refusal rows = first_refused (refusal_among rows) 1 rows

-- rows, unless they have a refusal
abbrev pub accepted_or : List PeriodContractRow → Option Fault → Result (List PeriodContractRow) Fault
accepted_or rows None = Ok rows
accepted_or rows (Some fault) = Err fault

-- rows, unless one of them is refused
abbrev pub accepted_rows : List PeriodContractRow → Result (List PeriodContractRow) Fault
accepted_rows rows = accepted_or rows (first_refusal rows)
