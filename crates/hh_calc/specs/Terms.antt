-- What contracts see of a period's data and of its settlement.
use Rattle.std.specs.Prelude.{ℕ, ℤ, neg_ℤ, Bool, List}
use Rattle.hh_share.specs.Totals.{total}
use Rattle.hh_names.specs.declared.account.Account.{Account}
use Rattle.hh_names.specs.declared.values.Contract.{Contract}
use Rattle.hh_names.specs.declared.values.Reading.{Reading}
use Rattle.hh_calc.specs.declared.data.Contracts as given
use Rattle.hh_calc.specs.declared.data.Subsidiary.{Subsidiary}
use Rattle.hh_calc.specs.declared.result.AccountRow.{AccountRow}
use Rattle.hh_calc.specs.declared.result.CreditRow.{CreditRow}

-- a BM Unit in a period, with its reallocations
pub record UnitDataView : Type 0 where
  pub unit : List ℕ
  pub lead : Account
  pub interconnector : Bool
  pub reading : Reading
  pub subsidiaries : List Subsidiary

abbrev pub unit_data : List ℕ → Account → Bool → Reading → List Subsidiary → UnitDataView
unit_data unit lead interconnector reading subsidiaries =
    record { unit = unit; lead = lead; interconnector = interconnector; reading = reading; subsidiaries = subsidiaries }

-- the contracts of a period: the volumes in force, or in account order what each account sells less what it buys, in kWh
pub data ContractTerms : Type 0 where
  Rows : List Contract → ContractTerms
  Net : List ℤ → ContractTerms

-- the contracts as the code has them
abbrev pub contracts_given : given.Contracts → ContractTerms
contracts_given (given.TheVariants.Rows rows) = Rows rows.items
contracts_given (given.TheVariants.Net nets) = Net nets.items

-- all that a period is settled from
pub record PeriodDataView : Type 0 where
  pub accounts : List Account
  pub units : List UnitDataView
  pub contracts : ContractTerms
  pub price : ℤ

abbrev pub period_data : List Account → List UnitDataView → ContractTerms → ℤ → PeriodDataView
period_data accounts units contracts price = record { accounts = accounts; units = units; contracts = contracts; price = price }

-- a settled period
pub record Settled : Type 0 where
  pub accounts : List AccountRow
  pub credits : List CreditRow
  pub residual : ℤ

abbrev pub settled_period : List AccountRow → List CreditRow → ℤ → Settled
settled_period accounts credits residual = record { accounts = accounts; credits = credits; residual = residual }

-- the settled period of these rows: its residual is minus the sum of the charges
abbrev pub settled_as : List AccountRow → List CreditRow → Settled
settled_as rows credits = settled_period rows credits (neg_ℤ (total (λ r. r.charge) rows))
