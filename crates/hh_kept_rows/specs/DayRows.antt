-- The rows of a Settlement Day out of all that is registered and in force: what a part must have of the whole so that the day is
-- settled from it as from the whole.
use Rattle.std.specs.Prelude.{◌≡◌, ℕ, ℤ, List, filter, All}
use Rattle.std.specs.FinMap.{find}
use Rattle.std.specs.Ordering.{eq_by_cmp}
use Rattle.hh_tables.specs.Tables.{Table}
use Rattle.hh_names.specs.declared.account.Account.{Account}
use Rattle.hh_names.specs.Accounts.{bytes_cmp}
use Rattle.hh_rows.specs.Keys.{settlement_period_cmp}
use Rattle.hh_rows.specs.declared.keys.ContractKey.{ContractKey}
use Rattle.hh_rows.specs.declared.rows.Row.{Row}
use Rattle.hh_rows.specs.declared.settlement_period.SettlementPeriod.{SettlementPeriod}
use Rattle.hh_rules.specs.History.{Registered}
use Rattle.hh_rules.specs.RegisterView.{RegisterView, ServesFor, reallocations_at}
use Rattle.hh_states.specs.PeriodSettlement.{price_of, reading_of, units_on}
use Rattle.hh_states.specs.Reads.{contracts_of}

-- the volumes in force in a Settlement Period
abbrev pub volumes_at : Registered → SettlementPeriod → Table ContractKey ℤ
volumes_at tables at = filter (λ e. eq_by_cmp settlement_period_cmp e.0.at at) tables.contracts

-- both have the same for a unit in a Settlement Period
pub record AgreesOnUnitAt (whole part : Registered) (unit : List ℕ) (at : SettlementPeriod) : Type 0 where
  pub reading : reading_of part (record { unit = unit; at = at }) ≡ reading_of whole (record { unit = unit; at = at })
  pub reallocations : reallocations_at part (record { unit = unit; at = at })
      ≡ reallocations_at whole (record { unit = unit; at = at })

-- the part has the whole's contracts of a date, with the sellers and buyers of their references
pub record HasContractsOn (date : ℕ) (whole part : Registered) : Type 0 where
  pub volumes : (at : SettlementPeriod) → at.date ≡ date → volumes_at part at ≡ volumes_at whole at
  pub references : All (λ e. e.0.at.date ≡ date
      → find bytes_cmp e.0.reference part.references ≡ find bytes_cmp e.0.reference whole.references) whole.contracts

-- the part has all parties and units of the whole with all their registrations, and for a date: its prices, its contracts, and the
-- readings and reallocations of the units that are effective on it
pub record HasRowsOn (date : ℕ) (whole part : Registered) : Type 0 where
  pub parties : part.parties ≡ whole.parties
  pub units : part.units ≡ whole.units
  pub leads : part.leads ≡ whole.leads
  pub prices : (at : SettlementPeriod) → at.date ≡ date → price_of part at ≡ price_of whole at
  pub of_units : (at : SettlementPeriod) → at.date ≡ date
      → All (λ u. AgreesOnUnitAt whole part u.0 at) (units_on whole date)
  pub contracts : HasContractsOn date whole part

-- a date has the same contracts from a part that has the contracts of the date as from all rows
abbrev pub ContractsByTheirRows : Type 0
ContractsByTheirRows = (date : ℕ) (whole part : Registered) → HasContractsOn date whole part
    → (account : Account) → contracts_of account date part ≡ contracts_of account date whole

-- a part of a part that serves for some rows serves for them
abbrev pub PartsOfParts : Type 0
PartsOfParts = (rows : List Row) (whole middle part : RegisterView) → ServesFor rows whole middle → ServesFor rows middle part
    → ServesFor rows whole part
