-- What all Settlement Periods of a date have in common.
use Rattle.std.specs.Prelude.{◌≡◌, ℕ, ◌==◌, ℤ, List, map, filter_map, All, Option, None, if◌then◌else◌}
use Rattle.hh_rows.specs.declared.keys.ContractKey.{ContractKey}
use Rattle.hh_rows.specs.declared.rows.ContractRow.{ContractRow}
use Rattle.hh_rows.specs.declared.rows.UnitRegistration.{UnitRegistration}
use Rattle.hh_rules.specs.History.{Registered}
use Rattle.hh_rules.specs.Leads.{lead_on}
use Rattle.hh_states.specs.PeriodSettlement.{accounts_on, row_in_force, units_on}
use Rattle.hh_kept_rows.specs.declared.kept_day.DayRoll.{DayRoll}

-- the row in force of a contract, if it is of this date
abbrev pub row_on : Registered → ℕ → ContractKey × ℤ → Option ContractRow
row_on tables date e = if e.0.at.date == date then row_in_force tables e else None

-- a unit, with the account that leads it on a date in the place of its latest
abbrev pub led_on : Registered → ℕ → List ℕ × UnitRegistration → List ℕ × UnitRegistration
led_on tables date e = (e.0, record e.1 { lead = lead_on tables e.0 e.1 date })

-- the units of a date, as they are led on it
abbrev pub led_units_on : Registered → ℕ → List (List ℕ × UnitRegistration)
led_units_on tables date = map (led_on tables date) (units_on tables date)

-- units have the lead accounts of a date
abbrev pub AreLedOn : Registered → ℕ → List (List ℕ × UnitRegistration) → Type 0
AreLedOn tables date units = All (λ u. u.1.lead ≡ lead_on tables u.0 u.1 date) units

-- the accounts and the units of a date, as they are led on it, and the rows of contracts in force on it
pub record IsRollOf (tables : Registered) (date : ℕ) (roll : DayRoll) : Type 0 where
  pub accounts : roll.accounts.items ≡ accounts_on tables date
  pub units : roll.units.items ≡ led_units_on tables date
  pub contracts : roll.contracts.items ≡ filter_map (row_on tables date) tables.contracts

-- the same without the contracts
pub record IsHeadOf (tables : Registered) (date : ℕ) (roll : DayRoll) : Type 0 where
  pub accounts : roll.accounts.items ≡ accounts_on tables date
  pub units : roll.units.items ≡ led_units_on tables date
