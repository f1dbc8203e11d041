-- A Settlement Period: what it is settled from, out of what is registered and in force, and its settlement.
use Rattle.std.specs.Prelude.{ℕ, ℤ, pos, List, map, filter, filter_map, zip, Option, option_map, unwrap_or}
use Rattle.std.specs.FinMap.{find}
use Rattle.std.specs.List.{flat_map}
use Rattle.std.specs.Ordering.{eq_by_cmp, on, then_cmp}
use Rattle.std.specs.declared.cmp.Ordering.{Ordering}
use Rattle.hh_rules.specs.Tables.{Table, in_key_order}
use Rattle.hh_rules.specs.account.Account.{Account}
use Rattle.hh_rules.specs.values.Reading.{Reading}
use Rattle.hh_rules.specs.Accounts.{account_cmp, bytes_cmp}
use Rattle.hh_rules.specs.PartyAccounts.{both_accounts}
use Rattle.hh_rules.specs.keys.ContractKey.{ContractKey}
use Rattle.hh_rules.specs.keys.UnitPeriod.{UnitPeriod}
use Rattle.hh_rules.specs.rows.ContractRow.{ContractRow}
use Rattle.hh_rules.specs.rows.UnitRegistration.{UnitRegistration}
use Rattle.hh_rules.specs.settlement_period.SettlementPeriod.{SettlementPeriod}
use Rattle.hh_rules.specs.DateRanges.{holds}
use Rattle.hh_rules.specs.Keys.{settlement_period_cmp, unit_period_cmp}
use Rattle.hh_rules.specs.History.{Registered}
use Rattle.hh_rules.specs.Leads.{lead_on}
use Rattle.hh_rules.specs.RegisterView.{reallocations_at}
use Rattle.hh_calc.specs.declared.data.Subsidiary.{Subsidiary}
use Rattle.hh_calc.specs.declared.result.AccountRow.{AccountRow}
use Rattle.hh_calc.specs.declared.result.CreditRow.{CreditRow}
use Rattle.hh_calc.specs.declared.result.Figures.{Figures}
use Rattle.hh_calc.specs.Formulas.{all_figures, credits_of, residual, residual_shares}
use Rattle.hh_calc.specs.Terms.{UnitDataView, PeriodDataView, Rows, Settled, unit_data, period_data, settled_period}

module _ (tables : Registered) where
  -- the accounts of a date: both accounts of each party whose range has the date, in their order
  abbrev pub accounts_on : ℕ → List Account
  accounts_on date = flat_map (λ e. both_accounts e.0) (filter (λ e. holds e.1.range date) tables.parties)

  -- the units whose range has a date, in the order of their ids
  abbrev pub units_on : ℕ → Table (List ℕ) UnitRegistration
  units_on date = filter (λ e. holds e.1.range date) tables.units

  -- the reading that counts for a unit in a Settlement Period
  abbrev pub reading_of : UnitPeriod → Option Reading
  reading_of key = find unit_period_cmp key tables.meters

  -- the price that counts for a Settlement Period
  abbrev pub price_of : SettlementPeriod → Option ℤ
  price_of at = find settlement_period_cmp at tables.prices

  -- the accounts to which a unit's energy is reallocated in a Settlement Period, each with its reallocation
  abbrev pub subsidiaries_of : UnitPeriod → List Subsidiary
  subsidiaries_of key = map (λ e. record { account = e.0.account; reallocation = e.1 }) (reallocations_at tables key)

  -- the row of a contract volume in force, with the seller and the buyer of its reference
  abbrev pub row_in_force : ContractKey × ℤ → Option ContractRow
  row_in_force e =
      option_map (λ c. record { key = e.0; contract = record { counterparties = c; volume = e.1 } })
      (find bytes_cmp e.0.reference tables.references)

  module _ (at : SettlementPeriod) where
    -- the rows of contracts that are in force in a Settlement Period, in the order of their references
    abbrev pub rows_in_force : List ContractRow
    rows_in_force = filter_map row_in_force (filter (λ e. eq_by_cmp settlement_period_cmp e.0.at at) tables.contracts)

    -- what a unit is settled from, with this reading
    abbrev pub unit_with : List ℕ × UnitRegistration → Reading → UnitDataView
    unit_with e reading =
        unit_data e.0 (lead_on tables e.0 e.1 at.date) e.1.interconnector reading (subsidiaries_of (record { unit = e.0; at = at }))

    -- what a unit is settled from, if it has a reading
    abbrev pub unit_at : List ℕ × UnitRegistration → Option UnitDataView
    unit_at e = option_map (unit_with e) (reading_of (record { unit = e.0; at = at }))

    -- What a Settlement Period is settled from. No run is made if a price or a reading is missing; here a missing price counts as 0,
    -- and a unit without a reading is left out.
    abbrev pub terms_at : PeriodDataView
    terms_at =
        period_data (accounts_on at.date) (filter_map unit_at (units_on at.date))
        (Rows (map (λ r. r.contract) rows_in_force)) (unwrap_or (price_of at) (pos 0))

-- an account's row, from its figures and its share of the residual
abbrev pub account_row : Figures → ℤ → AccountRow
account_row f share = record {
  account = f.account;
  credited = f.credited;
  balancing = f.balancing;
  contracts = f.contracts;
  imbalance = f.imbalance;
  charge = f.charge;
  share = share;
}

-- the rows of accounts with these figures and these shares
abbrev pub account_rows : List Figures → List ℤ → List AccountRow
account_rows figures shares = map (λ e. account_row e.0 e.1) (zip figures shares)

-- a unit, with an account that is credited from it
abbrev pub UnitAccount : Type 0
UnitAccount = List ℕ × Account

-- units with accounts, in the order of the units' bytes, then of the accounts
abbrev pub unit_account_cmp : UnitAccount → UnitAccount → Ordering
unit_account_cmp = then_cmp (on (λ k. k.0) bytes_cmp) (on (λ k. k.1) account_cmp)

-- credits by their units and accounts
abbrev pub keyed_credits : List CreditRow → List (UnitAccount × ℤ)
keyed_credits credits = map (λ c. ((c.unit, c.account), c.credited)) credits

-- credits in the order of their units' bytes, then of their accounts
abbrev pub in_credit_order : List CreditRow → List CreditRow
in_credit_order credits =
    map (λ e. record { unit = e.0.0; account = e.0.1; credited = e.1 }) (in_key_order unit_account_cmp (keyed_credits credits))

-- a period, settled: the accounts' rows, the credits in order, and the residual
abbrev pub settled : PeriodDataView → Settled
settled p =
    settled_period (account_rows (all_figures p) (residual_shares p)) (in_credit_order (credits_of p.units)) (residual p)
