-- What a store keeps beside the tables of an office, so that a run settles again only what has changed: the contract position of
-- each account, and the Settlement Periods that have been touched since the latest run of their date. Also whether these agree with
-- the tables.
use Rattle.std.specs.Prelude.{ℕ, ◌==◌, ℤ, List, [], ◌∷◌, map, filter, filter_map, Bool, true, false, ◌&&◌, ◌||◌, is_some, Option, Some, None}
use Rattle.std.specs.Cmp.Lexicographic.{pointwise}
use Rattle.std.specs.FinMap.{find, is_sorted}
use Rattle.std.specs.List.{list_all}
use Rattle.std.specs.Ordering.{eq_by_cmp, int_eq}
use Rattle.std.specs.Str.{bytes_eq}
use Rattle.hh_rules.specs.Totals.{total}
use Rattle.hh_rules.specs.Tables.{Table}
use Rattle.hh_rules.specs.account.Account.{Account}
use Rattle.hh_rules.specs.Accounts.{is_same_account}
use Rattle.hh_rules.specs.Keys.{settlement_period_cmp}
use Rattle.hh_rules.specs.rows.ContractRow.{ContractRow}
use Rattle.hh_rules.specs.settlement_period.SettlementPeriod.{SettlementPeriod}
use Rattle.hh_rules.specs.History.{Registered}
use Rattle.hh_rules.specs.Positions.{position_key, position_key_cmp}
use Rattle.hh_rules.specs.declared.positions.Position.{Position}
use Rattle.hh_rules.specs.declared.positions.Position.TheVariants.{Known, Lost}
use Rattle.hh_rules.specs.declared.positions.PositionKey.{PositionKey}
use Rattle.hh_calc.specs.declared.result.AccountRow.{AccountRow}
use Rattle.hh_calc.specs.declared.result.CreditRow.{CreditRow}
use Rattle.hh_calc.specs.Formulas.{net_kwh_of}
use Rattle.hh_calc.specs.Limits.{is_within_limits}
use Rattle.hh_calc.specs.Terms.{PeriodDataView, Settled, settled_as}
use Rattle.hh_runs.specs.declared.run_key.RunKey.{RunKey}
use Rattle.hh_runs.specs.declared.summary.Summary.{Summary}
use Rattle.hh_states.specs.declared.run_keys.CreditKey.{CreditKey}
use Rattle.hh_states.specs.declared.run_keys.ResultKey.{ResultKey}
use Rattle.hh_states.specs.Content.{Content}
use Rattle.hh_states.specs.DaySettlement.{periods_on}
use Rattle.hh_states.specs.PeriodSettlement.{price_of, row_in_force, rows_in_force, settled, terms_at}
use Rattle.hh_states.specs.Runs.{last_of, run_key_cmp}

-- the positions of accounts, and the Settlement Periods that were touched
pub record Beside : Type 0 where
  pub positions : Table PositionKey Position
  pub touched : List SettlementPeriod

-- a Settlement Period is among these
abbrev pub is_among : List SettlementPeriod → SettlementPeriod → Bool
is_among [] at = false
is_among (p ∷ periods) at = eq_by_cmp settlement_period_cmp p at || is_among periods at

-- ---- equal rows

abbrev pub is_same_row : AccountRow → AccountRow → Bool
is_same_row r q =
    is_same_account r.account q.account && int_eq r.credited q.credited && int_eq r.balancing q.balancing && int_eq r.contracts q.contracts
    && int_eq r.imbalance q.imbalance && int_eq r.charge q.charge && int_eq r.share q.share

abbrev pub is_same_credit : CreditRow → CreditRow → Bool
is_same_credit c d = bytes_eq c.unit d.unit && is_same_account c.account d.account && int_eq c.credited d.credited

abbrev pub is_same_period : Settled → Settled → Bool
is_same_period s t =
    pointwise is_same_row s.accounts t.accounts && pointwise is_same_credit s.credits t.credits && int_eq s.residual t.residual

-- ---- a Settlement Period of a run, as the tables have it

-- the row is of this run and period
abbrev pub is_result_of : RunKey → ℕ → ResultKey × AccountRow → Bool
is_result_of run period e = eq_by_cmp run_key_cmp e.0.run run && (e.0.period == period)

-- the credit is of this run and period
abbrev pub is_credit_of : RunKey → ℕ → CreditKey × ℤ → Bool
is_credit_of run period e = eq_by_cmp run_key_cmp e.0.run run && (e.0.period == period)

-- a credit as a row
abbrev pub credit_row : CreditKey × ℤ → CreditRow
credit_row e = record { unit = e.0.unit; account = e.0.account; credited = e.1 }

module _ (content : Content) where
  -- the latest run of a date, with its summary
  abbrev pub latest_on : ℕ → Option (RunKey × Summary)
  latest_on date = last_of (filter (λ e. e.0.date == date) content.runs)

  -- a Settlement Period of a run
  abbrev pub period_of_run : RunKey → ℕ → Settled
  period_of_run run period =
      settled_as (map (λ e. e.1) (filter (is_result_of run period) content.results))
      (map credit_row (filter (is_credit_of run period) content.credits))

-- ---- agreeing with the tables

-- what a Settlement Period would be settled from if these were the accounts of its date
abbrev pub terms_for : List Account → Registered → SettlementPeriod → PeriodDataView
terms_for accounts tables at = record (terms_at tables at) { accounts = accounts }

-- settled now for the same accounts, a Settlement Period would be this; it has a price and passes no limit
abbrev pub is_still : Registered → SettlementPeriod → Settled → Bool
is_still tables at s =
    let terms : PeriodDataView = terms_for (map (λ r. r.account) s.accounts) tables at in
    is_some (price_of tables at) && is_within_limits terms && is_same_period (settled terms) s

-- what an account sells less what it buys in a Settlement Period, by the contracts in force, in kWh
abbrev pub net_position : Registered → PositionKey → ℤ
net_position tables key = total (λ r. net_kwh_of key.account r.contract) (rows_in_force tables key.at)

-- a position is the sum of the contracts in force, if it is known
abbrev pub is_right : Registered → PositionKey × Position → Bool
is_right tables (key, Known net) = int_eq net (net_position tables key)
is_right tables (key, Lost) = true

-- the seller and the buyer of a contract in force have positions
abbrev pub has_positions : Table PositionKey Position → ContractRow → Bool
has_positions positions row =
    is_some (find position_key_cmp (position_key row row.contract.counterparties.seller) positions)
    && is_some (find position_key_cmp (position_key row row.contract.counterparties.buyer) positions)

-- the positions are a table, each is right, and each account that a contract in force names has one
abbrev pub are_positions_right : Registered → Table PositionKey Position → Bool
are_positions_right tables positions =
    is_sorted position_key_cmp positions
    && (list_all (is_right tables) positions && list_all (has_positions positions) (filter_map (row_in_force tables) tables.contracts))

module _ (content : Content) (touched : List SettlementPeriod) where
  -- a Settlement Period of a run is accounted for: it was touched, or it is as it would be settled now
  abbrev pub is_accounted_for : RunKey → SettlementPeriod → Bool
  is_accounted_for run at = is_among touched at || is_still content.registered at (period_of_run content run at.period)

  -- a date is accounted for: if it has a run, each Settlement Period of its latest run is accounted for
  abbrev pub is_day_accounted_for : ℕ → Bool
  is_day_accounted_for date = elim (latest_on content date) [
    | None ↦ true
    | Some run ↦ list_all (is_accounted_for run.0) (periods_on date run.1.periods)
  ]

  -- each date that has a run is accounted for
  abbrev pub are_days_accounted_for : Bool
  are_days_accounted_for = list_all (λ e. is_day_accounted_for e.0.date) content.runs

-- what is kept beside the tables agrees with them
abbrev pub agrees : Content → Beside → Bool
agrees content beside = are_positions_right content.registered beside.positions && are_days_accounted_for content beside.touched
