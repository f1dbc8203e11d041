-- What the writers of reports keep, and which text they have written after they were given some rows.
use Rattle.std.specs.Prelude.{◌≡◌, ℕ, ◌≤◌, ℤ, List, length, map, All, Result}
use Rattle.hh_devices.specs.DeviceChanges.{DeviceChange}
use Rattle.hh_tables.specs.Tables.{Table}
use Rattle.hh_names.specs.declared.account.Account.{Account}
use Rattle.hh_calc.specs.declared.result.AccountRow.{AccountRow}
use Rattle.hh_reports.specs.declared.run.ReportedRun.{ReportedRun}
use Rattle.hh_reports.specs.declared.fault.ReportFault.{ReportFault}
use Rattle.hh_reports.specs.Exports.{balances_text, results_text}
use Rattle.hh_reports.specs.DayReport.{charges_in, day_report_begun, last_period}
use Rattle.hh_reports.specs.Nets.{cash_moved, Amounts, sum_for, sums_of}
use Rattle.hh_reports.specs.Output.{IsPassed, Reaches}

-- rows, each with its Settlement Period, as they were given
abbrev pub Rows : Type 0
Rows = List (ℕ × AccountRow)

-- the sum of each account, and how many amounts were given
pub record SumsState : Type 0 where
  pub sums : Table Account ℤ
  pub given : ℕ

-- these amounts were given
pub record HasAmounts (state : SumsState) (amounts : Amounts) : Type 0 where
  pub sums : state.sums ≡ sums_of amounts
  pub given : state.given ≡ length amounts

-- the run of the results, and the bytes that are held back
pub record ResultsState : Type 0 where
  pub run : ReportedRun
  pub held : List ℕ

-- the sums of the postings, and the bytes that are held back
pub record BalancesState : Type 0 where
  pub sums : Table Account ℤ
  pub held : List ℕ

-- the run of the day report, the period of the last row and the sum of its charges, the nets, and the bytes that are held back
pub record DayState : Type 0 where
  pub run : ReportedRun
  pub period : ℕ
  pub charges : ℤ
  pub nets : SumsState
  pub held : List ℕ

-- What has changed in a sink since a report was begun.
module _ (device : DeviceChange) where
  -- the results of a run with these rows went out, except the bytes that are held back
  pub record HasResults (writer : ResultsState) (run : ReportedRun) (rows : Rows) : Type 0 where
    pub run_is : writer.run ≡ run
    pub sent : IsPassed device writer.held (results_text run rows)

  -- the same, or a call failed and a beginning of those results went out
  abbrev pub GivesResults : {A : Type 0} → ResultsState → ReportedRun → Rows → Result A ReportFault → Type 0
  GivesResults writer run rows result = Reaches device (λ _. HasResults writer run rows) (results_text run rows) result

  -- the balances of these parties by these amounts went out, except the bytes that are held back
  pub record HasBalances (writer : BalancesState) (amounts : Amounts) (parties : List (List ℕ)) : Type 0 where
    pub sums : writer.sums ≡ sums_of amounts
    pub sent : IsPassed device writer.held (balances_text parties (λ a. sum_for a amounts))

  -- the same, or a call failed and a beginning of those balances went out
  abbrev pub GivesBalances : {A : Type 0} → BalancesState → Amounts → List (List ℕ) → Result A ReportFault → Type 0
  GivesBalances writer amounts parties result = Reaches device (λ _. HasBalances writer amounts parties) (balances_text parties (λ a. sum_for a amounts)) result

  -- the day report of a run was given these rows, none of a later period than the last, and its text so far went out, except the bytes that are held back
  pub record HasDay (writer : DayState) (run : ReportedRun) (rows : Rows) : Type 0 where
    pub run_is : writer.run ≡ run
    pub period : writer.period ≡ last_period rows
    pub charges : writer.charges ≡ charges_in (last_period rows) rows
    pub nets : HasAmounts writer.nets (map cash_moved rows)
    pub in_order : All (λ e. (1 ≤ e.0) × (e.0 ≤ last_period rows)) rows
    pub sent : IsPassed device writer.held (day_report_begun run rows)

  -- the same, or a call failed and a beginning of that text went out
  abbrev pub GivesDay : {A : Type 0} → DayState → ReportedRun → Rows → Result A ReportFault → Type 0
  GivesDay writer run rows result = Reaches device (λ _. HasDay writer run rows) (day_report_begun run rows) result
