-- What the tables of an office add up to after any requests.
use Rattle.std.specs.Prelude.{◌≡◌, ℕ, ℤ, List, map, pos}
use Rattle.std.specs.List.{AllByRecursion, flat_map}
use Rattle.hh_num.specs.Totals.{total}
use Rattle.hh_time.specs.Days.{Midnights}
use Rattle.hh_names.specs.declared.account.Account.{Account}
use Rattle.hh_rules.specs.History.{Registered}
use Rattle.hh_calc.specs.declared.result.AccountRow.{AccountRow}
use Rattle.hh_calc.specs.Settled.{paid_by}
use Rattle.hh_runs.specs.declared.run_key.RunKey.{RunKey}
use Rattle.hh_states.specs.Content.{Content, tables_of}
use Rattle.hh_states.specs.PeriodSettlement.{units_on}
use Rattle.hh_states.specs.Reads.{results_in}
use Rattle.hh_states.specs.RunReads.{paid_in}
use Rattle.hh_states.specs.Runs.{Run, accounts_of, periods_of, seen_by}
use Rattle.hh_states.specs.States.{State}
use Rattle.hh_states.specs.Steps.{IsReached, timetable_at}
use Rattle.hh_states.specs.Sums.{IsCreditedByReading, latest_runs, period_total, posted_by, posted_to}

-- what an account pays by its rows in the latest run of every date
abbrev pub paid_in_latest : Content → List Run → Account → ℤ
paid_in_latest content runs a = total (λ run. paid_in a (results_in content run.key)) (latest_runs runs)

-- the account of a row, with the number of the row's Settlement Period
abbrev pub account_in : ℕ × AccountRow → ℕ × Account
account_in row = (row.0, row.1.account)

-- the rows of a run, by Settlement Period, then by account: each period of its date has one row for each account that was effective
-- on the date when the run was ordered
abbrev pub SettlesEachAccount : Midnights → State → Content → Run → Type 0
SettlesEachAccount midnight s content run =
    let accounts : List Account = accounts_of (timetable_at midnight s) s.history run in
    map account_in (results_in content run.key)
    ≡ flat_map (λ at. map (λ a. (at.period, a)) accounts) (periods_of midnight run)

-- In each Settlement Period of a run's date, each unit that was registered for that date when the run was ordered is credited
-- exactly its loss-adjusted metered volume, by the reading that counted then.
abbrev pub CreditsExactly : Midnights → State → Content → Run → Type 0
CreditsExactly midnight s content run =
    let saw : Registered = seen_by (timetable_at midnight s) s.history run in
    AllByRecursion (λ at. AllByRecursion (λ unit. IsCreditedByReading saw content.credits run.key at unit.0) (units_on saw at.date))
    (periods_of midnight run)

-- What the tables of a state add up to. Each run has a row for each account in each of its Settlement Periods. In each of them contracts
-- sum to zero, and so do charges and shares together. The credits from each unit sum exactly to its loss-adjusted metered volume. The postings to each account sum to what it
-- pays in the latest run of every date. The postings of each run sum to zero.
pub record Conserves (midnight : Midnights) (s : State) (content : Content) : Type 0 where
  pub accounts : AllByRecursion (SettlesEachAccount midnight s content) s.runs
  pub contracts : (run : RunKey) (period : ℕ) → period_total (λ r. r.contracts) period (results_in content run) ≡ pos 0
  pub cash : (run : RunKey) (period : ℕ) → period_total paid_by period (results_in content run) ≡ pos 0
  pub credits : AllByRecursion (CreditsExactly midnight s content) s.runs
  pub postings : (a : Account) → posted_to a content.postings ≡ paid_in_latest content s.runs a
  pub balanced : (run : RunKey) → posted_by run content.postings ≡ pos 0

-- this holds for the tables of each state that the machine reaches
abbrev pub ReachedConserve : Type 0
ReachedConserve = (midnight : Midnights) (s : State) → IsReached midnight s → Conserves midnight s (tables_of midnight s)
