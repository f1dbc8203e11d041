-- Runs: each settles a date by the rows that had been accepted when it was ordered, and posts the differences from the run of the
-- date before it.
use Rattle.std.specs.Prelude.{ℕ, ◌==◌, List, [], ◌∷◌, ◌++◌, filter, take, length, Option, Some, None}
use Rattle.std.specs.Ordering.{nat_cmp, on, then_cmp}
use Rattle.std.specs.declared.cmp.Ordering.{Ordering}
pub use Rattle.hh_rules.specs.Ends.{last_of}
use Rattle.hh_rules.specs.Totals.{total}
use Rattle.hh_rules.specs.Days.{Midnights, period_count}
use Rattle.hh_rules.specs.account.Account.{Account}
use Rattle.hh_rules.specs.settlement_period.SettlementPeriod.{SettlementPeriod}
use Rattle.hh_rules.specs.History.{History, Registered, registered_in}
use Rattle.hh_rules.specs.Lateness.{Timetable}
use Rattle.hh_calc.specs.Terms.{Settled}
use Rattle.hh_runs.specs.declared.summary.Summary.{Summary}
use Rattle.hh_runs.specs.DayNets.{DayNets, differences}
use Rattle.hh_runs.specs.RunKinds.{run_kind_cmp}
use Rattle.hh_runs.specs.declared.run_key.RunKey.{RunKey}
use Rattle.hh_states.specs.DaySettlement.{day_nets, periods_on, settled_day}
use Rattle.hh_states.specs.PeriodSettlement.{accounts_on}

-- runs in the order of their dates, then of their kinds
abbrev pub run_key_cmp : RunKey → RunKey → Ordering
run_key_cmp = then_cmp (on (λ k. k.date) nat_cmp) (on (λ k. k.kind) run_kind_cmp)

-- a run, with the number of rows that had been accepted when it was ordered
pub record Run : Type 0 where
  pub key : RunKey
  pub row_count : ℕ

-- the runs of a date, in the order in which they were made
abbrev pub runs_of_date : ℕ → List Run → List Run
runs_of_date date runs = filter (λ r. r.key.date == date) runs

-- the latest run of a date
abbrev pub latest_run : ℕ → List Run → Option Run
latest_run date runs = last_of (runs_of_date date runs)

-- each run of a list with the run of its date before it; other runs were made before those of the list
abbrev pub with_former : List Run → List Run → List (Option Run × Run)
with_former earlier [] = []
with_former earlier (run ∷ runs) = (latest_run run.key.date earlier, run) ∷ with_former (earlier ++ run ∷ []) runs

-- the Settlement Periods of a run's date
abbrev pub periods_of : Midnights → Run → List SettlementPeriod
periods_of midnight run = periods_on run.key.date (period_count midnight run.key.date)

module _ (timetable : Timetable) (history : History) where
  -- what was registered and in force when a run was ordered
  abbrev pub seen_by : Run → Registered
  seen_by run = registered_in timetable (take run.row_count history)

  -- the accounts that a run settles
  abbrev pub accounts_of : Run → List Account
  accounts_of run = accounts_on (seen_by run) run.key.date

  -- the Settlement Periods of a run's date with their settlements in the run
  abbrev pub settled_by : Run → List (SettlementPeriod × Settled)
  settled_by run = settled_day (seen_by run) (periods_of timetable.midnight run)

  -- the day net of each account in a run; a run that does not exist has none
  abbrev pub nets_of : Option Run → DayNets
  nets_of None = []
  nets_of (Some run) = day_nets (settled_by run) (accounts_of run)

  -- what a run posts to which accounts; the run of its date before it is given, if there was one
  abbrev pub postings_after : Option Run → Run → DayNets
  postings_after former run = differences (nets_of former) (nets_of (Some run))

  -- the summary of a run; the run of its date before it is given, if there was one
  abbrev pub summary_after : Option Run → Run → Summary
  summary_after former run = record {
    periods = period_count timetable.midnight run.key.date;
    accounts = length (accounts_of run);
    residual = total (λ q. q.1.residual) (settled_by run);
    postings = length (postings_after former run);
  }
