-- A new run: the Settlement Periods of its date, settled, and what is written for it.
use Rattle.std.specs.Prelude.{◌≡◌, ℕ, ℤ, List, [], ◌∷◌, length, None, Some}
use Rattle.hh_num.specs.Totals.{total}
use Rattle.hh_time.specs.Days.{Midnights, period_count}
use Rattle.hh_names.specs.declared.account.Account.{Account}
use Rattle.hh_rows.specs.declared.settlement_period.SettlementPeriod.{SettlementPeriod}
use Rattle.hh_rules.specs.History.{Registered}
use Rattle.hh_calc.specs.declared.result.AccountRow.{AccountRow}
use Rattle.hh_calc.specs.Settled.{IsSettled}
use Rattle.hh_calc.specs.Terms.{PeriodDataView, Settled}
use Rattle.hh_runs.specs.declared.summary.Summary.{Summary}
use Rattle.hh_runs.specs.DayNets.{DayNets, day_net_of, differences}
use Rattle.hh_runs.specs.declared.run_key.RunKey.{RunKey}
use Rattle.hh_states.specs.Changes.{RunChangeView, run_change}
use Rattle.hh_states.specs.Content.{credit_entries, posting_entries, result_entries, tables_of}
use Rattle.hh_states.specs.DaySettlement.{periods_on, settled_day, too_large}
use Rattle.hh_states.specs.PeriodSettlement.{settled}
use Rattle.hh_states.specs.Readiness.{ArePeriodsConsistent, AreTermsConsistent}
use Rattle.hh_states.specs.Reads.{results_in}
use Rattle.hh_states.specs.RunReads.{paid_in, rows_by_period}
use Rattle.hh_states.specs.Runs.{latest_run}
use Rattle.hh_states.specs.States.{State}
use Rattle.hh_states.specs.Steps.{CanRun, IsReached, registered_at}
use Rattle.hh_store.specs.DayReads.{ArePeriodsOf}
use Rattle.hh_store.specs.declared.day_data.PeriodState.{PeriodState}
use Rattle.hh_day.specs.declared.settle.SettledDay.{SettledDay}
use Rattle.hh_day.specs.declared.settle.SettledDay.TheVariants.{Settled as all_settled, TooLarge}

-- the outcome of these Settlement Periods: the first that passes a limit of settlement, or otherwise the settlement of each
abbrev pub IsSettledDay : Registered → List SettlementPeriod → SettledDay → Type 0
IsSettledDay tables periods (TooLarge at) = too_large tables periods ≡ Some at
IsSettledDay tables periods (all_settled day) =
    (too_large tables periods ≡ None) × (day.items ≡ settled_day tables periods)

-- These Settlement Periods, with these states, have this outcome. It is the same for all that is registered and in force from which
-- the states were read, if what each period is settled from fits together.
abbrev pub SettlesDay : List SettlementPeriod → List PeriodState → SettledDay → Type 0
SettlesDay periods states outcome =
    (tables : Registered) → ArePeriodsOf tables periods states → ArePeriodsConsistent tables periods
    → IsSettledDay tables periods outcome

-- how many accounts a run settles, counted in its first Settlement Period
abbrev pub account_count : List (SettlementPeriod × Settled) → ℕ
account_count [] = 0
account_count (q ∷ day) = length q.1.accounts

-- the summary of a run, from the settlements of its periods and its postings
abbrev pub summary_of : List (SettlementPeriod × Settled) → DayNets → Summary
summary_of day postings = record {
  periods = length day;
  accounts = account_count day;
  residual = total (λ q. q.1.residual) day;
  postings = length postings;
}

-- what is written for a run with these settlements and these postings
abbrev pub writes_of_run : RunKey → List (SettlementPeriod × Settled) → DayNets → RunChangeView
writes_of_run run day postings = record {
  key = run;
  summary = summary_of day postings;
  results = result_entries run day;
  credits = credit_entries run day;
  postings = posting_entries run postings;
}

-- This is what is written for a run with these settlements, if the run of the date before it had these rows. It posts to each account
-- what the account pays by the new rows less what it paid by the old ones.
pub record IsWrittenFor (run : RunKey) (day : List (SettlementPeriod × Settled)) (former : List (ℕ × AccountRow))
    (writes : RunChangeView) : Type 0 where
  pub old : DayNets
  pub new : DayNets
  pub paid_before : (a : Account) → day_net_of old a ≡ paid_in a former
  pub paid_now : (a : Account) → day_net_of new a ≡ paid_in a (rows_by_period day)
  pub written : writes ≡ writes_of_run run day (differences old new)

-- the rows of the latest run of a date in the tables of a state, or none if the date has no run
abbrev pub former_rows : Midnights → State → ℕ → List (ℕ × AccountRow)
former_rows midnight s date = elim (latest_run date s.runs) [ None ↦ [] | Some run ↦ results_in (tables_of midnight s) run.key ]

-- the Settlement Periods of a date with their settlements, by what is registered and in force in a state
abbrev pub day_in : Midnights → State → ℕ → List (SettlementPeriod × Settled)
day_in midnight s date = settled_day (registered_at midnight s) (periods_on date (period_count midnight date))

-- a period has only one settlement, if what it is settled from fits together
abbrev pub SettledInOneWay : Type 0
SettledInOneWay = (p : PeriodDataView) (s : Settled) → AreTermsConsistent p → IsSettled p s → s ≡ settled p

-- In each state that the machine reaches, for each run that does not exist and is not refused there: what is written for a new run of
-- the settled periods of its date is what the machine writes for it.
abbrev pub WritesTheRun : Type 0
WritesTheRun = (midnight : Midnights) (s : State) (moment : ℤ) (key : RunKey) (writes : RunChangeView)
    → IsReached midnight s → CanRun midnight s moment key
    → IsWrittenFor key (day_in midnight s key.date) (former_rows midnight s key.date) writes
    → writes ≡ run_change midnight s key
