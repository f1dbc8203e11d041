-- When what is written for a new run fits the types that keep it.
use Rattle.std.specs.Prelude.{ℕ, ◌^◌, ◌≤◌, ◌<◌, unsigned_abs, ℤ, List, sum_by, All}
use Rattle.hh_num.specs.Quantities.{amounts_of_cash}
use Rattle.hh_num.specs.Ranges.{IsBetween}
use Rattle.hh_time.specs.Days.{Midnights}
use Rattle.hh_names.specs.declared.account.Account.{Account}
use Rattle.hh_rows.specs.declared.settlement_period.SettlementPeriod.{SettlementPeriod}
use Rattle.hh_calc.specs.declared.result.AccountRow.{AccountRow}
use Rattle.hh_calc.specs.Ready.{IsReady}
use Rattle.hh_calc.specs.Settled.{moved_by_row}
use Rattle.hh_calc.specs.Terms.{Settled}
use Rattle.hh_runs.specs.declared.summary.Summary.{Summary}
use Rattle.hh_runs.specs.declared.run_key.RunKey.{RunKey}
use Rattle.hh_states.specs.Amounts.{greatest_turnover}
use Rattle.hh_states.specs.Changes.{RunChangeView}
use Rattle.hh_states.specs.RunReads.{rows_by_period}
use Rattle.hh_states.specs.States.{State}
use Rattle.hh_states.specs.Steps.{CanRun, IsReached, registered_at}
use Rattle.hh_store.specs.DayReads.{ArePeriodsOf}
use Rattle.hh_store.specs.declared.day_data.PeriodState.{PeriodState}
use Rattle.hh_store.specs.declared.day_data.PeriodState.TheVariants.{Changed, Same}
use Rattle.hh_day.specs.NewRuns.{IsWrittenFor, day_in, former_rows}

-- the turnover of each account by these rows, under any keys, is at most the greatest of a run; so is the sum of any of these rows
abbrev pub AreTurnoversSmall : {K : Type 0} → List (K × AccountRow) → Type 0
AreTurnoversSmall rows = (a : Account) → sum_by (λ e. unsigned_abs (moved_by_row a e.1)) rows ≤ greatest_turnover

-- a summary's counts and its residual fit its fields
pub record FitsFields (summary : Summary) : Type 0 where
  pub periods : summary.periods < 2 ^ 8
  pub accounts : summary.accounts < 2 ^ 16
  pub residual : IsBetween amounts_of_cash.least amounts_of_cash.most summary.residual
  pub postings : summary.postings < 2 ^ 16

-- What is written for a run with these settlements fits, if the run of the date before it had these rows: the turnovers of accounts
-- are small by the old rows and by the new ones, and the summary fits its fields.
pub record FitsRun (run : RunKey) (day : List (SettlementPeriod × Settled)) (former : List (ℕ × AccountRow)) : Type 0 where
  pub before : AreTurnoversSmall former
  pub now : AreTurnoversSmall (rows_by_period day)
  pub summary : (writes : RunChangeView) → IsWrittenFor run day former writes → FitsFields writes.summary

-- what a Settlement Period is settled from may be settled; a settled period may be taken over as it was settled
abbrev pub MayBeSettled : PeriodState → Type 0
MayBeSettled (Changed terms) = IsReady terms
MayBeSettled (Same s) = Unit {0}

-- in each state that the machine reaches, what each Settlement Period is settled from may be settled
abbrev pub TermsReady : Type 0
TermsReady = (midnight : Midnights) (s : State) (periods : List SettlementPeriod) (states : List PeriodState) → IsReached midnight s
    → ArePeriodsOf (registered_at midnight s) periods states → All MayBeSettled states

-- and what is written for each run that does not exist and is not refused there fits
abbrev pub RunsFit : Type 0
RunsFit = (midnight : Midnights) (s : State) (moment : ℤ) (key : RunKey) → IsReached midnight s → CanRun midnight s moment key
    → FitsRun key (day_in midnight s key.date) (former_rows midnight s key.date)
