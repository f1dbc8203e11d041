-- The sizes of the amounts and the counts of runs in the states that the machine reaches: they fit the types that keep them.
use Rattle.std.specs.Prelude.{ℕ, ◌*◌, ◌≤◌, unsigned_abs, List, Some, sum_by}
use Rattle.std.specs.List.{AllByRecursion}
use Rattle.hh_rules.specs.Quantities.{Measure, either_sign}
use Rattle.hh_rules.specs.Ranges.{IsBetween}
use Rattle.hh_rules.specs.Days.{Midnights}
use Rattle.hh_rules.specs.account.Account.{Account}
use Rattle.hh_rules.specs.Refusals.{most_parties}
use Rattle.hh_calc.specs.declared.result.AccountRow.{AccountRow}
use Rattle.hh_calc.specs.Limits.{greatest_cash}
use Rattle.hh_calc.specs.Settled.{moved_by_row}
use Rattle.hh_runs.specs.declared.summary.Summary.{Summary}
use Rattle.hh_runs.specs.DayNets.{day_cash, day_net_of}
use Rattle.hh_states.specs.Content.{runs_with_former, tables_of}
use Rattle.hh_states.specs.Reads.{results_in}
use Rattle.hh_states.specs.RunReads.{paid_in, rows_in_run}
use Rattle.hh_states.specs.Runs.{nets_of, summary_after}
use Rattle.hh_states.specs.States.{State}
use Rattle.hh_states.specs.Steps.{IsReached, timetable_at}
use Rattle.hh_states.specs.Sums.{moved_by_runs}

-- the most Settlement Periods that a date has
abbrev pub most_periods : ℕ
most_periods = 50

-- the most accounts that there can be: two of each party
abbrev pub most_accounts : ℕ
most_accounts = 2 * most_parties

-- the greatest turnover of an account in a run, in pence: a charge and a share in each Settlement Period
abbrev pub greatest_turnover : ℕ
greatest_turnover = most_periods * (2 * greatest_cash)

-- what an account moves over all dates: whole pence, at most 3.7 * 10^18 in size, since there are 36,159 dates from 2001 to 2099
abbrev pub balances : Measure
balances = either_sign 0 3_700_000_000_000_000_000

-- the turnover of an account by rows, each with the number of its Settlement Period: the sum of the sizes of what it pays
abbrev pub turnover_in : Account → List (ℕ × AccountRow) → ℕ
turnover_in a rows = sum_by (λ e. unsigned_abs (moved_by_row a e.1)) rows

-- in each state that the machine reaches, the turnover of each account in each run is at most the greatest
abbrev pub TurnoversWithin : Type 0
TurnoversWithin = (midnight : Midnights) (s : State) (a : Account) → IsReached midnight s
    → AllByRecursion (λ r. turnover_in a (rows_in_run midnight s r) ≤ greatest_turnover) s.runs

-- so the day net of each account in each run is at most 10^14 pence in size
abbrev pub DayNetsWithin : Type 0
DayNetsWithin = (midnight : Midnights) (s : State) (a : Account) → IsReached midnight s
    → AllByRecursion (λ r.
    IsBetween day_cash.least day_cash.most (day_net_of (nets_of (timetable_at midnight s) s.history (Some r)) a)) s.runs

-- and so is the sum of what each account pays by the rows of each run in the tables
abbrev pub PaidWithin : Type 0
PaidWithin = (midnight : Midnights) (s : State) (a : Account) → IsReached midnight s
    → AllByRecursion (λ r. IsBetween day_cash.least day_cash.most (paid_in a (results_in (tables_of midnight s) r.key))) s.runs

-- in each state that the machine reaches, what the latest runs of all dates move to each account is at most 3.7 * 10^18 in size
abbrev pub BalancesWithin : Type 0
BalancesWithin = (midnight : Midnights) (s : State) (a : Account) → IsReached midnight s
    → IsBetween balances.least balances.most (moved_by_runs (timetable_at midnight s) s a)

-- a summary has no more Settlement Periods, accounts and postings than there can be, and its residual is at most the sum of the
-- greatest residuals of so many periods
pub record IsSummaryWithin (summary : Summary) : Type 0 where
  pub periods : summary.periods ≤ most_periods
  pub accounts : summary.accounts ≤ most_accounts
  pub residual : unsigned_abs summary.residual ≤ most_periods * greatest_cash
  pub postings : summary.postings ≤ most_accounts

-- in each state that the machine reaches, this holds for the summary of each run
abbrev pub SummariesWithin : Type 0
SummariesWithin = (midnight : Midnights) (s : State) → IsReached midnight s
    → AllByRecursion (λ r. IsSummaryWithin (summary_after (timetable_at midnight s) s.history r.0 r.1)) (runs_with_former s)
