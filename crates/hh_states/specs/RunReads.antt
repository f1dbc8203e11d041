-- What the reading calls answer about the runs of a state, from the tables that represent it.
use Rattle.std.specs.Prelude.{◌≡◌, ℕ, ℤ, List, map, Some}
use Rattle.std.specs.FinMap.{find}
use Rattle.std.specs.List.{AllByRecursion, flat_map}
use Rattle.hh_rules.specs.Totals.{total}
use Rattle.hh_rules.specs.Days.{Midnights}
use Rattle.hh_rules.specs.account.Account.{Account}
use Rattle.hh_rules.specs.settlement_period.SettlementPeriod.{SettlementPeriod}
use Rattle.hh_calc.specs.declared.result.AccountRow.{AccountRow}
use Rattle.hh_calc.specs.Settled.{moved_by_row}
use Rattle.hh_calc.specs.Terms.{Settled}
use Rattle.hh_runs.specs.DayNets.{day_net_of}
use Rattle.hh_runs.specs.declared.run_key.RunKey.{RunKey}
use Rattle.hh_states.specs.Content.{tables_of}
use Rattle.hh_states.specs.Reads.{postings_in, results_in, runs_in}
use Rattle.hh_states.specs.Runs.{Run, nets_of, run_key_cmp, settled_by}
use Rattle.hh_states.specs.States.{State}
use Rattle.hh_states.specs.Steps.{IsReached, kept_summary, kinds_on, timetable_at}
use Rattle.hh_states.specs.Sums.{moved_by_runs}

-- the summary that the tables of a state have under a key is the summary of that run
abbrev pub HoldsSummaries : Type 0
HoldsSummaries = (midnight : Midnights) (s : State) (key : RunKey)
    → find run_key_cmp key (tables_of midnight s).runs ≡ kept_summary midnight s key

-- the kinds of a date's runs in the tables of a reached state are those of its runs, in the order in which these were made
abbrev pub HoldsRuns : Type 0
HoldsRuns = (midnight : Midnights) (s : State) (date : ℕ) → IsReached midnight s
    → map (λ r. r.0) (runs_in (tables_of midnight s) date) ≡ kinds_on s date

-- the rows of accounts in settled periods, each with the number of its period
abbrev pub rows_by_period : List (SettlementPeriod × Settled) → List (ℕ × AccountRow)
rows_by_period day = flat_map (λ q. map (λ row. (q.0.period, row)) q.1.accounts) day

-- the rows of the accounts in a run of a state: those of the periods that it settles, by period, then by account
abbrev pub rows_in_run : Midnights → State → Run → List (ℕ × AccountRow)
rows_in_run midnight s run = rows_by_period (settled_by (timetable_at midnight s) s.history run)

-- the tables of a reached state have these rows for each run
abbrev pub HoldsResults : Type 0
HoldsResults = (midnight : Midnights) (s : State) → IsReached midnight s
    → AllByRecursion (λ r. results_in (tables_of midnight s) r.key ≡ rows_in_run midnight s r) s.runs

-- the postings to an account in the tables of a reached state sum to what the latest runs of all dates move to it
abbrev pub HoldsPostings : Type 0
HoldsPostings = (midnight : Midnights) (s : State) (a : Account) → IsReached midnight s
    → total (λ e. e.1) (postings_in (tables_of midnight s) a) ≡ moved_by_runs (timetable_at midnight s) s a

-- what an account pays by these rows: the charges and shares of its own rows
abbrev pub paid_in : Account → List (ℕ × AccountRow) → ℤ
paid_in a rows = total (λ e. moved_by_row a e.1) rows

-- the sum of what an account pays by the rows of a run in the tables of a reached state is its day net in the run
abbrev pub DayNetsFromResults : Type 0
DayNetsFromResults = (midnight : Midnights) (s : State) (a : Account) → IsReached midnight s
    → AllByRecursion (λ r.
    paid_in a (results_in (tables_of midnight s) r.key)
    ≡ day_net_of (nets_of (timetable_at midnight s) s.history (Some r)) a) s.runs
