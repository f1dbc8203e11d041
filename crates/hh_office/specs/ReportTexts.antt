-- The reports of a state of the machine. The tables that represent the state give the same reports.
use Rattle.std.specs.Prelude.{◌≡◌, ℕ, List, map, find, Option, option_map}
use Rattle.std.specs.Ordering.{eq_by_cmp}
use Rattle.hh_time.specs.Days.{Midnights, period_count}
use Rattle.hh_runs.specs.declared.run_key.RunKey.{RunKey}
use Rattle.hh_store.specs.run.ReportedRun.{ReportedRun}
use Rattle.hh_store.specs.DayReport.{day_report_text}
use Rattle.hh_store.specs.Exports.{balances_text, results_text}
use Rattle.hh_states.specs.Content.{tables_of}
use Rattle.hh_states.specs.RunReads.{rows_in_run}
use Rattle.hh_states.specs.Runs.{Run, run_key_cmp}
use Rattle.hh_states.specs.States.{State}
use Rattle.hh_states.specs.Steps.{IsReached, registered_at, timetable_at}
use Rattle.hh_states.specs.Sums.{moved_by_runs}
use Rattle.hh_store.specs.Outputs.{balances_in, day_report_in, export_in}

-- a run as its reports show it
abbrev pub reported : Midnights → Run → ReportedRun
reported midnight run = record { date = run.key.date; kind = run.key.kind; periods = period_count midnight run.key.date }

module _ (midnight : Midnights) (s : State) where
  -- the run of a date and kind, if it exists
  abbrev pub run_at : RunKey → Option Run
  run_at key = find (λ r. eq_by_cmp run_key_cmp key r.key) s.runs

  -- the day report of a run, if the run exists
  abbrev pub day_report_of : RunKey → Option (List ℕ)
  day_report_of key = option_map (λ run. day_report_text (reported midnight run) (rows_in_run midnight s run)) (run_at key)

  -- the results of a run, if the run exists
  abbrev pub export_of : RunKey → Option (List ℕ)
  export_of key = option_map (λ run. results_text (reported midnight run) (rows_in_run midnight s run)) (run_at key)

  -- the balances of both accounts of every registered party: what the latest runs of all dates post to each
  abbrev pub balances_of : List ℕ
  balances_of = balances_text (map (λ e. e.0) (registered_at midnight s).parties) (moved_by_runs (timetable_at midnight s) s)

-- the reports that the tables of a reached state give are those of the state
abbrev pub HoldsReports : Type 0
HoldsReports = (midnight : Midnights) (s : State) → IsReached midnight s
    → ((key : RunKey) → day_report_in (tables_of midnight s) key ≡ day_report_of midnight s key)
    × ((key : RunKey) → export_in (tables_of midnight s) key ≡ export_of midnight s key)
    × (balances_in (tables_of midnight s) ≡ balances_of midnight s)
