-- What the settlement machine does with a file and with a run: when it accepts them, and the state after that.
use Rattle.std.specs.Prelude.{◌≡◌, ℕ, ℤ, List, [], ◌∷◌, ◌++◌, map, length, if◌then◌else◌, Option, Some, None, option_map, IsTrue}
use Rattle.std.specs.FinMap.{find}
use Rattle.std.specs.Option.{option_or}
use Rattle.hh_rules.specs.Days.{Midnights, is_over, period_count}
use Rattle.hh_rules.specs.fault.Fault.{Fault}
use Rattle.hh_rules.specs.fault.Refusal.{Refusal}
use Rattle.hh_rules.specs.fault.Refusal.TheVariants.{DayNotOver, MissingMeter, MissingPrice, TooLarge}
use Rattle.hh_rules.specs.Faults.{first_met, plain_fault}
use Rattle.hh_rules.specs.Words.{is_file_name}
use Rattle.hh_rules.specs.RowKinds.{IsFileOf}
use Rattle.hh_rules.specs.Values.{AreSettings}
use Rattle.hh_rules.specs.keys.UnitPeriod.{UnitPeriod}
use Rattle.hh_rules.specs.rows.Row.{Row}
use Rattle.hh_rules.specs.settings.Settings.{Settings}
use Rattle.hh_rules.specs.settlement_period.SettlementPeriod.{SettlementPeriod}
use Rattle.hh_rules.specs.FileRows.{coming_at, first_fault, late_count, timely_rows}
use Rattle.hh_rules.specs.History.{History, Registered, registered_in}
use Rattle.hh_rules.specs.Lateness.{Timetable}
use Rattle.hh_runs.specs.declared.run_kind.RunKind.{RunKind}
use Rattle.hh_runs.specs.declared.summary.Summary.{Summary}
use Rattle.hh_runs.specs.NextRun.{order_refusals}
use Rattle.hh_runs.specs.declared.run_key.RunKey.{RunKey}
use Rattle.hh_states.specs.declared.file_key.FileKey.{FileKey}
use Rattle.hh_states.specs.Content.{all_summaries}
use Rattle.hh_states.specs.DaySettlement.{missing_meter, missing_price, periods_on, too_large}
use Rattle.hh_states.specs.Runs.{Run, latest_run, run_key_cmp, runs_of_date, summary_after}
use Rattle.hh_states.specs.States.{KeptFileView, State, empty_state, file_key_cmp, office_timetable}

-- a file that comes at a moment: the kind and name under which it comes, its bytes, and the rows that are read from them
pub record Load : Type 0 where
  pub moment : ℤ
  pub key : FileKey
  pub body : List ℕ
  pub rows : List Row

-- the rows of a load, with the moment at which they come
abbrev pub rows_coming : Load → History
rows_coming load = coming_at load.moment load.rows

-- what is kept of a load that is accepted: its bytes, with the counts of its reply
abbrev pub kept_file : Timetable → Load → KeptFileView
kept_file timetable load =
    let rows : History = rows_coming load in
    record { body = load.body; applied = length (timely_rows timetable rows); late = late_count timetable rows }

-- the first value that exists
abbrev pub first_there : {X : Type 0} → List (Option X) → Option X
first_there [] = None
first_there (o ∷ os) = option_or o (first_there os)

-- a refusal of a Settlement Period
abbrev pub period_fault : Refusal → SettlementPeriod → Fault
period_fault why at = record (plain_fault why) { period = Some at.period }

-- a unit has no reading in a Settlement Period
abbrev pub missing_meter_fault : UnitPeriod → Fault
missing_meter_fault key = record (plain_fault MissingMeter) { unit = Some key.unit; period = Some key.at.period }

module _ (s : State) where
  -- the kinds of the runs of a date, in order
  abbrev pub kinds_on : ℕ → List RunKind
  kinds_on date = map (λ r. r.key.kind) (runs_of_date date s.runs)

  -- a run that is ordered in this state
  abbrev pub new_run : RunKey → Run
  new_run key = record { key = key; row_count = length s.history }

  -- the state after a run that is ordered in this one
  abbrev pub after_run : RunKey → State
  after_run key = record s { runs = s.runs ++ new_run key ∷ [] }

module _ (midnight : Midnights) (s : State) where
  -- the timetable of this state's office: local midnights, and when notifications close
  abbrev pub timetable_at : Timetable
  timetable_at = office_timetable midnight s.settings

  -- what is registered and in force in this state
  abbrev pub registered_at : Registered
  registered_at = registered_in timetable_at s.history

  -- the state after an accepted load: its rows are added at the end of the history, and the file is kept
  abbrev pub after_load : Load → State
  after_load load = record s {
    history = s.history ++ rows_coming load;
    files = s.files ++ (load.key, kept_file timetable_at load) ∷ [];
  }

  -- Why the Settlement Periods of a date cannot be settled at a moment, if they cannot: the day is not over, or a period lacks a price
  -- or a reading, or passes a limit. The first such period counts.
  abbrev pub settle_fault : ℤ → ℕ → Option Fault
  settle_fault moment date =
      let periods : List SettlementPeriod = periods_on date (period_count midnight date) in
      first_there (
      (if is_over midnight date moment then None else Some (plain_fault DayNotOver))
      ∷ option_map (period_fault MissingPrice) (missing_price registered_at periods)
      ∷ option_map missing_meter_fault (missing_meter registered_at periods)
      ∷ option_map (period_fault TooLarge) (too_large registered_at periods)
      ∷ [])

  -- why a new run is refused at a moment, if it is: the order of runs, or its date cannot be settled
  abbrev pub run_fault : ℤ → RunKey → Option Fault
  run_fault moment key =
      option_or (option_map plain_fault (first_met (order_refusals (kinds_on s key.date) key.kind))) (settle_fault moment key.date)

  -- the summary of a run that is ordered in this state
  abbrev pub new_summary : RunKey → Summary
  new_summary key = summary_after timetable_at s.history (latest_run key.date s.runs) (new_run s key)

  -- the summary of a run, if the run exists
  abbrev pub kept_summary : RunKey → Option Summary
  kept_summary key = find run_key_cmp key (all_summaries timetable_at s)

  -- the run does not exist, and is not refused at the moment
  abbrev pub CanRun : ℤ → RunKey → Type 0
  CanRun moment key = (kept_summary key ≡ None) × (run_fault moment key ≡ None)

-- no file of the load's kind and name has been accepted, its name is in its grammar, its bytes can be a file of its kind with its
-- rows, and each row is accepted
pub record CanLoad (midnight : Midnights) (s : State) (load : Load) : Type 0 where
  pub new : find file_key_cmp load.key s.files ≡ None
  pub named : IsTrue (is_file_name load.key.name)
  pub file : IsFileOf load.key.kind load.body load.rows
  pub accepted : first_fault (timetable_at midnight s) s.history 1 (rows_coming load) ≡ None

-- the states that the machine reaches: from one with settings in which nothing has been accepted, by accepted loads and by runs
pub data IsReached (midnight : Midnights) : State → Type 0 where
  at_first : (settings : Settings) → AreSettings settings → IsReached midnight (empty_state settings)
  by_load : (s : State) (load : Load) → IsReached midnight s → CanLoad midnight s load
      → IsReached midnight (after_load midnight s load)
  by_run : (s : State) (moment : ℤ) (key : RunKey) → IsReached midnight s → CanRun midnight s moment key
      → IsReached midnight (after_run s key)
