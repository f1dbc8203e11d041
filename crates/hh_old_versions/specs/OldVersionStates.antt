-- The states that the settlement machine reaches by a rule of rows.
use Rattle.std.specs.Prelude.{◌≡◌, ℕ, ◌+◌, ℤ, List, [], ◌∷◌, ◌++◌, Option, Some, None, IsTrue}
use Rattle.std.specs.FinMap.{find}
use Rattle.hh_time.specs.Days.{Midnights}
use Rattle.hh_names.specs.declared.fault.Fault.{Fault}
use Rattle.hh_names.specs.Faults.{row_fault}
use Rattle.hh_names.specs.Words.{is_file_name}
use Rattle.hh_rows.specs.RowKinds.{IsFileOf}
use Rattle.hh_rows.specs.Values.{AreSettings}
use Rattle.hh_rows.specs.declared.settings.Settings.{Settings}
use Rattle.hh_rules.specs.History.{History}
use Rattle.hh_rules.specs.Lateness.{Timetable, Accepted}
use Rattle.hh_runs.specs.declared.run_key.RunKey.{RunKey}
use Rattle.hh_states.specs.States.{State, empty_state, file_key_cmp}
use Rattle.hh_states.specs.Steps.{CanRun, Load, after_load, after_run, rows_coming, timetable_at}
use Rattle.hh_successions.specs.RegistrationHistory.{refusal_by}
use Rattle.hh_successions.specs.RowRules.{RowRule}

module _ (rule : RowRule) where
  -- the fault of the first row that the rule refuses after a history and the rows before it; rows are numbered from n on
  abbrev pub first_fault_by : Timetable → History → ℕ → List Accepted → Option Fault
  first_fault_by timetable history n [] = None
  first_fault_by timetable history n (a ∷ rows) = elim (refusal_by rule timetable history a) [
    | Some why ↦ Some (row_fault why n)
    | None ↦ first_fault_by timetable (history ++ a ∷ []) (n + 1) rows
  ]

  -- no file of the load's kind and name has been accepted, its name is in its grammar, its bytes can be a file of its kind with its
  -- rows, and the rule refuses none of them
  pub record CanLoadBy (midnight : Midnights) (s : State) (load : Load) : Type 0 where
    pub new : find file_key_cmp load.key s.files ≡ None
    pub named : IsTrue (is_file_name load.key.name)
    pub file : IsFileOf load.key.kind load.body load.rows
    pub accepted : first_fault_by (timetable_at midnight s) s.history 1 (rows_coming load) ≡ None

  -- the states that the machine reaches: from one with settings in which nothing has been accepted, by accepted loads and by runs
  pub data IsReachedBy (midnight : Midnights) : State → Type 0 where
    at_first : (settings : Settings) → AreSettings settings → IsReachedBy midnight (empty_state settings)
    by_load : (s : State) (load : Load) → IsReachedBy midnight s → CanLoadBy midnight s load
        → IsReachedBy midnight (after_load midnight s load)
    by_run : (s : State) (moment : ℤ) (key : RunKey) → IsReachedBy midnight s → CanRun midnight s moment key
        → IsReachedBy midnight (after_run s key)
