-- What becomes of the rows of a file: each is judged after those before it.
use Rattle.std.specs.Prelude.{ℕ, ◌+◌, ℤ, List, [], ◌∷◌, ◌++◌, map, filter, length, not, Bool, Option, Some, None, Result, Ok, Err, if◌then◌else◌}
use Rattle.std.specs.List.{cons_option}
use Rattle.jiff.specs.declared.tz.timezone.TimeZone.{TimeZone}
use Rattle.hh_names.specs.Faults.{faults, first_met, row_fault, IsOutcomeOrNoMemory}
use Rattle.hh_names.specs.declared.fault.Fault.{Fault}
use Rattle.hh_names.specs.declared.fault.Refusal.{Refusal}
use Rattle.hh_names.specs.declared.values.Counterparties.{Counterparties}
use Rattle.hh_rows.specs.declared.rows.Row.{Row}
use Rattle.hh_rules.specs.Effects.{fixes_reference}
use Rattle.hh_rules.specs.Entries.{reference_entry}
use Rattle.hh_rules.specs.History.{History, registered_in}
use Rattle.hh_rules.specs.Lateness.{Timetable, Accepted, accepted_at, is_in_time, timing_of}
use Rattle.hh_rules.specs.Refusals.{refusals_of, whole_standing}
use Rattle.hh_rules.specs.RegisterView.{RegisterView, ServesFor, timetable_of}

-- rows that come at one moment
abbrev pub coming_at : ℤ → List Row → History
coming_at moment rows = map (accepted_at moment) rows

-- a reference with its seller and buyer, if a row fixes them
abbrev pub fixed_by : Bool → Option (List ℕ × Counterparties) → Option (List ℕ × Counterparties)
fixed_by fixes entry = if fixes then entry else None

module _ (timetable : Timetable) where
  -- why a row is refused after a history, if it is
  abbrev pub refusal_after : History → Accepted → Option Refusal
  refusal_after history a =
      first_met (refusals_of (whole_standing (registered_in timetable history)) (timing_of timetable a) a.row)

  -- the fault of the first row that is refused after a history and the rows before it; rows are numbered from n on
  abbrev pub first_fault : History → ℕ → List Accepted → Option Fault
  first_fault history n [] = None
  first_fault history n (a ∷ rows) = elim (refusal_after history a) [
    | Some why ↦ Some (row_fault why n)
    | None ↦ first_fault (history ++ a ∷ []) (n + 1) rows
  ]

  -- the references that the rows fix after a history: each is fixed by its first row
  abbrev pub fixed_references : History → List Accepted → List (List ℕ × Counterparties)
  fixed_references history [] = []
  fixed_references history (a ∷ rows) =
      cons_option (fixed_by (fixes_reference (registered_in timetable history) a.row) (reference_entry a.row))
      (fixed_references (history ++ a ∷ []) rows)

  -- how many of the rows are late
  abbrev pub late_count : List Accepted → ℕ
  late_count rows = length (filter (λ a. not (is_in_time timetable a)) rows)

  -- the rows that are not late
  abbrev pub timely_rows : List Accepted → List Row
  timely_rows rows = map (λ a. a.row) (filter (is_in_time timetable) rows)

-- the rows of an accepted file that are not late, how many are late, and the references that they fix
pub record FileRowsView : Type 0 where
  pub rows : List Row
  pub late : ℕ
  pub references : List (List ℕ × Counterparties)

-- the outcome of an accepted file's rows after a history
abbrev pub file_outcome : Timetable → History → List Accepted → FileRowsView
file_outcome timetable history rows = record {
  rows = timely_rows timetable rows;
  late = late_count timetable rows;
  references = fixed_references timetable history rows;
}

-- that outcome, or the fault of the first row that is refused
abbrev pub judged_file : Timetable → History → List Accepted → Result FileRowsView Fault
judged_file timetable history rows = elim (first_fault timetable history 1 rows) [
  | Some fault ↦ Err fault
  | None ↦ Ok (file_outcome timetable history rows)
]

-- a register that has everything that a history put into it
abbrev pub register_of : Timetable → History → RegisterView
register_of timetable history =
    record { lead_minutes = timetable.lead_minutes; standing = whole_standing (registered_in timetable history) }

-- the register serves for the rows after this history
abbrev pub ServesAfterHistory : TimeZone → RegisterView → List Row → History → Type 0
ServesAfterHistory zone register rows history =
    ServesFor rows (register_of (timetable_of zone register) history) register

-- the answer to a file's rows is that of looking back over each history after which the register serves for the rows
abbrev pub JudgesFile : TimeZone → RegisterView → ℤ → List Row → Result FileRowsView Fault → Type 0
JudgesFile zone register moment rows answer =
    (history : History) → ServesAfterHistory zone register rows history
    → IsOutcomeOrNoMemory faults (λ file. file) answer (judged_file (timetable_of zone register) history (coming_at moment rows))
