-- What the office writes for a file that it accepts, and what comes of it.
use Rattle.std.specs.Prelude.{◌≡◌, ℤ, length, IsTrue, Result, Ok, Err}
use Rattle.hh_time.specs.Days.{Midnights}
use Rattle.hh_names.specs.declared.fault.Fault.{Fault}
use Rattle.hh_names.specs.Words.{is_file_name}
use Rattle.hh_rules.specs.FileRows.{FileRowsView, coming_at, judged_file}
use Rattle.hh_requests.specs.declared.reply.Reply.{Reply}
use Rattle.hh_requests.specs.declared.request.Action.{Action}
use Rattle.hh_requests.specs.declared.request.Action.TheVariants as ask
use Rattle.hh_requests.specs.declared.request.Upload.{Upload}
use Rattle.hh_texts.specs.Files.{file_rows}
use Rattle.hh_states.specs.Changes.{LoadChangeView, load_change}
use Rattle.hh_states.specs.Content.{tables_of}
use Rattle.hh_states.specs.States.{State}
use Rattle.hh_states.specs.Steps.{CanLoad, Load, after_load, timetable_at}
use Rattle.hh_office.specs.Machine.{key_of, loaded_reply}
use Rattle.hh_office.specs.Transitions.{Transition}
use Rattle.hh_office.specs.Promises.{MakesTransition, Represents, UnlessFailed}
use Rattle.hh_office.specs.Views.{OfficeView, midnight_of}

-- if a file is sent, its name is in its grammar
abbrev pub NamesItsFile : Action → Type 0
NamesItsFile (ask.Load upload) = IsTrue (is_file_name upload.name)
NamesItsFile _ = Unit {0}

-- the judged rows of a new file in a state, or the first fault in them
abbrev pub judged_upload : Midnights → State → ℤ → Upload → Result FileRowsView Fault
judged_upload midnight s moment upload = elim (file_rows upload.kind upload.body) [
  | Err fault ↦ Err fault
  | Ok rows ↦ judged_file (timetable_at midnight s) s.history (coming_at moment rows)
]

-- an answer is this outcome, unless memory ran out or the store refused
abbrev pub Answers : Result FileRowsView Fault → Result FileRowsView Fault → Type 0
Answers (Ok judged) outcome = outcome ≡ Ok judged
Answers (Err fault) outcome = UnlessFailed fault (outcome ≡ Err fault)

-- a new file is judged as in each state that the office represents
abbrev pub Judges : OfficeView → ℤ → Upload → Result FileRowsView Fault → Type 0
Judges office moment upload result =
    (s : State) → Represents office s → Answers result (judged_upload (midnight_of office) s moment upload)

-- what is written for a file whose rows were judged
abbrev pub writes_of : Upload → FileRowsView → LoadChangeView
writes_of upload judged = record {
  key = key_of upload;
  file = record { body = upload.body; applied = length judged.rows; late = judged.late };
  rows = judged.rows;
  references = judged.references;
}

-- for each load for which the machine writes this, what is written makes the tables of the state after the load
abbrev pub WritesLoad : OfficeView → OfficeView → LoadChangeView → Type 0
WritesLoad old new writes =
    (s : State) (load : Load) → Represents old s → CanLoad (midnight_of old) s load → writes ≡ load_change (midnight_of old) s load
    → new ≡ record old { content = tables_of (midnight_of old) (after_load (midnight_of old) s load) }

-- what becomes of a load that is accepted in a state and has this reply
abbrev pub accepted : OfficeView → State → Load → LoadChangeView → Transition
accepted office s load writes = record { reply = loaded_reply writes.file; state = after_load (midnight_of office) s load }

-- for each load for which the machine writes this, what is written makes the load's transition
abbrev pub Accepts : OfficeView → OfficeView → LoadChangeView → Reply → Type 0
Accepts old new writes given =
    (s : State) (load : Load) → Represents old s → CanLoad (midnight_of old) s load → writes ≡ load_change (midnight_of old) s load
    → MakesTransition old new given (accepted old s load writes)
