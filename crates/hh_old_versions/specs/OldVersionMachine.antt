-- The settlement machine by a rule of rows, and that it goes on from each state of version 1.
use Rattle.std.specs.Prelude.{◌≡◌, nat_lt, ℤ, length, Bool, false, if◌then◌else◌, Option, Some, None, Ok, Err}
use Rattle.std.specs.FinMap.{find}
use Rattle.hh_time.specs.Days.{Midnights}
use Rattle.hh_names.specs.declared.fault.Refusal.TheVariants.{FileTooLarge, Forbidden}
use Rattle.hh_rows.specs.RowKinds.{most_bytes}
use Rattle.hh_rules.specs.FileRows.{coming_at}
use Rattle.hh_requests.specs.declared.request.Action.{Action}
use Rattle.hh_requests.specs.declared.request.Action.TheVariants as ask
use Rattle.hh_requests.specs.declared.request.Request.{Request}
use Rattle.hh_requests.specs.declared.request.Upload.{Upload}
use Rattle.hh_requests.specs.declared.reply.Reply.{Reply}
use Rattle.hh_requests.specs.declared.reply.Reply.TheVariants as reply
use Rattle.hh_texts.specs.Files.{file_rows}
use Rattle.hh_states.specs.States.{KeptFileView, State, file_key_cmp}
use Rattle.hh_states.specs.Steps.{IsReached, Load, after_load, kept_file, timetable_at}
use Rattle.hh_office.specs.Machine as machine
use Rattle.hh_office.specs.Machine.{act, key_of, load_read_as, loaded_reply, may, repeat_reply}
use Rattle.hh_office.specs.Transitions.{Transition, refused, refused_for, unchanged}
use Rattle.hh_successions.specs.RowRules.{RowRule}
use Rattle.hh_old_versions.specs.OldVersions.{is_lead_refusal, rule_of_version_one}
use Rattle.hh_old_versions.specs.OldVersionStates.{IsReachedBy, first_fault_by}

module _ (rule : RowRule) (midnight : Midnights) (s : State) where
  -- what becomes of a new file that reads as these rows: the first row that the rule refuses makes the file refused
  abbrev pub loaded_by : Load → Transition
  loaded_by load = elim (first_fault_by rule (timetable_at midnight s) s.history 1 (coming_at load.moment load.rows)) [
    | Some fault ↦ refused s fault
    | None ↦ record { reply = loaded_reply (kept_file (timetable_at midnight s) load); state = after_load midnight s load }
  ]

  -- what becomes of a new file: all of it is read before its rows are judged
  abbrev pub load_new_by : ℤ → Upload → Transition
  load_new_by moment upload = elim (file_rows upload.kind upload.body) [
    | Err fault ↦ refused s fault
    | Ok rows ↦ loaded_by (load_read_as moment upload rows)
  ]

  -- what becomes of a file, given what is kept under its kind and name
  abbrev pub load_beside_by : Option KeptFileView → ℤ → Upload → Transition
  load_beside_by (Some file) moment upload = unchanged s (repeat_reply file upload.body)
  load_beside_by None moment upload = load_new_by moment upload

  -- what becomes of a file: first its length is checked, then whether it is kept already
  abbrev pub load_by : ℤ → Upload → Transition
  load_by moment upload = if nat_lt most_bytes (length upload.body) then refused_for s FileTooLarge
      else load_beside_by (find file_key_cmp (key_of upload) s.files) moment upload

  -- what becomes of an action that the key allows: only of a file does it depend on the rule
  abbrev pub act_by : ℤ → Action → Transition
  act_by moment (ask.Load upload) = load_by moment upload
  act_by moment action = act midnight s moment action

  -- what becomes of a request that comes at a moment
  abbrev pub step_by : ℤ → Request → Transition
  step_by moment request =
      if may midnight s request.key request.action then act_by moment request.action else refused_for s Forbidden

  -- the reply to a request
  abbrev pub answer_by : ℤ → Request → Reply
  answer_by moment request = (step_by moment request).reply

  -- the state after a request
  abbrev pub next_by : ℤ → Request → State
  next_by moment request = (step_by moment request).state

-- the request is refused with 39 or 40
abbrev pub is_lead_reply : Reply → Bool
is_lead_reply (reply.Refused fault) = is_lead_refusal fault.refusal
is_lead_reply _ = false

-- Each state that version 1 reaches is one that the office reaches. Each request that version 1 doesn't refuse with 39 or 40 has the same
-- answer of the office, and leaves the same state.
pub record GoesOnFromVersionOne (midnight : Midnights) (s : State) : Type 0 where
  pub reached : IsReached midnight s
  pub answer : (moment : ℤ) (request : Request) → is_lead_reply (answer_by rule_of_version_one midnight s moment request) ≡ false
      → machine.answer midnight s moment request ≡ answer_by rule_of_version_one midnight s moment request
  pub next : (moment : ℤ) (request : Request) → is_lead_reply (answer_by rule_of_version_one midnight s moment request) ≡ false
      → machine.next midnight s moment request ≡ next_by rule_of_version_one midnight s moment request

abbrev pub VersionOneGoesOn : Type 0
VersionOneGoesOn = (midnight : Midnights) (s : State) → IsReachedBy rule_of_version_one midnight s → GoesOnFromVersionOne midnight s
