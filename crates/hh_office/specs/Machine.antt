-- The settlement machine: what it answers to a request, and the state after it.
use Rattle.std.specs.Prelude.{ℕ, nat_lt, ℤ, List, [], ◌∷◌, length, Bool, false, not, ◌||◌, if◌then◌else◌, Option, Some, None, Ok, Err}
use Rattle.std.specs.FinMap.{find}
use Rattle.std.specs.Str.{bytes_eq}
use Rattle.hh_time.specs.Days.{Midnights}
use Rattle.hh_names.specs.declared.account.Account.{Account}
use Rattle.hh_names.specs.declared.fault.Refusal.TheVariants.{FileChanged, FileTooLarge, Forbidden}
use Rattle.hh_names.specs.Accounts.{bytes_cmp}
use Rattle.hh_names.specs.Faults.{plain_fault}
use Rattle.hh_rows.specs.declared.rows.PartyRegistration.{PartyRegistration}
use Rattle.hh_rows.specs.declared.rows.Row.{Row}
use Rattle.hh_rules.specs.FileRows.{coming_at, first_fault}
use Rattle.hh_requests.specs.declared.request.Action.{Action}
use Rattle.hh_requests.specs.declared.request.Action.TheVariants as ask
use Rattle.hh_requests.specs.declared.request.Request.{Request}
use Rattle.hh_requests.specs.declared.request.Upload.{Upload}
use Rattle.hh_requests.specs.declared.reply.Reply.{Reply}
use Rattle.hh_requests.specs.declared.reply.Reply.TheVariants as reply
use Rattle.hh_texts.specs.Files.{file_rows}
use Rattle.hh_rows.specs.RowKinds.{most_bytes}
use Rattle.hh_states.specs.declared.file_key.FileKey.{FileKey}
use Rattle.hh_states.specs.Reads.{is_key_known_in}
use Rattle.hh_states.specs.States.{KeptFileView, State, file_key_cmp}
use Rattle.hh_states.specs.Steps.{Load, after_load, kept_file, registered_at, timetable_at}
use Rattle.hh_office.specs.Enquiries.{account_reply, balance_reply, contracts_reply, runs_reply}
use Rattle.hh_office.specs.Runs.{run}
use Rattle.hh_office.specs.Transitions.{Transition, refused, refused_for, unchanged}

-- a request with the moment at which it comes
abbrev pub Timed : Type 0
Timed = ℤ × Request

-- the reply to a file that is kept
abbrev pub loaded_reply : KeptFileView → Reply
loaded_reply file = reply.Loaded (record { applied = file.applied; late = file.late })

-- the reply to a file, if `file` of the same kind and name is kept: the same bytes get the reply that is kept
abbrev pub repeat_reply : KeptFileView → List ℕ → Reply
repeat_reply file body = if bytes_eq file.body body then loaded_reply file else reply.Refused (plain_fault FileChanged)

-- the kind and name under which a file is kept
abbrev pub key_of : Upload → FileKey
key_of upload = record { kind = upload.kind; name = upload.name }

-- a file that comes at a moment and reads as these rows
abbrev pub load_read_as : ℤ → Upload → List Row → Load
load_read_as moment upload rows = record { moment = moment; key = key_of upload; body = upload.body; rows = rows }

-- the registration is that of a party with this key, if there is a registration
abbrev pub is_key_of : List ℕ → Option PartyRegistration → Bool
is_key_of key None = false
is_key_of key (Some party) = bytes_eq party.key key

module _ (midnight : Midnights) (s : State) where
  -- whether a key is the operator's
  abbrev pub is_operator : List ℕ → Bool
  is_operator key = bytes_eq s.settings.operator_key key

  -- whether a key is that of an account's party
  abbrev pub is_holder : Account → List ℕ → Bool
  is_holder account key = is_key_of key (find bytes_cmp account.party (registered_at midnight s).parties)

  -- whether a key is that of a registered party
  abbrev pub is_party_key : List ℕ → Bool
  is_party_key key = is_key_known_in (registered_at midnight s) key

  -- whether a key is not the operator's, or is that of a registered party
  abbrev pub is_others : List ℕ → Bool
  is_others key = not (is_operator key) || is_party_key key

  -- who may ask for what: the operator for everything, and a party for what its own accounts have and for the runs of dates
  abbrev pub may : List ℕ → Action → Bool
  may key (ask.Load upload) = is_operator key
  may key (ask.Run run) = is_operator key
  may key (ask.Account account date) = is_operator key || is_holder account key
  may key (ask.Balance account) = is_operator key || is_holder account key
  may key (ask.Contracts account date) = is_operator key || is_holder account key
  may key (ask.Runs date) = is_operator key || is_party_key key

  -- what becomes of a new file that reads as these rows: the first row that is refused makes the file refused
  abbrev pub loaded : Load → Transition
  loaded load = elim (first_fault (timetable_at midnight s) s.history 1 (coming_at load.moment load.rows)) [
    | Some fault ↦ refused s fault
    | None ↦ record { reply = loaded_reply (kept_file (timetable_at midnight s) load); state = after_load midnight s load }
  ]

  -- what becomes of a new file: all of it is read before its rows are judged
  abbrev pub load_new : ℤ → Upload → Transition
  load_new moment upload = elim (file_rows upload.kind upload.body) [
    | Err fault ↦ refused s fault
    | Ok rows ↦ loaded (load_read_as moment upload rows)
  ]

  -- what becomes of a file, given what is kept under its kind and name
  abbrev pub load_beside : Option KeptFileView → ℤ → Upload → Transition
  load_beside (Some file) moment upload = unchanged s (repeat_reply file upload.body)
  load_beside None moment upload = load_new moment upload

  -- what becomes of a file: first its length is checked, then whether it is kept already
  abbrev pub load : ℤ → Upload → Transition
  load moment upload = if nat_lt most_bytes (length upload.body) then refused_for s FileTooLarge
      else load_beside (find file_key_cmp (key_of upload) s.files) moment upload

  -- what becomes of an action that the key allows
  abbrev pub act : ℤ → Action → Transition
  act moment (ask.Load upload) = load moment upload
  act moment (ask.Run key) = run midnight s moment key
  act moment (ask.Account account date) = unchanged s (account_reply midnight s account date)
  act moment (ask.Balance account) = unchanged s (balance_reply midnight s account)
  act moment (ask.Contracts account date) = unchanged s (contracts_reply midnight s account date)
  act moment (ask.Runs date) = unchanged s (runs_reply midnight s date)

  -- what becomes of a request that comes at a moment
  abbrev pub step : ℤ → Request → Transition
  step moment request = if may request.key request.action then act moment request.action else refused_for s Forbidden

  -- the reply to a request
  abbrev pub answer : ℤ → Request → Reply
  answer moment request = (step moment request).reply

  -- the state after a request
  abbrev pub next : ℤ → Request → State
  next moment request = (step moment request).state

-- the replies to requests, one after the other
abbrev pub replies_to : Midnights → State → List Timed → List Reply
replies_to midnight s [] = []
replies_to midnight s (t ∷ ts) = answer midnight s t.0 t.1 ∷ replies_to midnight (next midnight s t.0 t.1) ts

-- the state after requests, one after the other
abbrev pub state_after : Midnights → State → List Timed → State
state_after midnight s [] = s
state_after midnight s (t ∷ ts) = state_after midnight (next midnight s t.0 t.1) ts
