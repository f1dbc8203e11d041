-- What the office promises about a request and about lists of requests.
use Rattle.std.specs.Prelude.{◌≡◌, ℤ, List, map, filter, zip, length, Bool, true, false, not, ◌&&◌, is_none, IsTrue, IsFalse, MatchBool, if◌then◌else◌}
use Rattle.hh_names.specs.declared.fault.Fault.{Fault}
use Rattle.hh_names.specs.declared.fault.Refusal.{Refusal}
use Rattle.hh_names.specs.declared.fault.Refusal.TheVariants.{Memory, Store}
use Rattle.hh_requests.specs.declared.request.Action.{Action}
use Rattle.hh_requests.specs.declared.request.Action.TheVariants as ask
use Rattle.hh_requests.specs.declared.request.Request.{Request}
use Rattle.hh_requests.specs.declared.reply.Reply.{Reply}
use Rattle.hh_requests.specs.declared.reply.Reply.TheVariants as reply
use Rattle.hh_states.specs.Changes.{TablesRepresent}
use Rattle.hh_states.specs.Content.{tables_of}
use Rattle.hh_states.specs.States.{State}
use Rattle.hh_states.specs.Steps.{IsReached}
use Rattle.hh_day.specs.Headline.{Conserves}
use Rattle.hh_office.specs.Machine.{Timed, answer, next, replies_to, state_after, step}
use Rattle.hh_office.specs.Transitions.{Transition}
use Rattle.hh_office.specs.Views.{OfficeView, midnight_of}

-- memory ran out, or the store refused
abbrev pub is_failure : Refusal → Bool
is_failure Memory = true
is_failure Store = true
is_failure _ = false

-- a refusal of the whole request, which names no place
abbrev pub is_plain : Fault → Bool
is_plain fault = is_none fault.row && is_none fault.column && is_none fault.unit && is_none fault.period

-- the refusal of a request that was given up, because memory ran out or the store refused
abbrev pub gives_up : Fault → Bool
gives_up fault = is_failure fault.refusal && is_plain fault

-- `holds` is true for a refusal, unless it gives up
abbrev pub UnlessFailed : Fault → Type 0 → Type 0
UnlessFailed fault holds = MatchBool (gives_up fault) (Unit {0}) holds

-- the request was given up
abbrev pub is_given_up : Reply → Bool
is_given_up (reply.Refused fault) = gives_up fault
is_given_up _ = false

-- ---- one request

-- The reply, and the tables after it, are those of a transition. If the request was given up, nothing changed.
abbrev pub MakesTransition : OfficeView → OfficeView → Reply → Transition → Type 0
MakesTransition old new given transition = MatchBool (is_given_up given) (new ≡ old)
    ((given ≡ transition.reply) × (new ≡ record old { content = tables_of (midnight_of old) transition.state }))

-- an office represents a state if its tables do
abbrev pub Represents : OfficeView → State → Type 0
Represents office s = TablesRepresent (midnight_of office) office.content s

-- the office represents a state now, in the same zone as before
abbrev pub RepresentsNow : OfficeView → OfficeView → State → Type 0
RepresentsNow old new t = Represents new t × (new.zone ≡ old.zone)

-- the office does with a request what the machine does with it, in each state that the office represents
abbrev pub HandleStep : OfficeView → OfficeView → ℤ → Request → Reply → Type 0
HandleStep old new moment request given =
    (s : State) → Represents old s → MakesTransition old new given (step (midnight_of old) s moment request)

-- after a request the office represents the machine's state after it, or the same state as before if the request was given up
abbrev pub RepresentsAfter : OfficeView → OfficeView → ℤ → Request → Reply → Type 0
RepresentsAfter old new moment request given =
    (s : State) → Represents old s → Represents new (if is_given_up given then s else next (midnight_of old) s moment request)

-- after a request the tables add up: contracts, charges with shares, credits and postings, in the state after it
abbrev pub ConservesAfter : OfficeView → OfficeView → ℤ → Request → Reply → Type 0
ConservesAfter old new moment request given =
    (s : State) → Represents old s
    → Conserves (midnight_of old) (if is_given_up given then s else next (midnight_of old) s moment request) new.content

-- a reply that refuses
abbrev pub is_refused : Reply → Bool
is_refused (reply.Refused fault) = true
is_refused _ = false

-- a refusal changes nothing
abbrev pub RefusalLeaves : OfficeView → OfficeView → Reply → Type 0
RefusalLeaves old new given = IsTrue (is_refused given) → new ≡ old

-- ---- lists of requests

-- the requests that were not given up, each with its reply
abbrev pub served : List Timed → List Reply → List (Timed × Reply)
served requests replies = filter (λ r. not (is_given_up r.1)) (zip requests replies)

-- Tables and replies are the machine's. There is a reply to each request. Those that were not given up are answered as the machine does,
-- one after the other, and the tables at the end are the machine's after these.
pub record RunsAs (old new : OfficeView) (s : State) (requests : List Timed) (given : List Reply) : Type 0 where
  pub count : length given ≡ length requests
  pub replies : map (λ r. r.1) (served requests given) ≡ replies_to (midnight_of old) s (map (λ r. r.0) (served requests given))
  pub tables : new ≡ record old { content = tables_of (midnight_of old) (state_after (midnight_of old) s (map (λ r. r.0) (served requests given))) }

-- the office does with a list of requests what the machine does with them, from each state that the office represents
abbrev pub RunAllStep : OfficeView → OfficeView → List Timed → List Reply → Type 0
RunAllStep old new requests replies = (s : State) → Represents old s → RunsAs old new s requests replies

-- after a list of requests the office represents the machine's state after those that were not given up
abbrev pub RepresentsAfterAll : OfficeView → OfficeView → List Timed → List Reply → Type 0
RepresentsAfterAll old new requests given =
    (s : State) → Represents old s
    → Represents new (state_after (midnight_of old) s (map (λ r. r.0) (served requests given)))

-- after a list of requests the tables add up, in the machine's state after those that were not given up
abbrev pub ConservesAfterAll : OfficeView → OfficeView → List Timed → List Reply → Type 0
ConservesAfterAll old new requests given =
    (s : State) → Represents old s
    → Conserves (midnight_of old) (state_after (midnight_of old) s (map (λ r. r.0) (served requests given))) new.content

-- ---- repeats

-- whether a file is sent or a run is ordered
abbrev pub is_change : Action → Bool
is_change (ask.Load upload) = true
is_change (ask.Run key) = true
is_change _ = false

-- A file that was accepted in some state, or a run that was made, comes again after any requests. It gets the same reply, unless it is
-- given up, and nothing changes.
abbrev pub RepeatsOnce : OfficeView → OfficeView → Request → Reply → Type 0
RepeatsOnce old new request given =
    (s : State) (earlier : ℤ) (between : List Timed) → IsReached (midnight_of old) s
    → IsTrue (is_change request.action) → IsFalse (is_refused (answer (midnight_of old) s earlier request))
    → Represents old (state_after (midnight_of old) (next (midnight_of old) s earlier request) between)
    → MatchBool (is_given_up given) (Unit {0}) (given ≡ answer (midnight_of old) s earlier request) × (new ≡ old)

-- ---- within the office
