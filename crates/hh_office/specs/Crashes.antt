-- What a crash leaves of an office's tables, after what was asked of the office.
use Rattle.std.specs.Prelude.{◌≡◌, ◌⊎◌, ℤ, List, Bool, false, MatchBool, IsTrue, Result, Ok, Err}
use Rattle.std.specs.List.{AllByRecursion}
use Rattle.hh_time.specs.Days.{Midnights}
use Rattle.hh_requests.specs.declared.request.Request.{Request}
use Rattle.hh_requests.specs.declared.reply.Reply.{Reply}
use Rattle.hh_states.specs.Content.{Content, tables_of}
use Rattle.hh_states.specs.States.{State}
pub use Rattle.hh_store.specs.Crashes.{AddsNothing}
use Rattle.hh_office.specs.Machine.{Timed, next, state_after}
use Rattle.hh_office.specs.Promises.{MakesTransition, Represents, UnlessFailed, is_given_up}
use Rattle.hh_office.specs.Transitions.{Transition}
use Rattle.hh_office.specs.Views.{Kept, OfficeView, midnight_of}
use Rattle.hh_office.specs.declared.report.ReportStop.{ReportStop}
use Rattle.hh_office.specs.declared.report.ReportStop.TheVariants as stop

-- `holds` is true after a reply, unless the request was given up
abbrev pub IfReplied : Reply → Type 0 → Type 0
IfReplied given holds = MatchBool (is_given_up given) (Unit {0}) holds

-- the same after a report; nothing is said if its output failed
abbrev pub IfReported : {A : Type 0} → Result A ReportStop → Type 0 → Type 0
IfReported (Ok x) holds = holds
IfReported (Err (stop.Refused fault)) holds = UnlessFailed fault holds
IfReported (Err stop.Write) holds = Unit {0}

-- an office with this content in the place of its own
abbrev pub with_content : OfficeView → Content → OfficeView
with_content office content = record office { content = content }

-- With this content, the office would have made the machine's transition, with some reply, in each state that it represents.
pub record MadeInEachState (office : OfficeView) (transition : Midnights → State → Transition) (content : Content) : Type 0 where
  pub given : Reply
  pub answered : is_given_up given ≡ false
  pub makes : (s : State) → Represents office s → MakesTransition office (with_content office content) given (transition (midnight_of office) s)

-- For an office whose tables were open, if the disk has returned what was written.
module _ {T L : Type 0} (is_honest : T → Type 0) (is_open : T → Bool) (may_leave : T → L → Type 0) (holds : L → Content → Type 0) (old new : Kept T) where
  -- in each state that it represented, `Of` is true for whatever a crash leaves of its tables
  abbrev pub OfEachLeft : (State → L → Type 0) → Type 0
  OfEachLeft Of =
      is_honest new.tables → IsTrue (is_open old.tables) → (s : State) → Represents old.seen s
      → (left : L) → may_leave new.tables left → Of s left

  -- what is left contains the tables of this state
  abbrev pub HoldsTablesOf : L → State → Type 0
  HoldsTablesOf left s = holds left (tables_of (midnight_of old.seen) s)

  -- after a request, a crash leaves the tables before it or the machine's tables after it; if the request was not given up, it leaves the
  -- latter
  abbrev pub CrashStep : ℤ → Request → Reply → Type 0
  CrashStep moment request given = OfEachLeft (λ s left.
      MatchBool (is_given_up given) (holds left old.seen.content ⊎ HoldsTablesOf left (next (midnight_of old.seen) s moment request))
      (HoldsTablesOf left (next (midnight_of old.seen) s moment request)))

  -- after a list of requests, none of which was given up, a crash leaves the machine's tables after the last of them
  abbrev pub CrashAfterAll : List Timed → List Reply → Type 0
  CrashAfterAll requests given = AllByRecursion (λ reply. is_given_up reply ≡ false) given
      → OfEachLeft (λ s left. HoldsTablesOf left (state_after (midnight_of old.seen) s requests))
