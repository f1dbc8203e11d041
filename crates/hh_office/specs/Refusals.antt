-- How often a store has refused, as the office's answers show it.
use Rattle.std.specs.Prelude.{◌≡◌, ◌≤◌, ◌<◌, ℕ, List, Bool, true, false, MatchBool, Result, Ok, Err}
use Rattle.std.specs.List.{AllByRecursion}
use Rattle.hh_devices.specs.Devices.{most_failures}
use Rattle.hh_names.specs.declared.fault.Fault.{Fault}
use Rattle.hh_names.specs.declared.fault.Refusal.{Refusal}
use Rattle.hh_names.specs.declared.fault.Refusal.TheVariants.{Store}
use Rattle.hh_requests.specs.declared.reply.Reply.{Reply}
use Rattle.hh_requests.specs.declared.reply.Reply.TheVariants as reply
use Rattle.hh_store.specs.StoreFaults.{CountsOneMore}
use Rattle.hh_states.specs.States.{State}
use Rattle.hh_office.specs.Promises.{Represents}
use Rattle.hh_office.specs.Views.{Kept, OfficeView}
use Rattle.hh_office.specs.declared.report.ReportStop.{ReportStop}
use Rattle.hh_office.specs.declared.report.ReportStop.TheVariants as stop

-- the refusal of a request because the store refused, for another reason than memory
abbrev pub is_of_store : Refusal → Bool
is_of_store Store = true
is_of_store _ = false

-- a refusal for another reason than that of a store
abbrev pub IsElsewhere : Fault → Type 0
IsElsewhere fault = is_of_store fault.refusal ≡ false

-- an office represents some state that the machine reaches
abbrev pub RepresentsSome : OfficeView → Type 0
RepresentsSome office = (s : State) × Represents office s

-- the store of an office counts no fewer refusals after a call than before it, if the office represented some state that the machine
-- reaches
abbrev pub CountsUp : {T : Type 0} → (T → ℕ) → Kept T → Kept T → Type 0
CountsUp refusals old new = RepresentsSome old.seen → refusals old.tables ≤ refusals new.tables

-- a count rose; if it was at its greatest value, this says nothing
abbrev pub CountsMore : ℕ → ℕ → Type 0
CountsMore old new = old < most_failures → old < new

-- the store of an office counts more refusals than before
abbrev pub HasRefused : {T : Type 0} → (T → ℕ) → Kept T → Kept T → Type 0
HasRefused refusals old new = CountsMore (refusals old.tables) (refusals new.tables)

-- the store counts one refusal if a fault is that of the store, and otherwise none
abbrev pub CountsStoreFault : Fault → ℕ → ℕ → Type 0
CountsStoreFault fault old new = MatchBool (is_of_store fault.refusal) (CountsOneMore old new) (new ≡ old)

-- the same for a reply
abbrev pub CountsReply : Reply → ℕ → ℕ → Type 0
CountsReply (reply.Refused fault) old new = CountsStoreFault fault old new
CountsReply _ old new = new ≡ old

-- a reply is not the refusal of a store
abbrev pub IsNotOfStore : Reply → Type 0
IsNotOfStore (reply.Refused fault) = IsElsewhere fault
IsNotOfStore _ = Unit {0}

-- Over a list of replies the count did not fall. If it stayed the same, and was below its greatest value, none of them is a store's
-- refusal.
pub record CountsReplies (given : List Reply) (old new : ℕ) : Type 0 where
  pub up : old ≤ new
  pub stays : new ≡ old → old < most_failures → AllByRecursion IsNotOfStore given

-- the same for a report
abbrev pub CountsReportStop : {A : Type 0} → Result A ReportStop → ℕ → ℕ → Type 0
CountsReportStop (Ok x) old new = new ≡ old
CountsReportStop (Err (stop.Refused fault)) old new = CountsStoreFault fault old new
CountsReportStop (Err stop.Write) old new = new ≡ old
