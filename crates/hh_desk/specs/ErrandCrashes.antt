-- What a crash leaves of an office's tables after a command.
use Rattle.std.specs.Prelude.{◌≡◌, ℕ, List, Bool, Result, Ok, Err}
use Rattle.hh_states.specs.Content.{Content}
use Rattle.hh_http_serve.specs.Promises.{UnlessFailed}
use Rattle.hh_http_serve.specs.Views.{Kept}
use Rattle.hh_http_serve.specs.Crashes.{AddsNothing}
use Rattle.hh_host.specs.Views.{HostView}
use Rattle.hh_desk.specs.Crashes.{LoadLeaves, RunLeaves}
use Rattle.hh_desk.specs.declared.told.Told.{Told}
use Rattle.hh_desk.specs.Errands.{ErrandStep, Load, Report, Run, Serve, told_outcome}
use Rattle.hh_desk.specs.declared.errand.ErrandStop.{ErrandStop}
use Rattle.hh_desk.specs.declared.errand.ErrandStop.TheVariants as stop

-- A command ended with what came of its load or its run: with the line of what was done, which may not have been written whole, or with the
-- reason why nothing was done.
abbrev pub EndsBy : Told → Result Unit ErrandStop → Type 0
EndsBy told (Ok _) = (text : List ℕ) × (told_outcome told ≡ Ok text)
EndsBy told (Err stop.Output) = (text : List ℕ) × (told_outcome told ≡ Ok text)
EndsBy told (Err why) = told_outcome told ≡ Err why

-- this holds after a report, unless it was given up or its output failed
abbrev pub IfWritten : Result Unit ErrandStop → Type 0 → Type 0
IfWritten (Ok _) holds = holds
IfWritten (Err (stop.Refused fault)) holds = UnlessFailed fault holds
IfWritten (Err _) holds = Unit {0}

-- `old` is the office before the command, and `new` after it.
module _ {T L : Type 0} (is_honest : T → Type 0) (is_open : T → Bool) (may_leave : T → L → Type 0) (holds : L → Content → Type 0) (old new : Kept T) where
  -- a disk that is honest after the command was honest before it
  abbrev pub StayedHonest : Type 0
  StayedHonest = is_honest new.tables → is_honest old.tables

  -- A load or a run leaves what the office promises for it, and ends with what came of it. A report adds nothing to what a crash may leave.
  -- When connections are served, each keeps the promise for its request, and nothing is said about all of them together.
  abbrev pub ErrandLeaves : HostView → ErrandStep → Result Unit ErrandStop → Type 0
  ErrandLeaves host (Load load) result =
      StayedHonest × ((told : Told) × LoadLeaves is_honest is_open may_leave holds old new host load told × EndsBy told result)
  ErrandLeaves host (Run run) result =
      StayedHonest × ((told : Told) × RunLeaves is_honest is_open may_leave holds old new run told × EndsBy told result)
  ErrandLeaves host (Report asked) result = AddsNothing is_honest is_open may_leave old.tables new.tables (IfWritten result)
  ErrandLeaves host (Serve serve) result = Unit {0}
