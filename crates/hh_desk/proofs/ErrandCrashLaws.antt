-- What a crash leaves after a command, given what came of it at the desk.
use Rattle.std.proofs.Common.{◌≡◌, Bool, Result, Ok, Err, subst, sym}
use Rattle.std.specs.Prelude.{IsErrAnd}
use Rattle.hh_devices.specs.DeviceChanges.{DeviceChange}
use Rattle.hh_http_serve.specs.Crashes.{AddsNothing, IfReported}
use Rattle.hh_http_serve.specs.report.ReportStop.{ReportStop}
use Rattle.hh_http_serve.specs.report.ReportStop.TheVariants.{Refused, Write}
use Rattle.hh_desk.specs.declared.told.Told.{Told}
use Rattle.hh_desk.specs.ErrandCrashes.{EndsBy, IfWritten}
use Rattle.hh_desk.specs.Errands.{report_stop}
use Rattle.hh_desk.specs.declared.errand.ErrandStop.{ErrandStop}
use Rattle.hh_desk.specs.declared.errand.ErrandStop.TheVariants as stop
use Rattle.hh_desk.specs.steps.Telling.{TellsOutcome}

-- the command ends with what is told of its load or run
pub ends_by : (device : DeviceChange) (told : Told) (result : Result Unit ErrandStop) → TellsOutcome device told result → EndsBy told result
ends_by device told (Ok x) (text, is, went) = (text, is)
ends_by device told (Err stop.Output) (text, is, went) = (text, is)
ends_by device told (Err (stop.Refused fault)) (is, same) = is
ends_by device told (Err stop.Unreadable) (is, same) = is
ends_by device told (Err stop.NoSocket) (is, same) = is

-- what holds after a report that the office stopped holds after the command
stopped : (why : ReportStop) (P : Type 0) → IfReported {A = Unit {0}} (Err why) P → IfWritten (Err (report_stop why)) P
stopped (Refused fault) P holds = holds
stopped Write P holds = tt

pub if_written : (why : ReportStop) (result : Result Unit ErrandStop) (P : Type 0) → IsErrAnd result (λ s. s ≡ report_stop why) → IfReported {A = Unit {0}} (Err why) P → IfWritten result P
if_written why (Ok x) P none holds = absurd none
if_written why (Err s) P is holds = subst (λ w. IfWritten (Err w) P) (sym is) (stopped why P holds)

-- a call that adds nothing still adds nothing if less is known about its answer
pub nothing_as : {T L : Type 0} (H : T → Type 0) (O : T → Bool) (M : T → L → Type 0) (old new : T) (If As : Type 0 → Type 0) → ((P : Type 0) → If P → As P)
    → AddsNothing H O M old new If → AddsNothing H O M old new As
nothing_as H O M old new If As so adds honest = let a = adds honest in (a.0, λ stood. let at = a.1 stood in (so _ at.0, at.1))
