-- How a command ends, given what came of it at the desk and what was written.
use Rattle.std.proofs.Common.{◌≡◌, ℕ, ℤ, List, [], refl, sym, ap, subst, Option, Some, None, Result, Ok, Err}
use Rattle.std.specs.Prelude.{IsErrAnd}
use Rattle.hh_devices.specs.DeviceChanges.{DeviceChange}
use Rattle.hh_devices.specs.Devices.{AppendsFront}
use Rattle.hh_states.specs.States.{State}
use Rattle.hh_http_serve.specs.Promises.{Represents, RepresentsNow}
use Rattle.hh_http_serve.specs.Views.{OfficeView}
use Rattle.hh_sockets.specs.Ports.{IsPortFor}
use Rattle.hh_host.specs.Views.{HostView}
use Rattle.hh_script.specs.Reports.{ReportStep}
use Rattle.hh_script.specs.Steps.{LoadStep, RunStep}
use Rattle.hh_desk.specs.declared.told.Told.{Told}
use Rattle.hh_desk.specs.Doing.{OrdersRun, RunsLoad}
use Rattle.hh_desk.specs.Lines.{listening_line}
use Rattle.hh_desk.specs.declared.errand.ErrandStop.{ErrandStop}
use Rattle.hh_desk.specs.declared.errand.ErrandStop.TheVariants as stop
use Rattle.hh_desk.specs.declared.errand.Serving.{Serving}
use Rattle.hh_desk.specs.Errands.{EndsErrand, Load, Report, Run, Serve, TellAt, told_outcome}
use Rattle.hh_desk.specs.steps.Reporting.{EndsReport}
use Rattle.hh_desk.specs.steps.Telling.{TellsOutcome}

-- what was done was not written whole
pub cut_told : (device : DeviceChange) (told : Told) (result : Result Unit ErrandStop) → IsErrAnd result (λ why. why ≡ stop.Output)
    → (text : List ℕ) → told_outcome told ≡ Ok text → AppendsFront device.old device.new text → TellsOutcome device told result
cut_told device told (Ok x) none text is went = absurd none
cut_told device told (Err why) output text is went = subst (λ w. TellsOutcome device told (Err w)) (sym output) (text, is, went)

-- `host` is what a host may show about files and ports. The store may have failed only if `fails` holds. `old` is the office before the
-- command, and `new` after it. `device` is the change of an output.
module _ (host : HostView) (fails : Type 0) (old new : OfficeView) (device : DeviceChange) where
  -- a load that is told
  pub load_ends : (load : LoadStep) (told : Told) (result : Result Unit ErrandStop) → RunsLoad fails old new host load told → TellsOutcome device told result
      → EndsErrand host fails old new device (Load load) result
  load_ends load told (Ok x) runs (text, is, went) = λ s stands. let (t, does, now) = runs s stands in (text, t, (told, does, sym is), went, now)
  load_ends load told (Err stop.Output) runs (text, is, went) = λ s stands. let (t, does, now) = runs s stands in (text, t, (told, does, sym is), went, now)
  load_ends load told (Err (stop.Refused fault)) runs (is, same) = λ s stands. let (t, does, now) = runs s stands in (t, (told, does, sym is), same, now)
  load_ends load told (Err stop.Unreadable) runs (is, same) = λ s stands. let (t, does, now) = runs s stands in (t, (told, does, sym is), same, now)
  load_ends load told (Err stop.NoSocket) runs (is, same) = λ s stands. let (t, does, now) = runs s stands in (t, (told, does, sym is), same, now)

  -- a run that is told
  pub run_ends : (run : RunStep) (told : Told) (result : Result Unit ErrandStop) → OrdersRun fails old new run told → TellsOutcome device told result
      → EndsErrand host fails old new device (Run run) result
  run_ends run told (Ok x) runs (text, is, went) = λ s stands. let (t, does, now) = runs s stands in (text, t, (told, does, sym is), went, now)
  run_ends run told (Err stop.Output) runs (text, is, went) = λ s stands. let (t, does, now) = runs s stands in (text, t, (told, does, sym is), went, now)
  run_ends run told (Err (stop.Refused fault)) runs (is, same) = λ s stands. let (t, does, now) = runs s stands in (t, (told, does, sym is), same, now)
  run_ends run told (Err stop.Unreadable) runs (is, same) = λ s stands. let (t, does, now) = runs s stands in (t, (told, does, sym is), same, now)
  run_ends run told (Err stop.NoSocket) runs (is, same) = λ s stands. let (t, does, now) = runs s stands in (t, (told, does, sym is), same, now)

  stays : new ≡ old → (s : State) → Represents old s → RepresentsNow old new s
  stays same s stands = (subst (λ o. Represents o s) (sym same) stands, ap (λ (o : OfficeView). o.zone) same)

  -- a report, which leaves the office as it is
  pub report_ends : (asked : ReportStep) (result : Result Unit ErrandStop) → new ≡ old → EndsReport fails old device asked result
      → EndsErrand host fails old new device (Report asked) result
  report_ends asked (Ok x) same ends = λ s stands. let (text, comes, went) = ends s stands in (text, s, (comes, refl), went, stays same s stands)
  report_ends asked (Err stop.Output) same ends = λ s stands. let (text, comes, went) = ends s stands in (text, s, (comes, refl), went, stays same s stands)
  report_ends asked (Err (stop.Refused fault)) same ends = λ s stands. let (comes, front) = ends s stands in (s, (comes, refl), front, stays same s stands)
  report_ends asked (Err stop.Unreadable) same ends = λ s stands. let (comes, front) = ends s stands in (s, (comes, refl), front, stays same s stands)
  report_ends asked (Err stop.NoSocket) same ends = λ s stands. let (comes, front) = ends s stands in (s, (comes, refl), front, stays same s stands)

by_at : (at : Option ℤ) → TellAt at []
by_at None = tt
by_at (Some moment) = tt

-- the port could not be told, and the office is as it was
pub serving_cut : (host : HostView) (fails : Type 0) (office : OfficeView) (device : DeviceChange) (serve : Serving) (port : ℕ) → IsPortFor serve.port port
    → host.ports.brings serve.port [] → AppendsFront device.old device.new (listening_line port)
    → (result : Result Unit ErrandStop) → IsErrAnd result (λ why. why ≡ stop.Output) → EndsErrand host fails office office device (Serve serve) result
serving_cut host fails office device serve port is none went (Ok x) none_out = absurd none_out
serving_cut host fails office device serve port is none went (Err why) output =
    subst (λ w. EndsErrand host fails office office device (Serve serve) (Err w)) (sym output)
    (λ s stands. (listening_line port, s, (port, is, refl, ([], [], none, refl, by_at serve.at, refl)), went, (stands, refl)))
