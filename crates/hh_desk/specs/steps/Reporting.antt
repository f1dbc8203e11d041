-- How a command that asks for a report ends.
use Rattle.std.specs.Prelude.{ℕ, List, Result, Ok, Err}
use Rattle.std.specs.Io.KnownBytes.{Appends}
use Rattle.hh_devices.specs.DeviceChanges.{DeviceChange}
use Rattle.hh_devices.specs.Devices.{AppendsFront}
use Rattle.hh_names.specs.declared.fault.Refusal.{Refusal}
use Rattle.hh_states.specs.States.{State}
use Rattle.hh_http_serve.specs.Promises.{Represents}
use Rattle.hh_http_serve.specs.Reports.{report_for}
use Rattle.hh_http_serve.specs.Views.{OfficeView, midnight_of}
use Rattle.hh_script.specs.Reports.{ReportStep}
use Rattle.hh_desk.specs.declared.errand.ErrandStop.{ErrandStop}
use Rattle.hh_desk.specs.declared.errand.ErrandStop.TheVariants as stop
use Rattle.hh_desk.specs.Errands.{ReportComes, begun}

-- `report` is the machine's report, or its refusal, and `device` is the change of an output. The store may have failed only if `fails`
-- holds.
module _ (fails : Type 0) (device : DeviceChange) (report : Result (List ℕ) Refusal) where
  -- the report was written whole, or a beginning of it was and the command says why
  abbrev pub WritesOrStops : Result Unit ErrandStop → Type 0
  WritesOrStops (Ok _) = (text : List ℕ) × ReportComes fails report (Ok text) × Appends device.old device.new text
  WritesOrStops (Err stop.Output) = (text : List ℕ) × ReportComes fails report (Ok text) × AppendsFront device.old device.new text
  WritesOrStops (Err why) = ReportComes fails report (Err why) × AppendsFront device.old device.new (begun report)

-- the command ends with the report that the machine's state gives, in each state that the office represents
abbrev pub EndsReport : Type 0 → OfficeView → DeviceChange → ReportStep → Result Unit ErrandStop → Type 0
EndsReport fails office device asked result =
    (s : State) → Represents office s → WritesOrStops fails device (report_for (midnight_of office) s asked.key asked.report) result
