-- What a line writes that asks for a report, as the contracts of private functions say it.
use Rattle.std.specs.Prelude.{ℕ, Bool, List}
use Rattle.std.specs.Io.KnownBytes.{Appends}
use Rattle.hh_devices.specs.DeviceChanges.{DeviceChange}
use Rattle.hh_devices.specs.Devices.{AppendsFront}
use Rattle.hh_states.specs.States.{State}
use Rattle.hh_desk.specs.Promises.{Represents}
use Rattle.hh_desk.specs.Views.{OfficeView, midnight_of}
use Rattle.hh_script.specs.Reports.{ReportStep}
use Rattle.hh_session.specs.Reporting.{ReportDoes}

-- `device` is the change of an output. The store may have failed only if `fails` holds.
module _ (fails : Type 0) (office : OfficeView) (device : DeviceChange) (step : ReportStep) where
  -- what the line writes in each state that the office represented was written, and the report was done or not
  abbrev pub RunsReport : Bool → Type 0
  RunsReport done = (s : State) → Represents office s → (text : List ℕ) × ReportDoes fails (midnight_of office) s step done text × Appends device.old device.new text

  -- a beginning of what the line writes was written
  abbrev pub BeginsReport : Type 0
  BeginsReport = (s : State) → Represents office s
      → (done : Bool) × (text : List ℕ) × ReportDoes fails (midnight_of office) s step done text × AppendsFront device.old device.new text
