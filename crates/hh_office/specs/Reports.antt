-- Reports: what is written of a state, for whom, and why a report is refused.
use Rattle.std.specs.Prelude.{◌≡◌, ℕ, List, Option, Some, None, Result, Ok, Err, IsTrue, if◌then◌else◌}
use Rattle.std.specs.Io.KnownBytes.{Appends}
use Rattle.hh_devices.specs.DeviceChanges.{DeviceChange, HasFailed, IsWell}
use Rattle.hh_devices.specs.Devices.{AppendsFront}
use Rattle.hh_time.specs.Days.{Midnights}
use Rattle.hh_names.specs.declared.fault.Refusal.{Refusal}
use Rattle.hh_names.specs.declared.fault.Refusal.TheVariants as refusal
use Rattle.hh_names.specs.declared.fault.Refusal.TheVariants.{Forbidden, NoRun}
use Rattle.hh_names.specs.Faults.{plain_fault}
use Rattle.hh_requests.specs.declared.report.Report.{Report}
use Rattle.hh_requests.specs.declared.report.Report.TheVariants.{Balances, Day, Results}
use Rattle.hh_states.specs.States.{State}
use Rattle.hh_store.specs.declared.output_fault.OutputFault.{OutputFault}
use Rattle.hh_store.specs.declared.output_fault.OutputFault.TheVariants as output
use Rattle.hh_office.specs.ReportTexts.{balances_of, day_report_of, export_of}
use Rattle.hh_office.specs.declared.report.ReportStop.{ReportStop}
use Rattle.hh_office.specs.declared.report.ReportStop.TheVariants.{Refused, Write}
use Rattle.hh_office.specs.Machine.{is_operator}
use Rattle.hh_office.specs.Promises.{Represents, UnlessFailed, gives_up}
use Rattle.hh_office.specs.Views.{OfficeView, midnight_of}

-- a text, or the refusal of a report whose run does not exist
abbrev pub or_no_run : Option (List ℕ) → Result (List ℕ) Refusal
or_no_run None = Err NoRun
or_no_run (Some text) = Ok text

module _ (midnight : Midnights) (s : State) where
  -- the text of a report, if its run exists
  abbrev pub report_text : Report → Option (List ℕ)
  report_text (Day key) = day_report_of midnight s key
  report_text (Results key) = export_of midnight s key
  report_text Balances = Some (balances_of midnight s)

  -- what becomes of a report that is asked for with a key: first the key is checked, then whether the run exists
  abbrev pub report_for : List ℕ → Report → Result (List ℕ) Refusal
  report_for key report = if is_operator midnight s key then or_no_run (report_text report) else Err Forbidden

-- why a report is not written whole, given the fault that the tables tell
abbrev pub stop_for : OutputFault → ReportStop
stop_for output.Memory = Refused (plain_fault refusal.Memory)
stop_for output.Store = Refused (plain_fault refusal.Store)
stop_for output.Write = Write

-- `device` is the change of a sink by a call.
module _ (device : DeviceChange) where
  -- a report stops because it is given up, and the sink counts no failure; or because the sink failed or took nothing
  abbrev pub StopsReport : ReportStop → Type 0
  StopsReport (Refused fault) = IsTrue (gives_up fault) × IsWell device
  StopsReport Write = HasFailed device

  -- the sink counts one failure if a report stops for that reason, and otherwise none
  abbrev pub CountsReport : {A : Type 0} → Result A ReportStop → Type 0
  CountsReport (Ok x) = IsWell device
  CountsReport (Err (Refused fault)) = IsWell device
  CountsReport (Err Write) = HasFailed device

  -- nothing was written
  abbrev pub IsUntouched : Type 0
  IsUntouched = (device.new ≡ device.old) × IsWell device

  -- the text was written and nothing else, or a beginning of it before the report stopped
  abbrev pub WritesReport : {A : Type 0} → List ℕ → Result A ReportStop → Type 0
  WritesReport text (Ok x) = Appends device.old device.new text × IsWell device
  WritesReport text (Err stop) = AppendsFront device.old device.new text × StopsReport stop

  -- the report is refused for this reason, unless it is given up, and nothing was written
  abbrev pub RefusesReport : {A : Type 0} → Refusal → Result A ReportStop → Type 0
  RefusesReport why (Err (Refused fault)) = UnlessFailed fault (fault ≡ plain_fault why) × IsUntouched
  RefusesReport why _ = ⊥

  -- a report ends as expected: its text is written, or it is refused
  abbrev pub ReportsAs : {A : Type 0} → Result (List ℕ) Refusal → Result A ReportStop → Type 0
  ReportsAs (Ok text) result = WritesReport text result
  ReportsAs (Err why) result = RefusesReport why result

  -- the office does with a report, asked for with a key, what the machine says in each state that the office represents
  abbrev pub Reports : {A : Type 0} → OfficeView → List ℕ → Report → Result A ReportStop → Type 0
  Reports office key report result =
      (s : State) → Represents office s → ReportsAs (report_for (midnight_of office) s key report) result
