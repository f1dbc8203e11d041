-- What comes of what a command asks at the desk of an office.
use Rattle.std.specs.Prelude.{◌≡◌, ◌⊎◌, ℕ, ℤ, List, [], Option, Some, None, Result, Ok, Err, length}
use Rattle.std.specs.Io.KnownBytes.{Appends}
use Rattle.hh_devices.specs.DeviceChanges.{DeviceChange}
use Rattle.hh_devices.specs.Devices.{AppendsFront}
use Rattle.hh_time.specs.Days.{Midnights}
use Rattle.hh_names.specs.declared.fault.Refusal.{Refusal}
use Rattle.hh_names.specs.Faults.{plain_fault}
use Rattle.hh_requests.specs.declared.reply.Reply.TheVariants as reply
use Rattle.hh_states.specs.States.{State}
use Rattle.hh_http_serve.specs.report.ReportStop.{ReportStop}
use Rattle.hh_http_serve.specs.report.ReportStop.TheVariants as reporting
use Rattle.hh_http_serve.specs.Promises.{Represents, RepresentsNow}
use Rattle.hh_http_serve.specs.Reports.{report_for}
use Rattle.hh_http_serve.specs.Views.{OfficeView, midnight_of}
use Rattle.hh_sockets.specs.Arrivals.{Arrival}
use Rattle.hh_sockets.specs.Ports.{IsPortFor}
use Rattle.hh_host.specs.Clocks.{AllTell, ClockReading}
use Rattle.hh_host.specs.Views.{HostView}
use Rattle.hh_script.specs.Reports.{ReportStep, report_of}
use Rattle.hh_script.specs.Steps.{LoadStep, RunStep, load_of, run_of}
use Rattle.hh_desk.specs.declared.told.Told.{Told}
use Rattle.hh_desk.specs.declared.told.Told.TheVariants.{Replied, Unreadable}
use Rattle.hh_desk.specs.Doing.{LoadDoes, RunDoes}
use Rattle.hh_desk.specs.GivingUp.{GivesUpWhere}
use Rattle.hh_desk.specs.Lines.{listening_line, loaded_line, run_line}
use Rattle.hh_desk.specs.Serving.{AreServed}
use Rattle.hh_desk.specs.declared.errand.Errand.{Errand}
use Rattle.hh_desk.specs.declared.errand.Errand.TheVariants as errand
use Rattle.hh_desk.specs.declared.errand.ErrandStop.{ErrandStop}
use Rattle.hh_desk.specs.declared.errand.ErrandStop.TheVariants as stop
use Rattle.hh_desk.specs.declared.errand.Serving.{Serving}

-- what a command asks, as plain values
pub data ErrandStep : Type 0 where
  Load : LoadStep → ErrandStep
  Run : RunStep → ErrandStep
  Report : ReportStep → ErrandStep
  Serve : Serving → ErrandStep

-- a command as plain values
abbrev pub errand_of : Errand → ErrandStep
errand_of (errand.Load load) = Load (load_of load)
errand_of (errand.Run run) = Run (run_of run)
errand_of (errand.Report asked) = Report (report_of asked)
errand_of (errand.Serve serve) = Serve serve

-- a command asks for a report
abbrev pub IsReport : ErrandStep → Type 0
IsReport (Report asked) = Unit {0}
IsReport _ = ⊥

-- what comes of a command if its output does not fail: what it writes, or why it is not done
abbrev pub ErrandOutcome : Type 0
ErrandOutcome = Result (List ℕ) ErrandStop

-- what comes of a load or a run: the line of what was done, or the reason why it was not done
abbrev pub told_outcome : Told → ErrandOutcome
told_outcome Unreadable = Err stop.Unreadable
told_outcome (Replied (reply.Refused fault)) = Err (stop.Refused fault)
told_outcome (Replied (reply.Loaded loaded)) = Ok (loaded_line loaded)
told_outcome (Replied (reply.Ran run summary)) = Ok (run_line run summary)
told_outcome (Replied _) = Ok []

-- a report is written whole, is refused, or ends with 90 or 91; the store may have failed only if `fails` holds
abbrev pub ReportComes : Type 0 → Result (List ℕ) Refusal → ErrandOutcome → Type 0
ReportComes fails report (Ok text) = report ≡ Ok text
ReportComes fails report (Err (stop.Refused fault)) = ((why : Refusal) × (report ≡ Err why) × (fault ≡ plain_fault why)) ⊎ GivesUpWhere fails fault
ReportComes fails report (Err _) = ⊥

-- if a moment was given, each reading of the clock tells it
abbrev pub TellAt : Option ℤ → List ClockReading → Type 0
TellAt None readings = Unit {0}
TellAt (Some moment) readings = AllTell moment readings

-- `host` is what a host may show about files and ports. The store may have failed only if `fails` holds.
module _ (host : HostView) (fails : Type 0) (midnight : Midnights) where
  -- as many connections were awaited as were asked for, and each that came was served
  abbrev pub AwaitsAsked : State → Serving → State → Type 0
  AwaitsAsked s serve t =
      (arrivals : List Arrival) × (readings : List ClockReading)
      × host.ports.brings serve.port arrivals × (length arrivals ≡ serve.count) × TellAt serve.at readings
      × AreServed fails midnight arrivals readings s t

  -- what comes of serving connections: the port is told and they are served, or the port cannot be listened on
  abbrev pub ServeComes : State → Serving → ErrandOutcome → State → Type 0
  ServeComes s serve (Ok text) t = (port : ℕ) × IsPortFor serve.port port × (text ≡ listening_line port) × AwaitsAsked s serve t
  ServeComes s serve (Err why) t = (why ≡ stop.NoSocket) × host.ports.refuses serve.port × (t ≡ s)

  -- what comes of a command in a state, and the state after it
  abbrev pub ErrandComes : State → ErrandStep → ErrandOutcome → State → Type 0
  ErrandComes s (Load load) outcome t = (told : Told) × LoadDoes host fails midnight s load told t × (outcome ≡ told_outcome told)
  ErrandComes s (Run run) outcome t = (told : Told) × RunDoes fails midnight s run told t × (outcome ≡ told_outcome told)
  ErrandComes s (Report asked) outcome t = ReportComes fails (report_for midnight s asked.key asked.report) outcome × (t ≡ s)
  ErrandComes s (Serve serve) outcome t = ServeComes s serve outcome t

-- what a command becomes if its output fails: it awaits no connection
abbrev pub cut_errand : ErrandStep → ErrandStep
cut_errand (Serve serve) = Serve (record serve { count = 0 })
cut_errand other = other

-- the text of which a beginning may have been written, if a report is not written whole
abbrev pub begun : Result (List ℕ) Refusal → List ℕ
begun (Ok text) = text
begun (Err why) = []

-- what was written for a command that is not done although its output did not fail: nothing, or a beginning of a report
abbrev pub HasBegun : Midnights → State → ErrandStep → DeviceChange → Type 0
HasBegun midnight s (Report asked) device = AppendsFront device.old device.new (begun (report_for midnight s asked.key asked.report))
HasBegun midnight s _ device = device.new ≡ device.old

-- `host` is what a host may show about files and ports. The store may have failed only if `fails` holds. `old` is the office before the
-- command, and `new` after it. `device` is the change of an output.
module _ (host : HostView) (fails : Type 0) (old new : OfficeView) (device : DeviceChange) (step : ErrandStep) where
  -- what a command asked came about from each state that the office represented, and its text was written
  abbrev pub EndsErrand : Result Unit ErrandStop → Type 0
  EndsErrand (Ok _) = (s : State) → Represents old s
      → (text : List ℕ) × (t : State) × ErrandComes host fails (midnight_of old) s step (Ok text) t × Appends device.old device.new text × RepresentsNow old new t
  EndsErrand (Err stop.Output) = (s : State) → Represents old s
      → (text : List ℕ) × (t : State) × ErrandComes host fails (midnight_of old) s (cut_errand step) (Ok text) t × AppendsFront device.old device.new text × RepresentsNow old new t
  EndsErrand (Err why) = (s : State) → Represents old s
      → (t : State) × ErrandComes host fails (midnight_of old) s step (Err why) t × HasBegun (midnight_of old) s step device × RepresentsNow old new t

-- why a report is not written, or not to its end
abbrev pub report_stop : ReportStop → ErrandStop
report_stop (reporting.Refused fault) = stop.Refused fault
report_stop reporting.Write = stop.Output
