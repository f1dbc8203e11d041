-- How a command that asks for a report ends, given what the office wrote.
use Rattle.std.proofs.Common.{◌≡◌, ℕ, List, [], refl, sym, subst, Bool, true, false, Option, Some, None, Result, Ok, Err, inl, inr}
use Rattle.std.specs.Prelude.{IsErrAnd, MatchBool}
use Rattle.std.specs.Io.KnownBytes.{Appends}
use Rattle.std.proofs.lemmas.List.{append-nil}
use Rattle.hh_devices.specs.DeviceChanges.{DeviceChange}
use Rattle.hh_devices.specs.Devices.{AppendsFront}
use Rattle.hh_names.specs.declared.fault.Fault.{Fault}
use Rattle.hh_names.specs.declared.fault.Refusal.{Refusal}
use Rattle.hh_names.specs.Faults.{plain_fault}
use Rattle.hh_http_serve.specs.report.ReportStop.{ReportStop}
use Rattle.hh_http_serve.specs.report.ReportStop.TheVariants.{Refused, Write}
use Rattle.hh_http_serve.specs.Promises.{gives_up}
use Rattle.hh_http_serve.specs.Refusals.{CountsMore, CountsReportStop, CountsStoreFault}
use Rattle.hh_http_serve.specs.Reports.{ReportsAs}
use Rattle.hh_desk.proofs.GivingUpLaws.{fault_where}
use Rattle.hh_desk.specs.declared.errand.ErrandStop.{ErrandStop}
use Rattle.hh_desk.specs.declared.errand.ErrandStop.TheVariants as stop
use Rattle.hh_desk.specs.Errands.{ReportComes, report_stop}
use Rattle.hh_desk.specs.steps.Reporting.{WritesOrStops}

appends_none : (bytes : Option (List ℕ)) → Appends bytes bytes []
appends_none None = tt
appends_none (Some xs) = sym (append-nil xs)

-- nothing was written
none_out : (old new : Option (List ℕ)) → new ≡ old → AppendsFront old new []
none_out old new same = subst (λ bytes. AppendsFront old bytes []) (sym same) ([], [], refl, appends_none old)

-- A store had counted `earlier` refusals, and counts `later` now. `device` is the change of an output.
module _ (earlier later : ℕ) (device : DeviceChange) where
  refused_as : (fault : Fault) → CountsStoreFault fault earlier later → (why : Refusal) (b : Bool) → gives_up fault ≡ b
      → MatchBool b (Unit {0}) (fault ≡ plain_fault why) → ReportComes (CountsMore earlier later) (Err why) (Err (stop.Refused fault))
  refused_as fault store why true up is = inr (fault_where earlier later fault up store)
  refused_as fault store why false up is = inl (why, refl, is)

  by_stop : (report : Result (List ℕ) Refusal) (why : ReportStop) → CountsReportStop {A = Unit {0}} (Err why) earlier later
      → ReportsAs device {A = Unit {0}} report (Err why) → WritesOrStops (CountsMore earlier later) device report (Err (report_stop why))
  by_stop (Ok text) (Refused fault) store (went, (up, well)) = (inr (fault_where earlier later fault up store), went)
  by_stop (Ok text) Write store (went, failed) = (text, refl, went)
  by_stop (Err why) (Refused fault) store (is, (same, well)) = (refused_as fault store why (gives_up fault) refl is, none_out device.old device.new same)
  by_stop (Err why) Write store none = absurd none

  pub report_stops : (report : Result (List ℕ) Refusal) (why : ReportStop) → CountsReportStop {A = Unit {0}} (Err why) earlier later
      → ReportsAs device {A = Unit {0}} report (Err why)
      → (result : Result Unit ErrandStop) → IsErrAnd result (λ s. s ≡ report_stop why) → WritesOrStops (CountsMore earlier later) device report result
  report_stops report why store does (Ok x) none = absurd none
  report_stops report why store does (Err s) is = subst (λ w. WritesOrStops (CountsMore earlier later) device report (Err w)) (sym is) (by_stop report why store does)
