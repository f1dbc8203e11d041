-- What is written of a report that stops for a fault of the store.
use Rattle.std.proofs.Common.{◌≡◌, ℕ, List, [], refl, sym, subst, Option, Some, None, Result, Ok, Err}
use Rattle.std.specs.Prelude.{IsErr, IsErrAnd}
use Rattle.std.specs.Io.KnownBytes.{Appends}
use Rattle.std.proofs.lemmas.List.{append-nil}
use Rattle.hh_devices.specs.DeviceChanges.{DeviceChange}
use Rattle.hh_tables.proofs.TableLaws.{false_is_not_true}
use Rattle.hh_store.specs.Outputs.{Outputs}
use Rattle.hh_store.specs.StoreFaults.{store_fault}
use Rattle.hh_store.specs.declared.output_fault.OutputFault.{OutputFault}
use Rattle.hh_store.specs.declared.output_fault.OutputFault.TheVariants as output
use Rattle.hh_store.specs.declared.store_fault.StoreFault.{StoreFault}
use Rattle.hh_store.specs.declared.store_fault.StoreFault.TheVariants.{Memory, Store}
use Rattle.hh_office.specs.declared.report.ReportStop.{ReportStop}
use Rattle.hh_office.specs.declared.report.ReportStop.TheVariants.{Refused}
use Rattle.hh_office.specs.Reports.{IsUntouched, ReportsAs, WritesReport, or_no_run, stop_for}

appends_none : (a b : Option (List ℕ)) → b ≡ a → Appends a b []
appends_none a b same = subst (λ c. Appends a c []) (sym same) (none_added a)
  where
    none_added : (c : Option (List ℕ)) → Appends c c []
    none_added None = tt
    none_added (Some bytes) = sym (append-nil bytes)

module _ (device : DeviceChange) where
  given_up : IsUntouched device → (report : Option (List ℕ)) (e : StoreFault)
      → ReportsAs device {A = Unit {0}} (or_no_run report) (Err (Refused (store_fault e)))
  given_up same (Some text) Memory = (([], text, refl, appends_none device.old device.new same.0), (refl, same.1))
  given_up same (Some text) Store = (([], text, refl, appends_none device.old device.new same.0), (refl, same.1))
  given_up same None Memory = (tt, same)
  given_up same None Store = (tt, same)

  -- if a store fails before anything is written, the report is given up
  pub report_given_up : IsUntouched device → (report : Option (List ℕ)) (e : StoreFault) (result : Result (Unit {0}) ReportStop)
      → IsErr result × IsErrAnd result (λ stop. stop ≡ Refused (store_fault e)) → ReportsAs device (or_no_run report) result
  report_given_up same report e (Ok x) passed = absurd (false_is_not_true passed.0)
  report_given_up same report e (Err stop) passed =
      subst (λ (s : ReportStop). ReportsAs device {A = Unit {0}} (or_no_run report) (Err s)) (sym passed.1) (given_up same report e)

  stopped : (text : List ℕ) (e : OutputFault) → Outputs device {A = Unit {0}} text (Err e)
      → WritesReport device {A = Unit {0}} text (Err (stop_for e))
  stopped text output.Memory went = (went.0, (refl, went.1))
  stopped text output.Store went = (went.0, (refl, went.1))
  stopped text output.Write went = went

  -- a report that stops while it is being written
  pub report_stopped : (text : List ℕ) (e : OutputFault) (result : Result (Unit {0}) ReportStop) → IsErr result × IsErrAnd result (λ stop. stop ≡ stop_for e)
      → Outputs device {A = Unit {0}} text (Err e) → WritesReport device text result
  report_stopped text e (Ok x) passed went = absurd (false_is_not_true passed.0)
  report_stopped text e (Err stop) passed went =
      subst (λ (s : ReportStop). WritesReport device {A = Unit {0}} text (Err s)) (sym passed.1) (stopped text e went)
