-- The outcome of a call that adds to a page.
use Rattle.std.specs.Prelude.{ℕ, List, Result}
use Rattle.hh_devices.specs.DeviceChanges.{DeviceChange}
use Rattle.hh_reports.specs.declared.fault.ReportFault.{ReportFault}
use Rattle.hh_reports.specs.Output.{IsPassed, Reaches}

-- What a call changes in a sink; after it a page holds these bytes back. Either a beginning of the text went out and the page holds the
-- rest back, or the call failed and a beginning of the text went out.
abbrev pub Passes : (device : DeviceChange) (holds : List ℕ) → {A : Type 0} → List ℕ → Result A ReportFault → Type 0
Passes device holds all result = Reaches device (λ _. IsPassed device holds all) all result
