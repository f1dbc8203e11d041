-- The refusals for the faults of a store, the faults of reports as a store tells them, and how often a store has refused.
use Rattle.std.specs.Prelude.{◌≡◌, ◌≤◌, ℕ, Result, Ok, Err}
use Rattle.hh_devices.specs.Devices.{Failed}
use Rattle.hh_states.specs.fault.Fault.{Fault}
use Rattle.hh_states.specs.fault.Refusal.TheVariants as refusal
use Rattle.hh_states.specs.Faults.{memory_fault, plain_fault}
use Rattle.hh_reports.specs.declared.fault.ReportFault.{ReportFault}
use Rattle.hh_reports.specs.declared.fault.ReportFault.TheVariants as report
use Rattle.hh_store.specs.declared.output_fault.OutputFault.{OutputFault}
use Rattle.hh_store.specs.declared.output_fault.OutputFault.TheVariants as output
use Rattle.hh_store.specs.declared.store_fault.StoreFault.{StoreFault}
use Rattle.hh_store.specs.declared.store_fault.StoreFault.TheVariants.{Memory, Store}

-- the refusal of a request for a fault of the store
abbrev pub store_fault : StoreFault → Fault
store_fault Memory = memory_fault
store_fault Store = plain_fault refusal.Store

-- the fault of a report that was not written whole, as the tables tell it
abbrev pub output_fault : ReportFault → OutputFault
output_fault report.Memory = output.Memory
output_fault report.Write = output.Write

-- one more refusal was counted; at the greatest count it is only said that the count did not fall
abbrev pub CountsOneMore : ℕ → ℕ → Type 0
CountsOneMore old new = (old ≤ new) × Failed old new

-- a store counts one refusal if a call failed for another reason than memory, and otherwise none
abbrev pub CountsRefusal : {A : Type 0} → Result A StoreFault → ℕ → ℕ → Type 0
CountsRefusal (Ok x) old new = new ≡ old
CountsRefusal (Err Memory) old new = new ≡ old
CountsRefusal (Err Store) old new = CountsOneMore old new

-- the same for a call that writes a report; it counts none if the output failed
abbrev pub CountsReportRefusal : {A : Type 0} → Result A OutputFault → ℕ → ℕ → Type 0
CountsReportRefusal (Ok x) old new = new ≡ old
CountsReportRefusal (Err output.Memory) old new = new ≡ old
CountsReportRefusal (Err output.Store) old new = CountsOneMore old new
CountsReportRefusal (Err output.Write) old new = new ≡ old
