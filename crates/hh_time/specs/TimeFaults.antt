-- Why a date has no Settlement Day.
use Rattle.std.specs.Prelude.{ℕ}
use Rattle.hh_time.specs.declared.fault.TimeFault.{TimeFault}
use Rattle.hh_time.specs.declared.fault.TimeFault.TheVariants.{Memory, OddDay, OutOfRange}

-- the number by which the fault is known
abbrev pub fault_number : TimeFault → ℕ
fault_number OutOfRange = 1
fault_number OddDay = 2
fault_number Memory = 3
