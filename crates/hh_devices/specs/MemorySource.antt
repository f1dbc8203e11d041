-- A source in memory.
use Rattle.std.specs.Prelude.{ℕ, List, length, min}
use Rattle.hh_devices.specs.declared.pace.Pace.{Pace}
use Rattle.hh_devices.specs.declared.memory_source.MemorySource.{MemorySource}

-- the bytes that it still gives
abbrev pub left_in : MemorySource → List ℕ
left_in s = s.bytes.now

-- how it gives them
abbrev pub source_pace : MemorySource → Pace
source_pace s = s.pace

-- how many bytes it may put into a buffer in a call
abbrev pub wanted_of : MemorySource → List ℕ → ℕ
wanted_of s buffer = min (length buffer) (length (left_in s))

-- its count of failures
abbrev pub source_failures : MemorySource → ℕ
source_failures s = s.failures
