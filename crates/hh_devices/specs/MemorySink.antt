-- A sink in memory.
use Rattle.std.specs.Prelude.{ℕ, List, length, min}
use Rattle.hh_devices.specs.Pace.{assured_within}
use Rattle.hh_devices.specs.declared.pace.Pace.{Pace}
use Rattle.hh_devices.specs.declared.memory_sink.MemorySink.{MemorySink}

-- the bytes that it took
abbrev pub taken_by : MemorySink → List ℕ
taken_by s = s.taken.items

-- how many more it has room for
abbrev pub room_of : MemorySink → ℕ
room_of s = s.room

-- how it takes them
abbrev pub sink_pace : MemorySink → Pace
sink_pace s = s.pace

-- how many of these bytes it may take in a call
abbrev pub offered_to : MemorySink → List ℕ → ℕ
offered_to s bytes = min (length bytes) (room_of s)

-- how many more it takes with no failure
abbrev pub assured_of : MemorySink → ℕ
assured_of s = assured_within (sink_pace s) (room_of s)

-- its count of failures
abbrev pub sink_failures : MemorySink → ℕ
sink_failures s = s.failures
