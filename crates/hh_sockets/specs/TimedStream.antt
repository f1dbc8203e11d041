-- A stream whose calls wait for a limited time.
use Rattle.std.specs.Prelude.{◌≡◌, ◌⊎◌, ℕ, List, Result, Err}
use Rattle.hh_devices.specs.declared.device.DeviceFailed.{DeviceFailed}
use Rattle.hh_sockets.specs.declared.time_limit.TimeLimit.{TimeLimit}
use Rattle.hh_sockets.specs.declared.timed_stream.TimedStream.{TimedStream}

-- the stream
abbrev pub timed_stream : {S R : Type 0} → TimedStream S R → S
timed_stream s = s.stream

-- how long its calls may wait
abbrev pub limit_of : {S R : Type 0} → TimedStream S R → TimeLimit
limit_of s = s.limit

-- a call does not change the limit; it is one call of the stream, or it fails and leaves the stream as it was
abbrev pub IsInTime : {S R : Type 0} → Result ℕ DeviceFailed → Type 0 → TimedStream S R → TimedStream S R → Type 0
IsInTime result call old new =
    (limit_of new ≡ limit_of old) × (((result ≡ Err (record {})) × (timed_stream new ≡ timed_stream old)) ⊎ call)

-- what may come of a read
abbrev pub ReadsInTime : {S R : Type 0} → (S → ℕ → Result ℕ DeviceFailed → List ℕ → S → Type 0)
    → TimedStream S R → ℕ → Result ℕ DeviceFailed → List ℕ → TimedStream S R → Type 0
ReadsInTime reads old room result buffer new = IsInTime result (reads (timed_stream old) room result buffer (timed_stream new)) old new

-- what may come of a write
abbrev pub WritesInTime : {S R : Type 0} → (S → List ℕ → Result ℕ DeviceFailed → S → Type 0)
    → TimedStream S R → List ℕ → Result ℕ DeviceFailed → TimedStream S R → Type 0
WritesInTime writes old bytes result new = IsInTime result (writes (timed_stream old) bytes result (timed_stream new)) old new
