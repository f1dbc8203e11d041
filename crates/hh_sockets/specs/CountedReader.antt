-- A reader that may be read only a limited number of times.
use Rattle.std.specs.Prelude.{◌≡◌, ℕ, ◌+◌, ◌==◌, List, Result, Err, MatchBool}
use Rattle.hh_devices.specs.declared.device.DeviceFailed.{DeviceFailed}
use Rattle.hh_sockets.specs.declared.counted_reader.CountedReader.{CountedReader}

-- how many times a client is read (profile)
abbrev pub most_reads : ℕ
most_reads = 4096

-- the reader
abbrev pub counted_reader : {T : Type 0} → CountedReader T → T
counted_reader r = r.reader

-- how many more times it may be read
abbrev pub reads_left_of : {T : Type 0} → CountedReader T → ℕ
reads_left_of r = r.reads_left

-- a read is one read of the reader, and one fewer is left; if none is left, it fails and nothing changes
abbrev pub ReadsCounted : {T : Type 0} → (T → ℕ → Result ℕ DeviceFailed → List ℕ → T → Type 0)
    → CountedReader T → ℕ → Result ℕ DeviceFailed → List ℕ → CountedReader T → Type 0
ReadsCounted reads old room result buffer new =
    MatchBool (reads_left_of old == 0)
    ((result ≡ Err (record {})) × (new ≡ old))
    ((reads_left_of old ≡ reads_left_of new + 1) × reads (counted_reader old) room result buffer (counted_reader new))
