-- A sink that writes to any writer.
use Rattle.std.specs.Prelude.{ℕ}
use Rattle.hh_devices.specs.declared.stream_sink.StreamSink.{StreamSink}

-- the writer
abbrev pub writer_of : {W : Type 0} → StreamSink W → W
writer_of s = s.writer

-- its count of failures
abbrev pub writer_failures : {W : Type 0} → StreamSink W → ℕ
writer_failures s = s.failures
