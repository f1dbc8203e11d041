-- A source that reads from any reader.
use Rattle.std.specs.Prelude.{ℕ}
use Rattle.hh_devices.specs.declared.stream_source.StreamSource.{StreamSource}

-- the reader
abbrev pub reader_of : {R : Type 0} → StreamSource R → R
reader_of s = s.reader

-- its count of failures
abbrev pub reader_failures : {R : Type 0} → StreamSource R → ℕ
reader_failures s = s.failures
