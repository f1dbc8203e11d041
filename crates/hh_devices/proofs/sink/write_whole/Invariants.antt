use Rattle.std.proofs.Common.{◌≡◌, List, ℕ, ◌++◌, ◌+◌, ◌≤◌, length}
use Rattle.std.specs.Io.KnownBytes.{Appends}
use Rattle.hh_devices.proofs.sink.write_whole.Given as goal

-- the bytes are those that went out so far, and then the rest
abbrev pub invariant-loop-rest : goal.invariant-loop-rest
invariant-loop-rest g l = record {
  sent : (front : List ℕ) × (l.bytes ≡ front ++ l.rest) × Appends (g.S.Sink.taken l.fn.sink) (g.S.Sink.taken l.sink) front;
  sure : length l.bytes ≤ g.S.Sink.assured l.fn.sink → g.S.Sink.assured l.fn.sink + length l.rest ≤ g.S.Sink.assured l.sink + length l.bytes;
  well : g.S.Sink.failures l.sink ≡ g.S.Sink.failures l.fn.sink;
}

abbrev pub decreases-loop-rest : goal.decreases-loop-rest
decreases-loop-rest g l = length l.rest
