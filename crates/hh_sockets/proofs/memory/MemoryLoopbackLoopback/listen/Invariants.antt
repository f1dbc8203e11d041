use Rattle.std.proofs.Common.{◌≡◌, drop}
use Rattle.hh_sockets.specs.Memory.{comes_on}
use Rattle.hh_sockets.proofs.memory.MemoryLoopbackLoopback.listen.Given as goal

-- the ports so far are not the one asked for
abbrev pub invariant-loop-entry : goal.invariant-loop-entry
invariant-loop-entry l = record {
  others : comes_on (drop l.entry-index l.self.ports.now) l.port ≡ comes_on l.self.ports.now l.port;
}
