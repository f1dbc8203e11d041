use Rattle.std.proofs.Common.{◌<◌, ℕ, List, [], length, ap, Some, rules, Bor}
use Rattle.hh_devices.specs.MemorySink.{sink_failures, taken_by}
use Rattle.hh_devices.specs.MemorySource.{left_in, source_failures}
use Rattle.hh_devices.specs.declared.memory_sink.MemorySink.{MemorySink}
use Rattle.hh_devices.specs.declared.memory_source.MemorySource.{MemorySource}
use Rattle.hh_sockets.specs.declared.loopback.Connection.{Connection}
use Rattle.hh_sockets.specs.Arrivals.{exchange}
use Rattle.hh_sockets.specs.Memory.{still_comes}
use Rattle.hh_sockets.proofs.MemoryLaws.{accepted, first_and_rest, first_none}
use Rattle.hh_sockets.proofs.memory.MemoryListenerListener.accept.Goals as goal

pub returns-then-is_empty : goal.returns-then-is_empty
returns-then-is_empty c first arrivals = first_none _ _ arrivals

pub returns-in_default : goal.returns-in_default
returns-in_default c first arrivals = first_none _ _ arrivals

pub returns : goal.returns
returns c first arrivals leads =
    let connections : List (Bor (List ℕ)) = c.args.self.now.connections.now in
    let some : 0 < length connections = search rules in
    let given : Connection MemorySource MemorySink = record { source = c.new.result; sink = c.in-Ok.sink } in
    accepted (still_comes first) (still_comes c.args.self.now) _ arrivals _
    (exchange (λ source. Some (left_in source)) source_failures (λ sink. Some (taken_by sink)) sink_failures given given)
    (ap Some c.new.ensures.bytes, c.new.ensures.failures, ap Some c.in-Ok.ensures.taken, c.in-Ok.ensures.failures)
    (first_and_rest connections (record { ref_ptr = (0, 0); now = [] }) some) leads
