use Rattle.std.proofs.Common.{Some}
use Rattle.hh_devices.specs.MemorySink.{sink_failures, taken_by}
use Rattle.hh_devices.specs.MemorySource.{left_in, source_failures}
use Rattle.hh_sockets.specs.Arrivals.{exchange}
use Rattle.hh_sockets.proofs.MemoryLaws.{first_last}
use Rattle.hh_sockets.proofs.memory.MemoryListenerListener.close.Goals as goal

pub returns-in-Ok : goal.returns-in-Ok
returns-in-Ok c first arrivals given =
    first_last (exchange (λ source. Some (left_in source)) source_failures (λ sink. Some (taken_by sink)) sink_failures given given)
    (exchange (λ source. Some (left_in source)) source_failures (λ sink. Some (taken_by sink)) sink_failures given c.args.connection)
    (λ bytes begins. begins) _ _ arrivals

pub returns-in_default : goal.returns-in_default
returns-in_default c first arrivals given =
    first_last (exchange (λ source. Some (left_in source)) source_failures (λ sink. Some (taken_by sink)) sink_failures given given)
    (exchange (λ source. Some (left_in source)) source_failures (λ sink. Some (taken_by sink)) sink_failures given c.args.connection)
    (λ bytes begins. begins) _ _ arrivals
