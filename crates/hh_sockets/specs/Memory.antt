-- Connections in memory.
use Rattle.std.specs.Prelude.{◌≡◌, ℕ, List, [], ◌∷◌, ◌++◌, map, ◌==◌, ◌||◌, ◌&&◌, not, if◌then◌else◌, Option, Some, None}
use Rattle.hh_sockets.specs.declared.memory.MemoryListener.{MemoryListener}
use Rattle.hh_sockets.specs.declared.memory.MemoryLoopback.{MemoryLoopback}
use Rattle.hh_sockets.specs.declared.memory.MemoryPort.{MemoryPort}
use Rattle.hh_sockets.specs.Arrivals.{Arrival, Exchange}
use Rattle.hh_sockets.specs.Ports.{Ports}

-- the bytes of the connections that are still to come
abbrev pub still_comes : MemoryListener → List (List ℕ)
still_comes l = map (λ bytes. bytes.now) l.connections.now

-- the bytes of the connections that come to the first port with the number asked for, or to the first port of all if 0 is asked for
abbrev pub comes_on : List MemoryPort → ℕ → Option (List (List ℕ))
comes_on [] asked = None
comes_on (p ∷ ports) asked =
    if not (p.port == 0) && (asked == 0 || p.port == asked) then Some (map (λ bytes. bytes.now) p.connections.now) else comes_on ports asked

-- an exchange is over a new connection that brings these bytes
abbrev pub IsOver : List ℕ → Exchange → Type 0
IsOver bytes e = (e.source.old ≡ Some bytes) × (e.source.old_failures ≡ 0) × (e.sink.old ≡ Some []) × (e.sink.old_failures ≡ 0)

-- the connections that came brought these bytes, one after the other; sometimes no connection may have come
abbrev pub AreOver : List (List ℕ) → List Arrival → Type 0
AreOver [] [] = Unit {0}
AreOver (bytes ∷ brought) [] = ⊥
AreOver brought (None ∷ arrivals) = AreOver brought arrivals
AreOver [] (Some e ∷ arrivals) = ⊥
AreOver (bytes ∷ brought) (Some e ∷ arrivals) = IsOver bytes e × AreOver brought arrivals

-- the connections that came are the first of `all`, and `rest` are still to come
abbrev pub AreFirstOf : List (List ℕ) → List Arrival → List (List ℕ) → Type 0
AreFirstOf all arrivals rest = (brought : List (List ℕ)) × (all ≡ brought ++ rest) × AreOver brought arrivals

-- what came of awaiting connections leads from one state of a listener to another
abbrev pub memory_leads : MemoryListener → List Arrival → MemoryListener → Type 0
memory_leads first arrivals last = AreFirstOf (still_comes first) arrivals (still_comes last)

-- What is known about ports in memory. A port that is not among them can't be listened on. Each time that a port is listened on, the first
-- of its connections come.
abbrev pub memory_ports : MemoryLoopback → Ports
memory_ports m = record {
  refuses = λ asked. comes_on m.ports.now asked ≡ None;
  brings = λ asked arrivals. (all rest : List (List ℕ)) × (comes_on m.ports.now asked ≡ Some all) × AreFirstOf all arrivals rest;
}
