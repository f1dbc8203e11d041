-- What comes of awaiting connections on a port.
use Rattle.std.specs.Prelude.{ℕ, List, [], ◌∷◌, ◌++◌, Option, Some, None, Result, Ok, Err}
use Rattle.hh_devices.specs.DeviceChanges.{DeviceChange, change}
use Rattle.hh_sockets.specs.declared.loopback.Connection.{Connection}
use Rattle.hh_sockets.specs.declared.loopback.SocketFailed.{SocketFailed}

-- the changes at the two ends of a connection, from when it is handed over until it is taken back
pub record Exchange : Type 0 where
  pub source : DeviceChange
  pub sink : DeviceChange

-- what comes of awaiting a connection: an exchange, or None if none came
abbrev pub Arrival : Type 0
Arrival = Option Exchange

-- What the ends of a connection tell about themselves: the bytes that are still to come in, the bytes that were taken, and how often each
-- end failed.
module _ {S K : Type 0} (remaining : S → Option (List ℕ)) (read_failures : S → ℕ) (taken : K → Option (List ℕ)) (write_failures : K → ℕ) where
  -- the exchange over a connection that is `old` when it is handed over and `new` when it is taken back
  abbrev pub exchange : Connection S K → Connection S K → Exchange
  exchange old new = record {
    source = change remaining read_failures old.source new.source;
    sink = change taken write_failures old.sink new.sink;
  }

  -- what came of awaiting a connection that is still in use, as it was handed over
  abbrev pub arrival : Result (Connection S K) SocketFailed → Arrival
  arrival (Ok connection) = Some (exchange connection connection)
  arrival (Err failed) = None

  -- What came of awaiting connections leads from one state of a listener to another. A call leads from `old` to `new`.
  module _ {L : Type 0} (leads : L → List Arrival → L → Type 0) (old new : L) where
    -- the call awaited one more connection
    abbrev pub AwaitsOne : Result (Connection S K) SocketFailed → Type 0
    AwaitsOne result = (first : L) (arrivals : List Arrival) → leads first arrivals old → leads first (arrivals ++ arrival result ∷ []) new

    -- the call took back the connection that was in use
    abbrev pub TakesBack : Connection S K → Type 0
    TakesBack connection =
        (first : L) (arrivals : List Arrival) (given : Connection S K)
        → leads first (arrivals ++ Some (exchange given given) ∷ []) old → leads first (arrivals ++ Some (exchange given connection) ∷ []) new
