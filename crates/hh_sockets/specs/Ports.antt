-- What is known about ports before they are listened on.
use Rattle.std.specs.Prelude.{◌≡◌, ◌≢◌, ℕ, List}
use Rattle.hh_sockets.specs.Arrivals.{Arrival}

-- a port has a number: the one that was asked for, or any number if 0 was asked for
abbrev pub IsPortFor : ℕ → ℕ → Type 0
IsPortFor asked port = (port ≢ 0) × (asked ≢ 0 → port ≡ asked)

-- the ports of a loopback, by the numbers that are asked for
pub record Ports : Type 1 where
  -- it may be impossible to listen on the port
  pub refuses : ℕ → Type 0
  -- this may come of awaiting connections on it, one after the other
  pub brings : ℕ → List Arrival → Type 0

-- whatever comes of awaiting connections from this state of a listener may come on the port; `leads` says what leads from one state to
-- another
abbrev pub IsBroughtBy : {L : Type 0} → (L → List Arrival → L → Type 0) → (List Arrival → Type 0) → L → Type 0
IsBroughtBy {L} leads brings first = (arrivals : List Arrival) (last : L) → leads first arrivals last → brings arrivals
