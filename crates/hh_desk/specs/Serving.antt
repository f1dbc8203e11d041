-- What comes of connections that the desk of an office serves.
use Rattle.std.specs.Prelude.{◌≡◌, ◌⊎◌, ℕ, ℤ, List, [], ◌∷◌, length, Option, Some, None, Result, Ok}
use Rattle.hh_devices.specs.DeviceChanges.{DeviceChange, IsWell}
use Rattle.hh_time.specs.Days.{Midnights}
use Rattle.hh_requests.specs.declared.request.Request.{Request}
use Rattle.hh_states.specs.States.{State}
use Rattle.hh_http_serve.specs.Machine.{next}
use Rattle.hh_http_serve.specs.Promises.{Represents, RepresentsNow}
use Rattle.hh_http_serve.specs.Views.{OfficeView, midnight_of}
use Rattle.hh_http_serve.specs.declared.serve.ServeFault.{ServeFault}
use Rattle.hh_http_serve.specs.declared.serve.Served.{Served}
use Rattle.hh_http_serve.specs.Serves.{CountsReading, CountsWriting, IsReadOf, Serves}
use Rattle.hh_sockets.specs.Arrivals.{Arrival, Exchange}
use Rattle.hh_host.specs.Clocks.{ClockReading}
use Rattle.hh_http_serve.specs.Refusals.{CountsMore}
use Rattle.hh_http_serve.specs.incoming.Incoming.TheVariants.{Asked}

-- a connection that brought `bytes` led from one state to the other: to the same state, or to the machine's state after the request that
-- the bytes ask, handled at `moment`
abbrev pub LeadsTo : Midnights → ℤ → Option (List ℕ) → State → State → Type 0
LeadsTo midnight moment bytes s t =
    (t ≡ s) ⊎ ((request : Request) × IsReadOf bytes (Ok (Asked request)) × (t ≡ next midnight s moment request))

-- a device is as it was, and did not fail
abbrev pub IsLeft : DeviceChange → Type 0
IsLeft device = (device.new ≡ device.old) × IsWell device

-- nothing was read from a connection, nothing was written to it, and neither end failed
abbrev pub IsUnserved : Exchange → Type 0
IsUnserved e = IsLeft e.source × IsLeft e.sink

-- The store may have failed only if `fails` holds.
module _ (fails : Type 0) (midnight : Midnights) where
  -- A connection was served once, at a moment, and led from state `s` to state `t`. An office that represented `s` before and `t` after it
  -- answered what the connection brought. The reply or a beginning of it was written. The source and the sink failed only as the answer
  -- tells.
  pub record IsServedOnce (moment : ℤ) (e : Exchange) (s t : State) : Type 0 where
    -- the office before and after the connection, how many refusals its store had counted and counts, and how the connection was served
    pub old : OfficeView
    pub new : OfficeView
    pub counted : ℕ
    pub counts : ℕ
    pub served : Result Served ServeFault
    pub zone : midnight_of old ≡ midnight
    pub represented : Represents old s
    pub represents : Represents new t
    pub leads : LeadsTo midnight moment e.source.old s t
    pub serves : Serves e.source.old old new counted counts moment e.sink served
    pub read : CountsReading served e.source.old_failures e.source.new_failures
    pub written : CountsWriting e.sink served
    pub refused : CountsMore counted counts → fails

  -- Each connection that came was served once, in order, at the moment that the clock told for it, and only this led from the one state to
  -- the other. If no connection came, or the clock told no moment for it, the state is the same.
  abbrev pub AreServed : List Arrival → List ClockReading → State → State → Type 0
  AreServed [] [] s t = t ≡ s
  AreServed [] (r ∷ readings) s t = ⊥
  AreServed (None ∷ arrivals) readings s t = AreServed arrivals readings s t
  AreServed (Some e ∷ arrivals) [] s t = ⊥
  AreServed (Some e ∷ arrivals) (None ∷ readings) s t = IsUnserved e × AreServed arrivals readings s t
  AreServed (Some e ∷ arrivals) (Some moment ∷ readings) s t =
      (between : State) × IsServedOnce moment e s between × AreServed arrivals readings between t

-- The store may have failed only if `fails` holds. `old` is the office before the call, and `new` after it.
module _ (fails : Type 0) (old new : OfficeView) where
  -- from each state that the office represented, what came was served, and the office represents the state that this led to
  abbrev pub ServesAll : List Arrival → List ClockReading → Type 0
  ServesAll arrivals readings = (s : State) → Represents old s → (t : State) × AreServed fails (midnight_of old) arrivals readings s t × RepresentsNow old new t

  -- What came of awaiting connections leads from one state of the listener to another. What came of reading the clock leads from one state
  -- of the clock to another.
  module _ {L C : Type 0} (leads : L → List Arrival → L → Type 0) (listener listener' : L) (tells : C → List ClockReading → C → Type 0) (clock clock' : C) where
    -- `count` connections were awaited, each that came was served, and the clock was read for each that came
    pub record ServesEach (count : ℕ) : Type 0 where
      pub arrivals : List Arrival
      pub readings : List ClockReading
      pub awaited : length arrivals ≡ count
      pub came : (first : L) → leads first [] listener → leads first arrivals listener'
      pub told : (first : C) → tells first [] clock → tells first readings clock'
      pub served : ServesAll arrivals readings
