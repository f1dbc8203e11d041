-- What comes of one more connection, as the contracts of private functions say it.
use Rattle.std.specs.Prelude.{List, [], ◌∷◌, ◌++◌, Some}
use Rattle.hh_http_serve.specs.Views.{OfficeView}
use Rattle.hh_sockets.specs.Arrivals.{Arrival, Exchange}
use Rattle.hh_host.specs.Clocks.{ClockReading}
use Rattle.hh_desk.specs.Serving.{ServesAll}

-- The store may have failed only if `fails` holds. `old` is the office before the call, and `new` after it.
module _ (fails : Type 0) (old new : OfficeView) where
  -- A connection that came was served, and the clock was read for it. What came of reading the clock leads from one state of it to another.
  pub record ServesNow (e : Exchange) {C : Type 0} (tells : C → List ClockReading → C → Type 0) (clock clock' : C) : Type 0 where
    pub reading : ClockReading
    pub told : (first : C) (earlier : List ClockReading) → tells first earlier clock → tells first (earlier ++ reading ∷ []) clock'
    pub served : ServesAll fails old new (Some e ∷ []) (reading ∷ [])

  -- What came of awaiting connections leads from one state of the listener to another. What came of reading the clock leads from one state
  -- of the clock to another.
  module _ {L C : Type 0} (leads : L → List Arrival → L → Type 0) (listener listener' : L) (tells : C → List ClockReading → C → Type 0) (clock clock' : C) where
    -- one more connection was awaited, and it was served if it came
    pub record ServesNext : Type 0 where
      pub arrival : Arrival
      pub readings : List ClockReading
      pub came : (first : L) (earlier : List Arrival) → leads first earlier listener → leads first (earlier ++ arrival ∷ []) listener'
      pub told : (first : C) (earlier : List ClockReading) → tells first earlier clock → tells first (earlier ++ readings) clock'
      pub served : ServesAll fails old new (arrival ∷ []) readings
