-- How the connections of a command are served.
use Rattle.std.specs.Prelude.{◌≡◌, List, [], length}
use Rattle.hh_http_serve.specs.Views.{OfficeView}
use Rattle.hh_sockets.specs.Arrivals.{Arrival}
use Rattle.hh_host.specs.Clocks.{ClockReading}
use Rattle.hh_desk.specs.Serving.{ServesAll}
use Rattle.hh_desk.specs.declared.errand.Serving.{Serving}
use Rattle.hh_desk.specs.Errands.{TellAt}

-- As many connections were awaited as were asked for, and each that came was served. The store may have failed only if `fails` holds. `old`
-- is the office before the call, and `new` after it. What came of awaiting connections leads from one state of the listener to another.
pub record ServesAt (fails : Type 0) (old new : OfficeView) {L : Type 0} (leads : L → List Arrival → L → Type 0) (listener listener' : L) (serve : Serving) : Type 0 where
  pub arrivals : List Arrival
  pub readings : List ClockReading
  pub awaited : length arrivals ≡ serve.count
  pub came : (first : L) → leads first [] listener → leads first arrivals listener'
  pub told : TellAt serve.at readings
  pub served : ServesAll fails old new arrivals readings
