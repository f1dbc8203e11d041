-- What readings tell of a clock that always tells the same moment.
use Rattle.std.proofs.Common.{◌≡◌, ℤ, List, [], ◌∷◌, ◌++◌, Some}
use Rattle.hh_host.specs.Clocks.{AllTell, ClockReading}

-- one more reading
pub tell_more : (moment : ℤ) (readings : List ClockReading) (r : ClockReading) → AllTell moment readings → r ≡ Some moment → AllTell moment (readings ++ r ∷ [])
tell_more moment [] r all is = (is, tt)
tell_more moment (first ∷ readings) r (told, all) is = (told, tell_more moment readings r all is)
