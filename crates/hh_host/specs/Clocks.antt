-- What comes of reading a clock.
use Rattle.std.specs.Prelude.{◌≡◌, ℤ, List, [], ◌∷◌, ◌++◌, Option, Some, None, Result, Ok, Err}
use Rattle.hh_host.specs.declared.clock.ClockFailed.{ClockFailed}
use Rattle.hh_host.specs.declared.clock.FixedClock.{FixedClock}

-- what comes of reading a clock: a moment, or None if it tells none
abbrev pub ClockReading : Type 0
ClockReading = Option ℤ

-- what came of one reading
abbrev pub reading : Result ℤ ClockFailed → ClockReading
reading (Ok moment) = Some moment
reading (Err failed) = None

-- What came of reading a clock leads from one state of it to another. A call that leads from one state to another has read it once more.
abbrev pub IsReadOnce : {C : Type 0} → (C → List ClockReading → C → Type 0) → C → C → Result ℤ ClockFailed → Type 0
IsReadOnce {C} leads old new result = (first : C) (readings : List ClockReading) → leads first readings old → leads first (readings ++ reading result ∷ []) new

-- each reading told this moment
abbrev pub AllTell : ℤ → List ClockReading → Type 0
AllTell moment [] = Unit {0}
AllTell moment (r ∷ readings) = (r ≡ Some moment) × AllTell moment readings

-- a clock that always tells the same moment does not change
abbrev pub fixed_leads : FixedClock → List ClockReading → FixedClock → Type 0
fixed_leads first readings last = AllTell first.moment readings × (last ≡ first)
