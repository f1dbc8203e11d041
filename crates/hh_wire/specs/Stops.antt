-- What is known if reading ends before a request is whole: the count of the source's failures, and what the source gave.
use Rattle.std.specs.Prelude.{◌≡◌, ℕ, List, Option, Result, Ok, Err}
use Rattle.hh_devices.specs.Devices.{Failed}
use Rattle.hh_http_heads.specs.Found.{HasGiven}
use Rattle.hh_wire.specs.declared.stop.Stop.{Stop}
use Rattle.hh_wire.specs.declared.stop.Stop.TheVariants.{Read, Refused}

-- a call counts one failure if it answers that a read failed, and otherwise none
abbrev pub CountsStop : {X : Type 0} → Result X Stop → ℕ → ℕ → Type 0
CountsStop (Ok x) old new = new ≡ old
CountsStop (Err Read) old new = Failed old new
CountsStop (Err (Refused r)) old new = new ≡ old

-- if a read failed, what was given until then is of this kind
abbrev pub StopsWith : {X : Type 0} → (List ℕ → Type 0) → Result X Stop → Option (List ℕ) → Option (List ℕ) → Type 0
StopsWith Is (Ok x) old new = Unit {0}
StopsWith Is (Err Read) old new = HasGiven Is old new
StopsWith Is (Err (Refused r)) old new = Unit {0}
