-- What the buffer of a body contains while it is filled.
use Rattle.std.specs.Prelude.{◌≡◌, ℕ, ◌<◌, ◌≤◌, Bool, true, false, List, ◌++◌, length, take, Result, Ok, Err}
use Rattle.std.specs.declared.vec.Vec.{Vec}
use Rattle.hh_http_replies.specs.declared.refusal.RequestRefusal.TheVariants as refusal
use Rattle.hh_wire.specs.declared.stop.Stop.{Stop}
use Rattle.hh_wire.specs.declared.stop.Stop.TheVariants.{Read, Refused}

-- bytes begin with those of a buffer, or there are fewer of them
abbrev pub Fills : List ℕ → List ℕ → Bool → Type 0
Fills bytes buffer true = (after : List ℕ) × (bytes ≡ buffer ++ after)
Fills bytes buffer false = length bytes < length buffer

-- the first `len` of these bytes; or a refusal, if there are fewer or if memory is refused
abbrev pub ReadsBody : {A : Type 0} → List ℕ → ℕ → Result (Vec ℕ A) Stop → Type 0
ReadsBody bytes len (Ok body) = (len ≤ length bytes) × (body.items ≡ take len bytes)
ReadsBody bytes len (Err Read) = Unit {0}
ReadsBody bytes len (Err (Refused refusal.Memory)) = Unit {0}
ReadsBody bytes len (Err (Refused refusal.BadRequest)) = length bytes < len
ReadsBody bytes len (Err (Refused _)) = ⊥

-- at least `at_hand` bytes, but fewer than a body has
abbrev pub FallsShort : ℕ → ℕ → List ℕ → Type 0
FallsShort at_hand size bytes = (at_hand ≤ length bytes) × (length bytes < size)
