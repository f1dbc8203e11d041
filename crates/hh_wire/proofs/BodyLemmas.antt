-- Bodies whose first bytes are at hand.
use Rattle.std.proofs.Common.{◌≡◌, ◌∙◌, ℕ, ◌≤◌, ◌<◌, min, Bool, true, ◌⊎◌, inl, inr, Result, Ok, Err, OnErr, List, ◌++◌, length, take, Option, Some, None, IfSome, sym, ap, subst, arith}
use Rattle.std.proofs.lemmas.Bool.{cases_lt}
use Rattle.std.proofs.lemmas.List.{length-append, length-take, take-append-le, take_all, take_at}
use Rattle.std.specs.Io.KnownBytes.{Consumes, prepend_known}
use Rattle.hh_http_heads.specs.Found.{HasGiven}
use Rattle.hh_wire.specs.steps.Stops.{Fills, FallsShort}

-- a buffer that is filled with the bytes at hand and the rest, by whether those at hand are enough
module _ (behind rest items after : List ℕ) (size : ℕ) (long : length items ≡ size) (same : take (min (length behind) size) behind ++ rest ≡ items ++ after) where
  by_length : (length behind < size) ⊎ (size ≤ length behind) → (size ≤ length (behind ++ rest)) × (items ≡ take size (behind ++ rest))
  by_length (inl few) =
      let all : take (min (length behind) size) behind ≡ behind = take_all (min (length behind) size) behind (omega arith) in
      let text : behind ++ rest ≡ items ++ after = sym (ap (λ (t : List ℕ). t ++ rest) all) ∙ same in
      (omega (arith, ap length text, length-append items after), sym (ap (take size) text ∙ take_at items after size long))
  by_length (inr enough) =
      let least : min (length behind) size ≡ size = omega arith in
      let front : take size behind ++ rest ≡ items ++ after = ap (λ (m : ℕ). take m behind ++ rest) (sym least) ∙ same in
      let first : take size behind ≡ items =
      sym (take_at (take size behind) rest size (omega (arith, length-take size behind))) ∙ ap (take size) front ∙ take_at items after size long in
      (omega (arith, length-append behind rest), sym first ∙ sym (take-append-le size behind rest enough))

-- if a body was filled whole, there are enough bytes, and what is written back is the beginning of the bytes
pub filled_whole : (known : Option (List ℕ)) (behind items old final : List ℕ) (size len count : ℕ) (b : Bool) → b ≡ true → count ≡ min (length behind) size
    → length items ≡ size → length items ≡ len → final ≡ take len (items ++ old) → IfSome known (λ rest. Fills (take count behind ++ rest) items b)
    → IfSome known (λ rest. (size ≤ length (behind ++ rest)) × (final ≡ take size (behind ++ rest)))
filled_whole None behind items old final size len count b is least long fits final_is fills = tt
filled_whole (Some rest) behind items old final size len count b is least long fits final_is fills =
    let (after, same) = subst (λ (b : Bool). Fills (take count behind ++ rest) items b) is fills in
    let whole = by_length behind rest items after size long (ap (λ (m : ℕ). take m behind ++ rest) (sym least) ∙ same) (cases_lt (length behind) size) in
    (whole.0, final_is ∙ take_at items old len fits ∙ whole.1)

-- a fact that holds also holds if a call fails
pub on_err : {X E : Type 0} (r : Result X E) (Fact : Type 0) → Fact → OnErr r Fact
on_err (Ok x) Fact fact = tt
on_err (Err e) Fact fact = fact
