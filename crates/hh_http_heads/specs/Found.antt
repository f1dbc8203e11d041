-- What is found at the beginning of what a source gives, in a buffer into which it was read.
use Rattle.std.specs.Prelude.{◌≡◌, ◌≢◌, ℕ, ◌≤◌, List, [], length, take, Option, IfSome}
use Rattle.std.specs.Io.KnownBytes.{Consumes}
use Rattle.httparse.specs.Spans.{IsRequestOf, IsRequestWithin}
use Rattle.httparse.specs.declared.spans.HeaderSpan.{HeaderSpan}
use Rattle.httparse.specs.declared.spans.RequestSpans.{RequestSpans}
use Rattle.hh_http_heads.specs.Fronts.{HasNoFront}
use Rattle.hh_http_heads.specs.declared.front.Front.{Front}
use Rattle.hh_http_heads.specs.declared.front.Front.TheVariants.{Nothing, NoHead, Head}

-- what a source gave between two states is of this kind
abbrev pub HasGiven : (List ℕ → Type 0) → Option (List ℕ) → Option (List ℕ) → Type 0
HasGiven Is old new = (given : List ℕ) × Consumes old new given × Is given

-- the spans describe a head at the beginning of what was read
pub record FindsHead (old new : Option (List ℕ)) (buffer : List ℕ) (headers : List HeaderSpan) (read : ℕ) (spans : RequestSpans) : Type 0 where
  pub fits : read ≤ length buffer
  pub taken : Consumes old new (take read buffer)
  pub room : IsRequestWithin (take read buffer) headers spans
  pub head : IsRequestOf (take read buffer) headers spans

-- `old` are the bytes of a source before, and `new` after.
module _ (old new : Option (List ℕ)) (buffer : List ℕ) (headers : List HeaderSpan) where
  -- what is at the beginning of what the source had
  abbrev pub FindsFront : Front → Type 0
  FindsFront Nothing = IfSome old (λ bytes. bytes ≡ [])
  FindsFront NoHead = IfSome old (λ bytes. (bytes ≢ []) × HasNoFront bytes)
  FindsFront (Head read spans) = FindsHead old new buffer headers read spans
