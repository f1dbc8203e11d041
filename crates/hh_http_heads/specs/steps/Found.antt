-- What the parser of requests says about the bytes that it was given.
use Rattle.std.specs.Prelude.{ℕ, List}
use Rattle.httparse.specs.Grammar.{HasNoRequest, MayBecomeRequest}
use Rattle.httparse.specs.Spans.{IsRequestOf, IsRequestWithin, RequestOverflows}
use Rattle.httparse.specs.declared.spans.HeaderSpan.{HeaderSpan}
use Rattle.hh_http_heads.specs.declared.front.Parsed.{Parsed}
use Rattle.hh_http_heads.specs.declared.front.Parsed.TheVariants.{Whole, Part, Refused}

-- what the parser says about bytes, with room for `room` headers
abbrev pub Parses : List ℕ → ℕ → List HeaderSpan → Parsed → Type 0
Parses bytes room headers (Whole spans) = IsRequestWithin bytes headers spans × IsRequestOf bytes headers spans
Parses bytes room headers Part = HasNoRequest bytes × MayBecomeRequest bytes
Parses bytes room headers Refused = RequestOverflows room bytes
