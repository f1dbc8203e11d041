-- The head of a request at the beginning of bytes (RFC 9112, by the grammar of the crate httparse), within the limits.
use Rattle.std.specs.Prelude.{ℕ, ◌<◌, ◌≤◌, List, length}
use Rattle.httparse.specs.Grammar.{RequestHead, print_request, HasNoRequest, MayBecomeRequest, ReadsRequest}

-- the most bytes of a head, with its empty line and the empty lines before it
abbrev pub most_head_bytes : ℕ
most_head_bytes = 8_192

-- the most headers of a head
abbrev pub most_headers : ℕ
most_headers = 32

-- bytes begin with a head within the limits, and `rest` follows it
pub record IsFront (bytes : List ℕ) (head : RequestHead) (rest : List ℕ) : Type 0 where
  pub reads : ReadsRequest bytes head rest
  pub short : length (print_request head) ≤ most_head_bytes
  pub few : length head.fields ≤ most_headers

-- bytes begin with no such head
abbrev pub HasNoFront : List ℕ → Type 0
HasNoFront bytes = (head : RequestHead) (rest : List ℕ) → ¬ (IsFront bytes head rest)

-- bytes are the beginning of a head: they contain no whole head yet, more bytes may make them one, and there is room for more
pub record AwaitsHead (bytes : List ℕ) : Type 0 where
  pub none : HasNoRequest bytes
  pub may : MayBecomeRequest bytes
  pub short : length bytes < most_head_bytes
