-- How the code represents a head.
use Rattle.std.specs.Prelude.{◌≡◌, ℕ, List, [], ◌∷◌, false, map, Option, Some, None, option_map}
use Rattle.std.specs.Borrow.{Bor}
use Rattle.httparse.specs.Spans.{header_bytes}
use Rattle.hh_http_heads.specs.declared.terms.Terms.{Terms}
use Rattle.hh_http_heads.specs.declared.head.WholeHead.{WholeHead}
use Rattle.hh_http_heads.specs.Headings.{Heading, is_bad, key_shown, length_given}
use Rattle.hh_http_heads.specs.Lengths.{saturated}

-- what a head says
abbrev pub heading_in : WholeHead → Heading
heading_in w = record { method = w.method.now; target = w.target.now; minor = w.minor; headers = map (header_bytes w.bytes.now) w.headers.now }

-- a value, if there is one, as a list
abbrev pub listed : Option (Bor (List ℕ)) → List (List ℕ)
listed None = []
listed (Some value) = value.now ∷ []

-- the head keeps the rules, and these are its key and its length
pub record HoldsTerms (h : Heading) (t : Terms) : Type 0 where
  pub kept : is_bad h ≡ false
  pub key : t.key.now ≡ key_shown h
  pub length : t.length ≡ option_map saturated (length_given h)
