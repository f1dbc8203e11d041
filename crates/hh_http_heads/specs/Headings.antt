-- What the head of a request says, and the rules that it must keep.
use Rattle.std.specs.Prelude.{ℕ, ◌==◌, nat_lt, List, [], ◌∷◌, length, map, filter, Bool, not, ◌&&◌, ◌||◌, Option, Some, None, option_map, unwrap_or, codes, bytes_eq}
use Rattle.std.specs.List.{list_all}
use Rattle.std.specs.Str.{str_eq_ignore_ascii_case}
use Rattle.std.specs.Str.Parse.{digits_value}
use Rattle.httparse.specs.Grammar.{RequestHead}
use Rattle.httparse.specs.Spans.{name_and_value}
use Rattle.hh_num.specs.Fixed.{are_digits}

-- a header: its name, and its value without blanks at its ends
abbrev pub Header : Type 0
Header = List ℕ × List ℕ

-- what a head says: its method, its target, the minor version of HTTP/1, and its headers
pub record Heading : Type 0 where
  pub method : List ℕ
  pub target : List ℕ
  pub minor : ℕ
  pub headers : List Header

-- what the head that the bytes spell says
abbrev pub heading_of : RequestHead → Heading
heading_of head = record { method = head.method; target = head.target; minor = head.minor; headers = map name_and_value head.fields }

-- the values of the headers with a name, in order; names are compared without case
abbrev pub values_in : List ℕ → List Header → List (List ℕ)
values_in name headers = map (λ header. header.1) (filter (λ header. str_eq_ignore_ascii_case header.0 name) headers)

abbrev pub is_none_of : {A : Type 0} → List A → Bool
is_none_of xs = length xs == 0

abbrev pub are_several : {A : Type 0} → List A → Bool
are_several xs = nat_lt 1 (length xs)

abbrev pub first_of : {A : Type 0} → List A → Option A
first_of [] = None
first_of (x ∷ xs) = Some x

module _ (h : Heading) where
  abbrev pub hosts : List (List ℕ)
  hosts = values_in (codes "host") h.headers

  abbrev pub keys : List (List ℕ)
  keys = values_in (codes "x-office-key") h.headers

  abbrev pub lengths : List (List ℕ)
  lengths = values_in (codes "content-length") h.headers

  abbrev pub codings : List (List ℕ)
  codings = values_in (codes "transfer-encoding") h.headers

  -- a rule is broken: HTTP/1.1 without its Host, a header twice that may occur once, a length that is no number, or a coded body
  abbrev pub is_bad : Bool
  is_bad =
      ((h.minor == 1) && is_none_of hosts) || are_several hosts || are_several keys || are_several lengths
      || not (list_all are_digits lengths) || not (is_none_of codings)

  -- the key that is shown; it is empty if there is none
  abbrev pub key_shown : List ℕ
  key_shown = unwrap_or (first_of keys) []

  -- the length of the body, if it is given
  abbrev pub length_given : Option ℕ
  length_given = option_map (digits_value 10) (first_of lengths)

  -- the length of the body
  abbrev pub length_of : ℕ
  length_of = unwrap_or length_given 0

  -- the method HEAD asks only for the head of a reply
  abbrev pub asks_head : Bool
  asks_head = bytes_eq h.method (codes "HEAD")
