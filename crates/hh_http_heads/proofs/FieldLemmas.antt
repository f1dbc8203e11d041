-- The values of headers, one header after the other.
use Rattle.std.proofs.Common.{◌≡◌, ◌∙◌, ℕ, ◌+◌, ◌<◌, List, [], ◌∷◌, ◌++◌, map, take, length, get_or, sym, ap, subst}
use Rattle.std.proofs.lemmas.List.{map-append, take_more}
use Rattle.std.proofs.lemmas.List.Elements.{filter-append}
use Rattle.std.specs.Str.{str_eq_ignore_ascii_case}
use Rattle.httparse.specs.Spans.{header_bytes}
use Rattle.httparse.specs.declared.spans.HeaderSpan.{HeaderSpan}
use Rattle.hh_http_heads.specs.steps.Fields.{IsField}
use Rattle.hh_http_heads.specs.Headings.{Header, values_in}
use Rattle.hh_http_heads.specs.declared.field.Field.{Field}

values_in-append : (name : List ℕ) (xs ys : List Header) → values_in name (xs ++ ys) ≡ values_in name xs ++ values_in name ys
values_in-append name xs ys =
    ap (map (λ (h : Header). h.1)) (filter-append (λ (h : Header). str_eq_ignore_ascii_case h.0 name) xs ys) ∙ map-append (λ (h : Header). h.1) _ _

-- one more header
pub field_more : (bytes name : List ℕ) (headers : List HeaderSpan) (i : ℕ) (h d : HeaderSpan) (f : Field) → i < length headers → h ≡ get_or headers i d
    → IsField (values_in name (map (header_bytes bytes) (take i headers)) ++ values_in name (header_bytes bytes h ∷ [])) f
    → IsField (values_in name (map (header_bytes bytes) (take (i + 1) headers))) f
field_more bytes name headers i h d f below is found =
    let more : map (header_bytes bytes) (take (i + 1) headers) ≡ map (header_bytes bytes) (take i headers) ++ header_bytes bytes h ∷ [] =
    ap (map (header_bytes bytes)) (take_more headers i d below ∙ ap (λ (x : HeaderSpan). take i headers ++ x ∷ []) (sym is))
    ∙ map-append (header_bytes bytes) (take i headers) (h ∷ []) in
    subst (λ (values : List (List ℕ)). IsField values f)
    (sym (ap (values_in name) more ∙ values_in-append name (map (header_bytes bytes) (take i headers)) (header_bytes bytes h ∷ []))) found
