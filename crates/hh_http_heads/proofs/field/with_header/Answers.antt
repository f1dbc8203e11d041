use Rattle.std.proofs.Common.{◌≡◌, ◌∙◌, sym, ap, true, List, ℕ}
use Rattle.std.specs.Str.{str_eq_ignore_ascii_case}
use Rattle.httparse.specs.Spans.{span_bytes}
use Rattle.hh_http_heads.proofs.field.with_header.Goals as goal

pub returns-then-has_name : goal.returns-then-has_name
returns-then-has_name c =
    let named : str_eq_ignore_ascii_case (span_bytes c.args.bytes.now c.args.header.now.name) c.args.name.now ≡ true =
    ap (λ (t : List ℕ). str_eq_ignore_ascii_case t c.args.name.now) (sym c.of.ensures) ∙ sym c.has_name.ensures ∙ c.if-has_name.true in
    λ values is. rw (named, ← c.of-then-has_name.ensures) (c.with_value.ensures values is)
