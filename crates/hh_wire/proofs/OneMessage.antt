-- Bytes ask at most one thing.
use Rattle.std.proofs.Common.{◌≡◌, ◌∙◌, ℕ, ◌<◌, List, [], ◌++◌, length, inl, inr, sym, ap, arith}
use Rattle.std.proofs.lemmas.List.{length-append}
use Rattle.httparse.proofs.GrammarLemmas.{request_unique}
use Rattle.httparse.specs.Grammar.{RequestHead, print_request}
use Rattle.hh_http_heads.specs.Fronts.{IsFront}
use Rattle.hh_http_heads.specs.Headings.{heading_of}
use Rattle.hh_wire.specs.Message.{IsMessage, Message, asked_by}

-- a head has some bytes
some_bytes : (h : RequestHead) → 0 < length (print_request h)
unfolding print_request
some_bytes h = simp length-append (omega arith)

-- no head is at the beginning of no bytes
none_ahead : (bytes : List ℕ) → bytes ≡ [] → (h : RequestHead) (rest : List ℕ) → IsFront bytes h rest → ⊥
none_ahead bytes empty h rest is =
    let none : length (print_request h ++ rest) ≡ 0 = ap length (sym is.reads.1 ∙ empty) in
    let some : 0 < length (print_request h) = some_bytes h in
    omega (arith, length-append (print_request h) rest)

pub one_message : (bytes : List ℕ) (first second : Message) → IsMessage bytes first → IsMessage bytes second → first ≡ second
one_message bytes first second (inl (none, is)) (inl (also, same)) = is ∙ sym same
one_message bytes first second (inl (none, is)) (inr (inr (some, free, same))) = absurd (some none)
one_message bytes first second (inr (inr (some, free, is))) (inl (none, same)) = absurd (some none)
one_message bytes first second (inr (inr (some, free, is))) (inr (inr (also, clear, same))) = is ∙ sym same
one_message bytes first second (inl (none, is)) (inr (inl (h, rest, front, same))) = absurd (none_ahead bytes none h rest front)
one_message bytes first second (inr (inl (h, rest, front, is))) (inl (none, same)) = absurd (none_ahead bytes none h rest front)
one_message bytes first second (inr (inl (h, rest, front, is))) (inr (inr (some, free, same))) = absurd (free h rest front)
one_message bytes first second (inr (inr (some, free, is))) (inr (inl (h, rest, front, same))) = absurd (free h rest front)
one_message bytes first second (inr (inl (h, rest, front, is))) (inr (inl (k, more, also, same))) =
    let (heads, rests) = request_unique bytes h k rest more front.reads also.reads in
    is ∙ ap (λ (g : RequestHead). asked_by (heading_of g) rest) heads ∙ ap (asked_by (heading_of k)) rests ∙ sym same
