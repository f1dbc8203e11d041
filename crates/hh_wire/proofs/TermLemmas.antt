-- What a head asks, by its terms.
use Rattle.std.proofs.Common.{◌≡◌, ◌∙◌, ℕ, ◌≤◌, List, ◌++◌, length, take, false, Option, Some, None, option_map, IfSome, Result, Ok, Err, refl, sym, ap, subst, arith}
use Rattle.std.specs.Prelude.{nat_lt, unwrap_or}
use Rattle.std.specs.Result.{IsErrAnd}
use Rattle.std.proofs.lemmas.Bool.Decides.{nat_tests}
use Rattle.hh_requests.specs.declared.request.Request.{Request}
use Rattle.hh_http_heads.specs.Heads.{HoldsTerms}
use Rattle.hh_http_heads.specs.Headings.{Heading, length_given, length_of}
use Rattle.hh_http_heads.specs.Lengths.{saturated}
use Rattle.hh_http_heads.specs.declared.terms.Terms.{Terms}
use Rattle.hh_http_replies.specs.declared.refusal.RequestRefusal.{RequestRefusal}
use Rattle.hh_wire.specs.Behind.{Asks, ReadsBehind}
use Rattle.hh_wire.specs.Message.{Message, asked_by, asked_with}
use Rattle.hh_wire.specs.declared.stop.Stop.{Stop}
use Rattle.hh_wire.specs.declared.stop.Stop.TheVariants.{Refused}

unwrap_saturated : (o : Option ℕ) → unwrap_or (option_map saturated o) 0 ≡ saturated (unwrap_or o 0)
unwrap_saturated None = let zero : 0 ≡ saturated 0 = omega arith in zero
unwrap_saturated (Some n) = refl

-- the length of a body that is not too long
size_is : (h : Heading) (t : Terms) (size : ℕ) → HoldsTerms h t → size ≡ unwrap_or t.length 0 → size ≤ 1_048_576 → length_of h ≡ size
size_is h t size holds is small =
    let known : size ≡ saturated (length_of h) = is ∙ ap (λ (o : Option ℕ). unwrap_or o 0) holds.length ∙ unwrap_saturated (length_given h) in
    omega arith

-- if a head keeps the rules and its body is whole, it asks with its body
pub asks_whole : (h : Heading) (t : Terms) (size : ℕ) (rest body : List ℕ) → HoldsTerms h t → size ≡ unwrap_or t.length 0 → size ≤ 1_048_576
    → (size ≤ length rest) × (body ≡ take size rest) → asked_by h rest ≡ asked_with h body
asks_whole h t size rest body holds is small whole =
    let same : length_of h ≡ size = size_is h t size holds is small in
    let fits : nat_lt 1_048_576 (length_of h) ≡ false = grind (arith, nat_tests) in
    let enough : nat_lt (length rest) (length_of h) ≡ false = grind (arith, nat_tests) in
    rw (holds.kept, fits, enough) (ap (asked_with h) (ap (λ (n : ℕ). take n rest) same ∙ sym whole.1))

-- so what comes of its body comes of the bytes after it
pub comes_whole : (known : Option (List ℕ)) (h : Heading) (t : Terms) (size : ℕ) (behind body : List ℕ) (result : Result Request Stop) → HoldsTerms h t → size ≡ unwrap_or t.length 0
    → size ≤ 1_048_576 → IfSome known (λ rest. (size ≤ length (behind ++ rest)) × (body ≡ take size (behind ++ rest))) → ReadsBehind h (asked_with h body) result
    → IfSome known (λ rest. ReadsBehind h (asked_by h (behind ++ rest)) result)
comes_whole None h t size behind body result holds is small whole comes = tt
comes_whole (Some rest) h t size behind body result holds is small whole comes =
    subst (λ (m : Message). ReadsBehind h m result) (sym (asks_whole h t size (behind ++ rest) body holds is small whole)) comes

-- if what a head asks is refused, reading ends with that refusal
pub comes_refused : (h : Heading) (message : Message) (cause : RequestRefusal) (result : Result Request Stop) → IsErrAnd result (λ stop. stop ≡ Refused cause)
    → Asks h message (Err cause) → ReadsBehind h message result
comes_refused h message cause (Ok request) is asks = absurd is
comes_refused h message cause (Err stop) is asks = subst (λ (s : Stop). ReadsBehind h message (Err s)) (sym is) asks
