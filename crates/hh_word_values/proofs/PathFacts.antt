-- What follows the last place of a byte, and bytes that are text.
use Rattle.std.proofs.Common.{◌≡◌, ℕ, ◌-◌, ◌<◌, ◌≤◌, List, length, get_or, take, drop, true, false, cond, refl, sym, ap, ◌∙◌, arith, Some, None, eq-eqb, ne_eqb}
use Rattle.std.specs.Prelude.{◌==◌, not}
use Rattle.std.specs.List.{after_last, suffix_len}
use Rattle.std.specs.Str.{IsUtf8, is_utf8}
use Rattle.std.proofs.lemmas.List.{take_rest}
use Rattle.std.proofs.lemmas.List.Sums.{suffix_len_is}
use Rattle.std.proofs.lemmas.Str.{IsUtf8-from_is_utf8, is_utf8-from_IsUtf8}
use Rattle.hh_word_values.specs.Values.{path_value}

-- what follows the last place of a byte begins after a place that has it, if no later place has it
pub behind_last_is : (text : List ℕ) (byte start : ℕ) → start ≤ length text → ((k : ℕ) → start ≤ k → k < length text → get_or text k 0 ≡ byte → ⊥)
    → (0 < start → get_or text (start - 1) 0 ≡ byte) → take (length text - start) (drop start text) ≡ after_last (λ b. b == byte) text
behind_last_is text byte start inside later last =
    let len : suffix_len (λ b. not (b == byte)) text ≡ length text - start = suffix_len_is (λ b. not (b == byte)) text start 0 inside
    (λ k from to. ap not (ne_eqb _ _ (later k from to))) (λ some. ap not (eq-eqb _ _ (last some))) in
    take_rest text start ∙ ap (λ n. drop n text) (omega (arith, len))

-- bytes that are text, and bytes that are not
pub text_path : (word path : List ℕ) → path ≡ word → IsUtf8 word → Some path ≡ path_value word
text_path word path is good = ap Some is ∙ sym (ap (λ b. cond b (Some word) None) (is_utf8-from_IsUtf8 word good))

pub no_path : (word : List ℕ) → (IsUtf8 word → ⊥) → None ≡ path_value word
no_path word bad = elim (is_utf8 word) as (λ b. is_utf8 word ≡ b → None ≡ cond b (Some word) None) [
  | true ↦ λ e. absurd (bad (IsUtf8-from_is_utf8 word e))
  | false ↦ λ e. refl
] refl
