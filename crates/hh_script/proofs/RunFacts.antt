-- The words after `run`, one after the other.
use Rattle.std.proofs.Common.{◌≡◌, ℕ, ◌<◌, List, [], ◌∷◌, length, refl, sym, ap, ◌∙◌, arith, None}
use Rattle.hh_script.specs.Steps.{run_value}

-- a run has no fifth word
too_many : (a b c : List ℕ) (words : List (List ℕ)) → 1 < length words → run_value (a ∷ b ∷ c ∷ words) ≡ None
too_many a b c [] more = absurd (omega arith)
too_many a b c (d ∷ []) more = absurd (omega arith)
too_many a b c (d ∷ e ∷ words) more = refl

-- so words with more than one after the third are no run
pub five_words : (words : List (List ℕ)) (a : List ℕ) (second : List (List ℕ)) → words ≡ a ∷ second → (b : List ℕ) (third : List (List ℕ)) → second ≡ b ∷ third
    → (c : List ℕ) (fourth : List (List ℕ)) → third ≡ c ∷ fourth → 1 < length fourth → None ≡ run_value words
five_words words a second first_is b third second_is c fourth third_is more =
    sym (ap run_value (first_is ∙ ap (λ ws. a ∷ ws) (second_is ∙ ap (λ ws. b ∷ ws) third_is)) ∙ too_many a b c fourth more)
