-- The bytes that went out, after several writes.
use Rattle.std.proofs.Common.{◌≡◌, ℕ, ◌-◌, ◌≤◌, ◌<◌, List, ◌++◌, length, take, drop, Option, Some, None, sym, ap, ◌∙◌, arith, append_assoc, MatchBool, eqb, ◌+◌, length-take, length-drop}
use Rattle.std.proofs.lemmas.Bool.{ne_eqb}
use Rattle.std.proofs.lemmas.Grind.{common_steps}
use Rattle.std.specs.Io.KnownBytes.{Appends}

pub Appends-more : (a b c : Option (List ℕ)) (front more : List ℕ) → Appends a b front → Appends b c more → Appends a c (front ++ more)
Appends-more None b c front more h k = tt
Appends-more (Some x) None c front more h k = absurd h
Appends-more (Some x) (Some y) None front more h k = absurd k
Appends-more (Some x) (Some y) (Some z) front more h k = rw (k, h) (append_assoc x front more)

-- after one more write of n bytes of the rest
pub sent-more : (a b c : Option (List ℕ)) (bytes rest front : List ℕ) (n : ℕ) → n ≤ length rest → bytes ≡ front ++ rest → Appends a b front → Appends b c (take n rest)
    → (x : List ℕ) × (bytes ≡ x ++ take (length rest - n) (drop n rest)) × Appends a c x
sent-more a b c bytes rest front n le e h k =
    let cut : rest ≡ take n rest ++ take (length rest - n) (drop n rest) = grind (arith, common_steps) in
    (front ++ take n rest, e ∙ ap (λ s. front ++ s) cut ∙ sym (append_assoc front (take n rest) _), Appends-more a b c front (take n rest) h k)

pub counted : (n : ℕ) (P Q : Type 0) → 0 < n → MatchBool (eqb n 0) P Q → Q
counted n P Q some h = rw (ne_eqb n 0 (λ e. omega arith)) at h

-- a sink that was sure to take so many bytes beyond the rest is sure of as many after one more write of n bytes
pub still-sure : (rest : List ℕ) (bytes a b c n : ℕ) → 0 < n → n ≤ length rest → bytes ≤ a → a + length rest ≤ b + bytes
    → (0 < length rest → 0 < b → (0 < n) × (b ≤ c + n)) → a + length (take (length rest - n) (drop n rest)) ≤ c + bytes
still-sure rest bytes a b c n some le all h step =
    let kept = step (omega arith) (omega arith) in
    let fewer : b ≤ c + n = kept.1 in
    simp (length-take, length-drop) (omega arith)
