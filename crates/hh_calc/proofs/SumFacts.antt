-- Sums in the machine's words.
use Rattle.std.proofs.Common.{◌≡◌, ℕ, ◌+◌, ◌*◌, ◌^◌, ◌≤◌, ap, ◌∙◌, arith, add-one}
use Rattle.std.specs.Prelude.{ℤ, ◌+ℤ◌, unsigned_abs}
use Rattle.std.proofs.Math.Nat.{suc-mul}
use Rattle.std.proofs.lemmas.Int.{ints}
use Rattle.hh_calc.specs.steps.Sums.{greatest_credit, greatest_sum}
use Rattle.hh_calc.proofs.WordFacts.{long_word, word}

pub sum_word : (held amount : ℤ) → unsigned_abs held ≤ 2 * greatest_sum → unsigned_abs amount ≤ greatest_credit → word (word held +ℤ word amount) ≡ held +ℤ amount
sum_word held amount few small =
    let both : unsigned_abs (held +ℤ amount) ≤ 15 * 10 ^ 37 = omega (arith, ints) in
    (λ i. word (long_word held (omega arith) i +ℤ long_word amount (omega arith) i)) ∙ long_word (held +ℤ amount) both

-- the sum of net volumes as the machine's words compute it
pub nets_word : (held wide sum net : ℤ) → held ≡ sum → wide ≡ net → unsigned_abs sum ≤ 10 ^ 35 → unsigned_abs net ≤ 10 ^ 11
    → word (held +ℤ word wide) ≡ sum +ℤ net
nets_word held wide sum net same same' small small' =
    let both : unsigned_abs (sum +ℤ net) ≤ 15 * 10 ^ 37 = omega (arith, ints) in
    (λ i. word (same i +ℤ word (same' i)))
    ∙ ap (λ z. word (sum +ℤ z)) (long_word net (omega arith))
    ∙ long_word (sum +ℤ net) both

pub nets_size : (i : ℕ) (sum net : ℤ) → unsigned_abs sum ≤ i * 10 ^ 11 → unsigned_abs net ≤ 10 ^ 11 → unsigned_abs (sum +ℤ net) ≤ (i + 1) * 10 ^ 11
nets_size i sum net small le = rw (add-one, suc-mul i (10 ^ 11)) (omega (arith, ints))
