-- Sums of 64-bit amounts, computed with 128 bits.
use Rattle.std.proofs.Common.{◌≡◌, ℕ, ◌+◌, ◌*◌, ◌^◌, ◌≤◌, ◌<◌, sym, ap, subst, ◌∙◌, arith, FitsSigned, to_z, of_z}
use Rattle.std.specs.Prelude.{ℤ, ◌+ℤ◌, unsigned_abs}
use Rattle.std.specs.Int.{w64, w128}
use Rattle.std.proofs.lemmas.Int.{ints, to_z-of_z}
use Rattle.hh_num.specs.Quantities.{amounts_of_cash}
use Rattle.hh_num.specs.Ranges.{IsBetween}

-- a number as a word of 128 bits
abbrev pub word : ℤ → ℤ
word x = to_z w128 (of_z w128 x)

-- an amount of cash stays the same in a longer word
pub widened : (amount units long : ℤ) → IsBetween amounts_of_cash.least amounts_of_cash.most amount → units ≡ amount → long ≡ to_z w64 (of_z w64 units) → long ≡ amount
widened amount units long (low, high) same is =
    let fits : FitsSigned w64 amount = omega (arith, ints) in
    is ∙ ap (λ z. to_z w64 (of_z w64 z)) same ∙ to_z-of_z w64 amount fits

-- one more amount is added to a sum of i amounts
module _ (held amount long : ℤ) (i : ℕ) (small : unsigned_abs held ≤ i * 2 ^ 63) (few : i + 1 < 2 ^ 64) (within : IsBetween amounts_of_cash.least amounts_of_cash.most amount) (same : long ≡ amount) where
  -- the sum is at most as great as i + 1 amounts
  sum_small : unsigned_abs (held +ℤ amount) ≤ (i + 1) * 2 ^ 63
  sum_small = let low = within.0 in let high = within.1 in omega (arith, ints)

  -- the amount as a longer word
  held_amount : word long ≡ amount
  held_amount =
      let low = within.0 in
      let high = within.1 in
      let fits : FitsSigned w128 amount = omega (arith, ints) in
      ap word same ∙ to_z-of_z w128 amount fits

  -- the sum fits the longer word
  pub sum_fits : FitsSigned w128 (held +ℤ word long)
  sum_fits =
      let most = sum_small in
      let fits : FitsSigned w128 (held +ℤ amount) = omega (arith, ints) in
      subst (λ z. FitsSigned w128 (held +ℤ z)) (sym held_amount) fits

  -- so the word is the sum
  pub sum_held : word (held +ℤ word long) ≡ held +ℤ amount
  sum_held = to_z-of_z w128 (held +ℤ word long) sum_fits ∙ ap (λ z. held +ℤ z) held_amount

  -- and it is at most as great as i + 1 amounts
  pub held_small : unsigned_abs (word (held +ℤ word long)) ≤ (i + 1) * 2 ^ 63
  held_small = subst (λ z. unsigned_abs z ≤ (i + 1) * 2 ^ 63) (sym sum_held) sum_small
