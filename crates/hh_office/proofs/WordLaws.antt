-- Sums of charges and shares, in 128 bits.
use Rattle.std.proofs.Common.{◌≡◌, ℕ, ◌+◌, ◌*◌, ◌^◌, ◌≤◌, ◌<◌, sym, ap, subst, ◌∙◌, arith, FitsSigned}
use Rattle.std.specs.Prelude.{ℤ, ◌+ℤ◌, unsigned_abs}
use Rattle.std.specs.Int.{w128}
use Rattle.std.proofs.lemmas.Int.{ints, to_z-of_z}
use Rattle.hh_num.specs.Quantities.{amounts_of_cash}
use Rattle.hh_num.specs.Ranges.{IsBetween}
use Rattle.hh_day.proofs.SumLaws.{word}

-- an amount of cash is the same in a longer word
held_long : (amount long : ℤ) → IsBetween amounts_of_cash.least amounts_of_cash.most amount → long ≡ amount → word long ≡ amount
held_long amount long (low, high) same =
    let fits : FitsSigned w128 amount = omega (arith, ints) in
    ap word same ∙ to_z-of_z w128 amount fits

-- a charge and a share
module _ (charge share : ℤ) (charges : IsBetween amounts_of_cash.least amounts_of_cash.most charge) (shares : IsBetween amounts_of_cash.least amounts_of_cash.most share)
    (long_charge long_share : ℤ) (same_charge : long_charge ≡ charge) (same_share : long_share ≡ share) where
  -- are the same together as they are held
  paid : word long_charge +ℤ word long_share ≡ charge +ℤ share
  paid = λ i. held_long charge long_charge charges same_charge i +ℤ held_long share long_share shares same_share i

  -- their sum is small
  paid_small : unsigned_abs (charge +ℤ share) ≤ 2 ^ 64
  paid_small = let a = charges.0 in let b = charges.1 in let d = shares.0 in let e = shares.1 in omega (arith, ints)

  -- and fits
  pub paid_fits : FitsSigned w128 (word long_charge +ℤ word long_share)
  paid_fits =
      let small = paid_small in
      let fits : FitsSigned w128 (charge +ℤ share) = omega (arith, ints) in
      subst (FitsSigned w128) (sym paid) fits

  -- so it is what is held
  paid_held : word (word long_charge +ℤ word long_share) ≡ charge +ℤ share
  paid_held = to_z-of_z w128 (word long_charge +ℤ word long_share) paid_fits ∙ paid

  -- and the sum of `i` such sums, with one more
  module _ (held : ℤ) (i : ℕ) (so_far : unsigned_abs held ≤ i * 2 ^ 64) (few : i + 1 < 2 ^ 63) where
    -- is small
    net_small : unsigned_abs (held +ℤ (charge +ℤ share)) ≤ (i + 1) * 2 ^ 64
    net_small = let small = paid_small in omega (arith, ints)

    -- fits
    pub net_fits : FitsSigned w128 (held +ℤ word (word long_charge +ℤ word long_share))
    net_fits =
        let small = net_small in
        let fits : FitsSigned w128 (held +ℤ (charge +ℤ share)) = omega (arith, ints) in
        subst (λ z. FitsSigned w128 (held +ℤ z)) (sym paid_held) fits

    -- is the sum
    pub net_held : word (held +ℤ word (word long_charge +ℤ word long_share)) ≡ held +ℤ (charge +ℤ share)
    net_held = to_z-of_z w128 (held +ℤ word (word long_charge +ℤ word long_share)) net_fits ∙ ap (λ z. held +ℤ z) paid_held

    -- and is small there
    pub held_net_small : unsigned_abs (word (held +ℤ word (word long_charge +ℤ word long_share))) ≤ (i + 1) * 2 ^ 64
    held_net_small = subst (λ z. unsigned_abs z ≤ (i + 1) * 2 ^ 64) (sym net_held) net_small
