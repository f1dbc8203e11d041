-- Numbers that pass through the machine's words unchanged.
use Rattle.std.proofs.Common.{◌≡◌, ◌*◌, ◌^◌, ◌≤◌, ap, ◌∙◌, arith, FitsSigned, to_z, of_z}
use Rattle.std.specs.Prelude.{ℤ, pos, neg_ℤ, ◌-ℤ◌, unsigned_abs}
use Rattle.std.specs.Int.{w128}
use Rattle.std.proofs.Math.IntN.{+ℤ_idl}
use Rattle.std.proofs.lemmas.Int.{ints, to_z-of_z}
use Rattle.hh_share.specs.Ranges.{IsBetween}
use Rattle.hh_calc.specs.steps.Sums.{greatest_volume}

-- a number as a word of 128 bits
abbrev pub word : ℤ → ℤ
word x = to_z w128 (of_z w128 x)

pub long_word : (x : ℤ) → unsigned_abs x ≤ 15 * 10 ^ 37 → to_z w128 (of_z w128 x) ≡ x
long_word x le = let fits : FitsSigned w128 x = omega (arith, ints) in to_z-of_z w128 x fits

pub volume_size : (v : ℤ) → IsBetween (neg_ℤ (pos (10 ^ 7))) (pos (10 ^ 7)) v → unsigned_abs v ≤ 10 ^ 7
volume_size v (low, high) = omega (arith, ints)

pub net_size : (v : ℤ) → IsBetween (neg_ℤ (pos (10 ^ 11))) (pos (10 ^ 11)) v → unsigned_abs v ≤ 10 ^ 11
net_size v (low, high) = omega (arith, ints)

-- a volume in ticks fits a word
pub held_volume : (v held : ℤ) → held ≡ v → unsigned_abs held ≤ greatest_volume → word held ≡ v
held_volume v held same le = long_word held (omega arith) ∙ same

-- and so does minus the volume
pub turned_word : (v held : ℤ) → held ≡ v → unsigned_abs held ≤ greatest_volume → word (pos 0 -ℤ word held) ≡ neg_ℤ v
turned_word v held same le =
    let turned : pos 0 -ℤ word held ≡ neg_ℤ held = +ℤ_idl (neg_ℤ (word held)) ∙ ap neg_ℤ (long_word held (omega arith)) in
    let small : unsigned_abs (neg_ℤ held) ≤ 15 * 10 ^ 37 = omega (arith, ints) in
    ap word turned ∙ long_word (neg_ℤ held) small ∙ ap neg_ℤ same
