-- Sizes and signs of whole numbers.
use Rattle.std.proofs.Common.{◌≡◌, ℕ, zero, suc, ◌+◌, ◌-◌, ◌*◌, ℤ, pos, negsuc, neg_ℤ, ◌-ℤ◌, ◌*ℤ◌, unsigned_abs, refl, sym, arith}
use Rattle.std.proofs.Math.IntN.{neg_ℤ-neg_ℤ}

-- changing the sign leaves the size
pub unsigned_abs-neg : (z : ℤ) → unsigned_abs (neg_ℤ z) ≡ unsigned_abs z
unsigned_abs-neg (pos zero) = refl
unsigned_abs-neg (pos (suc n)) = refl
unsigned_abs-neg (negsuc n) = refl

-- the size of a difference
pub unsigned_abs-sub : (a b : ℕ) → unsigned_abs (pos a -ℤ pos b) ≡ (a - b) + (b - a)
unsigned_abs-sub a zero = omega arith
unsigned_abs-sub a (suc b) = grind arith

-- the sign of a product is taken out in front of it
pub neg-mul : (r : ℤ) (b : ℕ) → neg_ℤ r *ℤ pos b ≡ neg_ℤ (r *ℤ pos b)
neg-mul (pos zero) b = let e : 0 * b ≡ 0 = omega arith in rw e refl
neg-mul (pos (suc n)) b = refl
neg-mul (negsuc n) b = sym (neg_ℤ-neg_ℤ (pos (suc n * b)))
