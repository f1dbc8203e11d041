-- `near` is a nearest whole number, and no other number is.
use Rattle.std.proofs.Common.{◌≡◌, ℕ, suc, ◌+◌, ◌*◌, ◌<◌, ◌≤◌, ℤ, pos, negsuc, neg_ℤ, ◌-ℤ◌, ◌*ℤ◌, ◌<ℤ◌, unsigned_abs, sym, ap, ◌∙◌, arith}
use Rattle.std.proofs.Math.IntN.{neg_ℤ-neg_ℤ, neg_ℤ-+ℤ}
use Rattle.std.proofs.Math.Nat.{le-div_iff_mul-le}
use Rattle.std.proofs.lemmas.Int.{ints}
use Rattle.hh_num.specs.Rounding.{doubled_distance, IsNear, near_part, near}
use Rattle.hh_num.proofs.SizeLaws.{unsigned_abs-neg, unsigned_abs-sub, neg-mul}

-- changing both signs leaves the distance
doubled_distance-neg : (n r : ℤ) (b : ℕ) → doubled_distance (neg_ℤ n) (pos b) (neg_ℤ r) ≡ doubled_distance n (pos b) r
doubled_distance-neg n r b =
    ap (λ z. 2 * z) (
    ap (λ z. unsigned_abs (neg_ℤ n -ℤ z)) (neg-mul r b)
    ∙ ap unsigned_abs (sym (neg_ℤ-+ℤ n (neg_ℤ (r *ℤ pos b))))
    ∙ unsigned_abs-neg (n -ℤ r *ℤ pos b))

IsNear-neg : (n r : ℤ) (b : ℕ) → IsNear n (pos b) r → IsNear (neg_ℤ n) (pos b) (neg_ℤ r)
IsNear-neg n r b h = record {
  near = rw (doubled_distance-neg n r b) h.near;
  far = λ s k.
      let e = doubled_distance-neg n (neg_ℤ s) b in
      let t = rw (neg_ℤ-neg_ℤ s) at e in
      let far = h.far (neg_ℤ s) (rw (sym t) k) in
      rw (unsigned_abs-neg r) (rw (unsigned_abs-neg s) at far);
}

IsNear-pos : (a b : ℕ) → 0 < b → IsNear (pos a) (pos b) (pos (near_part a b))
IsNear-pos a b h = record {
  near = rw (unsigned_abs-sub a (near_part a b * b)) (omega arith);
  far = elim [
    | pos k ↦ λ close. (le-div_iff_mul-le {k = 2 * b} {x = k} {y = 2 * a + b} (omega arith)).1 (omega (arith, rw (unsigned_abs-sub a (k * b)) at close))
    | negsuc k ↦ λ close. absurd (omega (arith, rw (neg_ℤ-neg_ℤ (pos (suc k * b))) at close))
  ];
}

pub IsNear-near : (n m : ℤ) → pos 0 <ℤ m → IsNear n m (near n m)
IsNear-near (pos a) (pos b) h = IsNear-pos a b (omega (arith, ints))
IsNear-near (negsuc a) (pos b) h = IsNear-neg (pos (suc a)) (pos (near_part (suc a) b)) b (IsNear-pos (suc a) b (omega (arith, ints)))
IsNear-near n (negsuc b) h = absurd (omega (arith, ints))

pub IsNear_from : (n m r : ℤ) → pos 0 <ℤ m → r ≡ near n m → IsNear n m r
IsNear_from n m r h e = rw e (IsNear-near n m h)

not_negative : (k c b : ℕ) → 0 < b → doubled_distance (pos k) (pos b) (negsuc c) ≤ b → ⊥
not_negative k c b h close = omega (arith, rw (neg_ℤ-neg_ℤ (pos (suc c * b))) at close)

one_nearest-pos : (k b : ℕ) (r s : ℤ) → 0 < b → IsNear (pos k) (pos b) r → IsNear (pos k) (pos b) s → r ≡ s
one_nearest-pos k b (pos x) (pos y) h p q =
    let less : x ≤ y = q.far (pos x) p.near in
    let more : y ≤ x = p.far (pos y) q.near in
    ap pos (omega arith)
one_nearest-pos k b (negsuc x) s h p q = absurd (not_negative k x b h p.near)
one_nearest-pos k b (pos x) (negsuc y) h p q = absurd (not_negative k y b h q.near)

-- no two whole numbers are nearest
pub one_nearest : (n m r s : ℤ) → pos 0 <ℤ m → IsNear n m r → IsNear n m s → r ≡ s
one_nearest (pos a) (pos b) r s h p q = one_nearest-pos a b r s (omega (arith, ints)) p q
one_nearest (negsuc a) (pos b) r s h p q =
    sym (neg_ℤ-neg_ℤ r)
    ∙ ap neg_ℤ (one_nearest-pos (suc a) b (neg_ℤ r) (neg_ℤ s) (omega (arith, ints)) (IsNear-neg (negsuc a) r b p) (IsNear-neg (negsuc a) s b q))
    ∙ neg_ℤ-neg_ℤ s
one_nearest n (negsuc b) r s h p q = absurd (omega (arith, ints))
