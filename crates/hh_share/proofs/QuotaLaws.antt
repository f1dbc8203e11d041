-- Each share is its quota rounded.
use Rattle.std.proofs.Common.{◌≡◌, ℕ, zero, suc, ◌+◌, ◌*◌, ◌<◌, ◌≤◌, List, [], ◌∷◌, map, refl, sym, ap, ◌∙◌, subst, Bool, true, false, cond, arith}
use Rattle.std.specs.Prelude.{nat_lt, ◌==◌, ◌&&◌, ◌||◌, sum, count_by, All, ℤ, pos, negsuc, neg_ℤ, unsigned_abs, ◌-ℤ◌, ◌*ℤ◌}
use Rattle.std.specs.List.{enumerate_from, zip}
use Rattle.std.proofs.lemmas.List.Sums.{sum_by-le-sum_by}
use Rattle.std.proofs.lemmas.List.Elements.{All-cons}
use Rattle.std.proofs.lemmas.Bool.{le-ltb}
use Rattle.std.proofs.Math.Nat.{mul_comm, add-mul, div-add-mod, mod-lt}
use Rattle.std.proofs.Math.IntN.{neg_ℤ-+ℤ, negsuc-*ℤ-pos}
use Rattle.hh_tables.proofs.TableLaws.{false_is_not_true}
use Rattle.hh_num.proofs.SizeLaws.{unsigned_abs-neg, unsigned_abs-sub, neg-mul}
use Rattle.hh_share.specs.Shares.{lower_quota, remainder, leftover, comes_before, rank, share_size, counted_weights, shares, share_of, IsQuotaRounded, AreQuotasRounded}
use Rattle.hh_share.proofs.CountLaws.{count_by-map, sum_by-enumerate}
use Rattle.hh_share.proofs.SumLaws.{length-counted_weights, length-shares, counted_weights_positive, some_over, leftover_few, gets_more}

-- a test counts no more than the test or another
or_more : (a b : Bool) → cond a 1 0 ≤ cond (a || b) 1 0
or_more true b = omega arith
or_more false true = omega arith
or_more false false = omega arith

-- all remainders above 0 come before a remainder of 0
some_before : (rs : List ℕ) (place : ℕ) → count_by (λ r. nat_lt 0 r) rs ≤ rank rs (place, 0)
some_before rs place =
    subst (λ n. n ≤ rank rs (place, 0)) (sum_by-enumerate (λ r. cond (nat_lt 0 r) 1 0) 0 rs)
    (sum_by-le-sum_by (λ (b : ℕ × ℕ). cond (nat_lt 0 b.1) 1 0) (λ b. cond (comes_before b (place, 0)) 1 0) (enumerate_from 0 rs) (λ b. or_more (nat_lt 0 b.1) ((0 == b.1) && nat_lt b.0 place)))

-- a number other than 0 is above 0
above_zero : (n : ℕ) → (n ≡ 0 → ⊥) → 0 < n
above_zero zero h = absurd (h refl)
above_zero (suc n) h = omega arith

-- a quotient by m is between its whole part and the next whole number
near_below : (n m low over : ℕ) → m * low + over ≡ n → over < m → (n < (low + 0) * m + m) × ((low + 0) * m < n + m)
near_below n m low over whole small =
    let e : (low + 0) * m ≡ low * m + 0 * m = add-mul low 0 m in
    let c : m * low ≡ low * m = mul_comm m low in
    (omega arith, omega arith)

near_above : (n m low over : ℕ) → m * low + over ≡ n → over < m → 0 < over → (n < (low + 1) * m + m) × ((low + 1) * m < n + m)
near_above n m low over whole small some =
    let e : (low + 1) * m ≡ low * m + 1 * m = add-mul low 1 m in
    let c : m * low ≡ low * m = mul_comm m low in
    (omega arith, omega arith)

module _ (size : ℕ) (ws : List ℕ) (positive : 0 < sum ws) where
  -- a whole quota gets no penny more
  whole_gets_none : (place w : ℕ) → remainder size ws w ≡ 0 → gets_more size ws positive (place, w) ≡ false
  whole_gets_none place w whole =
      let rs : List ℕ = map (remainder size ws) ws in
      let few : leftover size ws ≤ some_over size ws positive ws = leftover_few size ws positive in
      let same : count_by (λ r. nat_lt 0 r) rs ≡ some_over size ws positive ws = count_by-map (λ r. nat_lt 0 r) (remainder size ws) ws in
      let before : count_by (λ r. nat_lt 0 r) rs ≤ rank rs (place, 0) = some_before rs place in
      ap (λ r. nat_lt (rank rs (place, r)) (leftover size ws)) whole ∙ le-ltb (rank rs (place, 0)) (leftover size ws) (omega arith)

  -- a weight that gets a penny more has a remainder above 0
  more_is_over : (place w : ℕ) → gets_more size ws positive (place, w) ≡ true → 0 < remainder size ws w
  more_is_over place w more = above_zero (remainder size ws w) (λ whole. false_is_not_true (sym (whole_gets_none place w whole) ∙ more))

  -- a share times the sum of the weights differs from the total times the weight by less than that sum
  share_near : (place w : ℕ) → (size * w < share_size size ws (place, w) * sum ws + sum ws) × (share_size size ws (place, w) * sum ws < size * w + sum ws)
  share_near place w =
      elim (gets_more size ws positive (place, w)) as (λ b. gets_more size ws positive (place, w) ≡ b → (size * w < (lower_quota size ws w + cond b 1 0) * sum ws + sum ws) × ((lower_quota size ws w + cond b 1 0) * sum ws < size * w + sum ws)) [
        | true ↦ λ more. near_above (size * w) (sum ws) (lower_quota size ws w) (remainder size ws w) (div-add-mod (size * w) (sum ws)) (mod-lt (size * w) positive) (more_is_over place w more)
        | false ↦ λ more. near_below (size * w) (sum ws) (lower_quota size ws w) (remainder size ws w) (div-add-mod (size * w) (sum ws)) (mod-lt (size * w) positive)
      ] refl

-- two products that are less than m apart
distance : (a w n m : ℕ) → a * w < n * m + m → n * m < a * w + m → unsigned_abs ((pos a *ℤ pos w) -ℤ (pos n *ℤ pos m)) < m
distance a w n m below above = rw (unsigned_abs-sub (a * w) (n * m)) (omega arith)

-- changing both signs leaves the distance
distance-neg : (a w n m : ℕ) → unsigned_abs ((negsuc a *ℤ pos w) -ℤ (neg_ℤ (pos n) *ℤ pos m)) ≡ unsigned_abs ((pos (suc a) *ℤ pos w) -ℤ (pos n *ℤ pos m))
distance-neg a w n m =
    ap (λ z. unsigned_abs (z -ℤ (neg_ℤ (pos n) *ℤ pos m))) (negsuc-*ℤ-pos a w)
    ∙ ap (λ z. unsigned_abs (neg_ℤ (pos (suc a * w)) -ℤ z)) (neg-mul (pos n) m)
    ∙ ap unsigned_abs (sym (neg_ℤ-+ℤ (pos (suc a * w)) (neg_ℤ (pos n *ℤ pos m))))
    ∙ unsigned_abs-neg ((pos (suc a) *ℤ pos w) -ℤ (pos n *ℤ pos m))

module _ (ws : List ℕ) (positive : 0 < sum ws) where
  -- each share is its quota, rounded
  share_rounded : (amount : ℤ) (place w : ℕ) → IsQuotaRounded amount ws w (share_of amount ws (place, w))
  share_rounded (pos a) place w =
      let near = share_near a ws positive place w in
      let d = distance a w (share_size a ws (place, w)) (sum ws) near.0 near.1 in
      subst (λ b. unsigned_abs ((pos a *ℤ pos w) -ℤ (cond b (neg_ℤ (pos (share_size a ws (place, w)))) (pos (share_size a ws (place, w))) *ℤ pos (sum ws))) < sum ws) (sym (le-ltb a 0 (omega arith))) d
  share_rounded (negsuc a) place w =
      let near = share_near (suc a) ws positive place w in
      let d = distance (suc a) w (share_size (suc a) ws (place, w)) (sum ws) near.0 near.1 in
      subst (λ n. n < sum ws) (sym (distance-neg a w (share_size (suc a) ws (place, w)) (sum ws))) d

  shares_rounded : (amount : ℤ) (place : ℕ) (vs : List ℕ)
      → All (λ a. IsQuotaRounded amount ws a.0 a.1) (zip vs (map (share_of amount ws) (enumerate_from place vs)))
  shares_rounded amount place [] = λ k d lt. absurd (omega arith)
  shares_rounded amount place (v ∷ vs) =
      All-cons (λ a. IsQuotaRounded amount ws a.0 a.1) (v, share_of amount ws (place, v))
      (zip vs (map (share_of amount ws) (enumerate_from (place + 1) vs)))
      (share_rounded amount place v) (shares_rounded amount (place + 1) vs)

-- by the weights that count, each share is the quota of its weight, rounded
pub quotas_rounded : (amount : ℤ) (ws : List ℕ) → AreQuotasRounded amount (counted_weights ws) (shares amount ws)
quotas_rounded amount [] = (refl, λ k d lt. absurd (omega arith))
quotas_rounded amount (w ∷ ws) =
    (length-shares amount (w ∷ ws) ∙ sym (length-counted_weights (w ∷ ws)), shares_rounded (counted_weights (w ∷ ws)) (counted_weights_positive (w ∷ ws) (omega arith)) amount 0 (counted_weights (w ∷ ws)))
