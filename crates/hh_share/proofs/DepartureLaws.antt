-- The shares depart least from the quotas.
-- The square of a share's distance from its quota is a parabola over the whole pence that the account might get. A line of
-- one slope for all accounts is nowhere above the parabola and meets it at the share. The slope comes from a bar: remainders
-- that get one penny more reach the bar, and the others do not pass it. The slope is what one penny more adds to the square
-- if the remainder is the bar: m * m - 2 * m * bar, where m is the sum of the weights. Summed over the accounts, the lines
-- give the same for all splits of one amount.
use Rattle.std.proofs.Common.{◌≡◌, ◌⊎◌, inl, inr, ℕ, zero, suc, ◌+◌, ◌*◌, ◌^◌, ◌<◌, ◌≤◌, List, [], ◌∷◌, map, length, refl, sym, ap, ◌∙◌, subst, Bool, true, false, cond, arith}
use Rattle.std.specs.Prelude.{nat_lt, sum, sum_by, count_by, ℤ, pos, negsuc, neg_ℤ, unsigned_abs, ◌+ℤ◌, ◌-ℤ◌, ◌*ℤ◌, ◌≤ℤ◌}
use Rattle.std.specs.List.{enumerate_from, zip}
use Rattle.std.proofs.lemmas.Int.{ints}
use Rattle.std.proofs.lemmas.List.Sums.{sum_by-cons, sum_by-le-sum_by}
use Rattle.std.proofs.lemmas.Bool.{ltb-true, ltb-false, le-ltb}
use Rattle.std.proofs.Math.Nat.{div-add-mod, mod-lt, pow-suc, pow-zero, one-mul, mul-le-mul_left}
use Rattle.std.proofs.Math.IntN.{neg_ℤ-neg_ℤ}
use borrow.Author.Differences.{up, down, sum_is_lem}
use Rattle.hh_num.specs.Totals.{total}
use Rattle.hh_share.specs.Shares.{lower_quota, remainder, leftover, comes_before, rank, share_size, counted_weights, shares, share_of}
use Rattle.hh_share.specs.Departure.{distance, DepartsLeast}
use Rattle.hh_share.proofs.CountLaws.{sum_by-enumerate}
use Rattle.hh_share.proofs.SumLaws.{counted_weights_positive, shares_sum}

-- ---- products of integers
-- the square of the integer a less b
square_is : (z : ℤ) (a b : ℕ) → up z + b ≡ down z + a → unsigned_abs z ^ 2 + 2 * (a * b) ≡ a * a + b * b
square_is z a b e = rw (power_two (unsigned_abs z)) (product z e)
  where
    power_two : (n : ℕ) → n ^ 2 ≡ n * n
    power_two n = pow-suc n 1 ∙ ap (λ k. k * n) (pow-suc n 0 ∙ ap (λ k. k * n) (pow-zero n) ∙ one-mul n)

    product : (z : ℤ) → up z + b ≡ down z + a → unsigned_abs z * unsigned_abs z + 2 * (a * b) ≡ a * a + b * b
    product (pos n) e = let is : a ≡ n + b = omega arith in rw is (omega arith)
    product (negsuc n) e = let is : b ≡ a + suc n = omega arith in rw is (omega arith)

plus-times : (y z : ℤ) (a : ℕ) → (y +ℤ z) *ℤ pos a ≡ (y *ℤ pos a) +ℤ (z *ℤ pos a)
plus-times y z a = let h = ap (λ n. n * a) (sum_is_lem y z) in omega (arith, ints)

neg-times : (z : ℤ) (a : ℕ) → neg_ℤ z *ℤ pos a ≡ neg_ℤ (z *ℤ pos a)
neg-times (pos zero) a = omega (arith, ints)
neg-times (pos (suc n)) a = omega (arith, ints)
neg-times (negsuc n) a = omega (arith, ints)

-- Let z be p less q, and i ≤ j at most m apart. Then m * m * z * (z - 1) + 2 * m * (j - i) * z is not negative,
-- since z * z is at least z, and z * (z - 1) at least 2 * -z.
not_negative : (m i j : ℕ) (z : ℤ) (p q : ℕ) → i ≤ j → j ≤ i + m → up z + q ≡ down z + p
    → m * m * (2 * (p * q) + p) + 2 * (m * (j * q + i * p)) ≤ m * m * (p * p + q * q + q) + 2 * (m * (j * p + i * q))
not_negative m i j (pos zero) p q least most e = let is : p ≡ q = omega arith in rw is (omega arith)
not_negative m i j (pos (suc n)) p q least most e =
    let is : p ≡ suc n + q = omega arith in
    let h = mul-le-mul_left (m * suc n) least in
    rw is (omega arith)
not_negative m i j (negsuc n) p q least most e =
    let is : q ≡ p + suc n = omega arith in
    let h = mul-le-mul_left (m * suc n) most in
    rw is (omega arith)

-- ---- one share
-- the square of the distance of t pence from n / m
abbrev off : ℕ → ℕ → ℤ → ℕ
off m n t = unsigned_abs (pos n -ℤ (t *ℤ pos m)) ^ 2

-- the line that meets f at s, and rises by a less b with each penny, is not above f at t
abbrev IsOverLine : (ℤ → ℕ) → ℕ → ℕ → ℤ → ℤ → Type 0
IsOverLine f a b s t = (pos (f s) +ℤ ((t *ℤ pos a) +ℤ (s *ℤ pos b))) ≤ℤ (pos (f t) +ℤ ((s *ℤ pos a) +ℤ (t *ℤ pos b)))

module _ (m low over bar : ℕ) where
  -- this holds at the whole pence, if the remainder does not pass the bar
  lower_over : over ≤ bar → bar ≤ over + m → (t : ℤ) → IsOverLine (off m (m * low + over)) (m * m) (2 * (m * bar)) (pos (low + 0)) t
  lower_over least most t =
      let here = square_is (pos (m * low + over) -ℤ (pos (low + 0) *ℤ pos m)) (m * low + over) ((low + 0) * m) (omega (arith, ints)) in
      let there = square_is (pos (m * low + over) -ℤ (t *ℤ pos m)) (m * low + over + down t * m) (up t * m) (omega (arith, ints)) in
      let h = not_negative m over bar (t -ℤ pos low) (up t) (low + down t) least most (omega (arith, ints)) in
      omega (arith, ints)

  -- and at one penny more, if the remainder reaches the bar
  upper_over : bar ≤ over → over ≤ bar + m → (t : ℤ) → IsOverLine (off m (m * low + over)) (m * m) (2 * (m * bar)) (pos (low + 1)) t
  upper_over least most t =
      let here = square_is (pos (m * low + over) -ℤ (pos (low + 1) *ℤ pos m)) (m * low + over) ((low + 1) * m) (omega (arith, ints)) in
      let there = square_is (pos (m * low + over) -ℤ (t *ℤ pos m)) (m * low + over + down t * m) (up t * m) (omega (arith, ints)) in
      let h = not_negative m bar over (pos (low + 1) -ℤ t) (low + 1 + down t) (up t) least most (omega (arith, ints)) in
      omega (arith, ints)

-- ---- the bar
-- the first number p below m for which g is below k, or m if there is none
abbrev First : (ℕ → ℕ) → ℕ → ℕ → Type 0
First g k m = (p : ℕ) × (p ≤ m) × ((n : ℕ) → g n < k → p ≤ n) × ((p ≡ m) ⊎ (g p < k))

first : (g : ℕ → ℕ) (k m : ℕ) → First g k m
first g k zero = (0, omega arith, λ n l. omega arith, inl refl)
first g k (suc m) =
    elim (nat_lt (g 0) k) as (λ b. nat_lt (g 0) k ≡ b → First g k (suc m)) [
      | true ↦ λ low. (0, omega arith, λ n l. omega arith, inr (ltb-true (g 0) k low))
      | false ↦ λ high.
          let later = first (λ n. g (suc n)) k m in
          (suc later.0, omega arith, past later.0 (ltb-false (g 0) k high) later.2, elim later.3 as (λ e. (suc later.0 ≡ suc m) ⊎ (g (suc later.0) < k)) [ inl e ↦ inl (ap suc e) | inr low ↦ inr low ])
    ] refl
  where
    past : (p : ℕ) → k ≤ g 0 → ((n : ℕ) → g (suc n) < k → p ≤ n) → (n : ℕ) → g n < k → suc p ≤ n
    past p high rest zero l = absurd (omega arith)
    past p high rest (suc n) l = let h = rest n l in omega arith

module _ (rs : List ℕ) where
  -- how many of the remainders are above n
  abbrev above : ℕ → ℕ
  above n = count_by (λ r. nat_lt n r) rs

  -- the remainders above n come before it
  above_before : (place n : ℕ) → above n ≤ rank rs (place, n)
  above_before place n =
      subst (λ c. c ≤ rank rs (place, n)) (sum_by-enumerate (λ r. cond (nat_lt n r) 1 0) 0 rs)
      (sum_by-le-sum_by (λ (b : ℕ × ℕ). cond (nat_lt n b.1) 1 0) (λ b. cond (comes_before b (place, n)) 1 0) (enumerate_from 0 rs) (λ b. grind arith))

  -- the remainders that come before a number are above each smaller number
  before_above : (place n p : ℕ) → p < n → rank rs (place, n) ≤ above p
  before_above place n p l =
      subst (λ c. rank rs (place, n) ≤ c) (sum_by-enumerate (λ r. cond (nat_lt p r) 1 0) 0 rs)
      (sum_by-le-sum_by (λ (b : ℕ × ℕ). cond (comes_before b (place, n)) 1 0) (λ b. cond (nat_lt p b.1) 1 0) (enumerate_from 0 rs) (λ b. grind arith))

  module _ (k m : ℕ) (bar : First above k m) (place n : ℕ) where
    -- a remainder that gets a penny reaches the bar
    reaches : rank rs (place, n) < k → bar.0 ≤ n
    reaches more = let h = above_before place n in bar.2 n (omega arith)

    -- a remainder that gets none does not pass the bar
    does_not_pass : n < m → k ≤ rank rs (place, n) → n ≤ bar.0
    does_not_pass small none =
        elim bar.3 as (λ o. n ≤ bar.0) [ inl last ↦ omega arith | inr low ↦ not_below bar.0 (before_above place n bar.0) (omega arith) ]
      where
        not_below : (p : ℕ) {x y : ℕ} → (p < n → x ≤ y) → y < x → n ≤ p
        not_below p h l = grind arith

-- ---- all shares
module _ (ws : List ℕ) (positive : 0 < sum ws) where
  abbrev m : ℕ
  m = sum ws

  -- each share's size is on such a line, and the slope is the same for all
  module _ (size : ℕ) where
    abbrev bar : First (above (map (remainder size ws) ws)) (leftover size ws) m
    bar = first (above (map (remainder size ws) ws)) (leftover size ws) m

    size_over : (place w : ℕ) (t : ℤ) → IsOverLine (off m (size * w)) (m * m) (2 * (m * bar.0)) (pos (share_size size ws (place, w))) t
    size_over place w t =
        let rs : List ℕ = map (remainder size ws) ws in
        let low : ℕ = lower_quota size ws w in
        let over : ℕ = remainder size ws w in
        let small : over < m = mod-lt (size * w) positive in
        let more : Bool = nat_lt (rank rs (place, over)) (leftover size ws) in
        subst (λ n. IsOverLine (off m n) (m * m) (2 * (m * bar.0)) (pos (share_size size ws (place, w))) t) (div-add-mod (size * w) m)
        (elim more as (λ b. more ≡ b → IsOverLine (off m (m * low + over)) (m * m) (2 * (m * bar.0)) (pos (low + cond b 1 0)) t) [
          | true ↦ λ e. upper_over m low over bar.0 (reaches rs (leftover size ws) m bar place over (ltb-true _ _ e)) (omega arith) t
          | false ↦ λ e. lower_over m low over bar.0 (does_not_pass rs (leftover size ws) m bar place over small (ltb-false _ _ e)) (omega (arith, bar.1)) t
        ] refl)

  -- the square of a share's distance
  abbrev square : ℤ → ℕ → ℤ → ℕ
  square amount w t = distance amount ws w t ^ 2

  -- changing both signs leaves it
  square-neg : (a w : ℕ) (t : ℤ) → square (negsuc a) w t ≡ square (pos (suc a)) w (neg_ℤ t)
  square-neg a w t = ap (λ n. n ^ 2) (rw (neg-times t m) (omega (arith, ints)))

  over-neg : (a w x y : ℕ) (s t : ℤ) → IsOverLine (square (pos (suc a)) w) x y s (neg_ℤ t) → IsOverLine (square (negsuc a) w) y x (neg_ℤ s) t
  over-neg a w x y s t over =
      let h = rw (neg-times t x, neg-times t y) at over in
      rw (square-neg a w (neg_ℤ s), square-neg a w t, neg_ℤ-neg_ℤ s, neg-times s x, neg-times s y) (omega (arith, ints))

  -- the shares of an amount have one slope, a less b
  shares_over : (amount : ℤ) → (a : ℕ) × (b : ℕ) × ((place w : ℕ) (t : ℤ) → IsOverLine (square amount w) a b (share_of amount ws (place, w)) t)
  shares_over (pos n) =
      (m * m, 2 * (m * (bar n).0), λ place w t. subst (λ b. IsOverLine (square (pos n) w) (m * m) (2 * (m * (bar n).0)) (cond b (neg_ℤ (pos (share_size n ws (place, w)))) (pos (share_size n ws (place, w)))) t) (sym (le-ltb n 0 (omega arith))) (size_over n place w t))
  shares_over (negsuc n) =
      (2 * (m * (bar (suc n)).0), m * m, λ place w t. over-neg n w (m * m) (2 * (m * (bar (suc n)).0)) (pos (share_size (suc n) ws (place, w))) t (size_over (suc n) place w (neg_ℤ t)))

-- the sum of lines is a line
sums_over : (f : ℕ → ℤ → ℕ) (share : ℕ × ℕ → ℤ) (a b : ℕ) → ((place w : ℕ) (t : ℤ) → IsOverLine (f w) a b (share (place, w)) t)
    → (place : ℕ) (ws : List ℕ) (ts : List ℤ) → length ts ≡ length ws
    → let ss : List ℤ = map share (enumerate_from place ws) in
    (pos (sum_by (λ c. f c.0 c.1) (zip ws ss)) +ℤ ((total (λ t. t) ts *ℤ pos a) +ℤ (total (λ s. s) ss *ℤ pos b)))
    ≤ℤ (pos (sum_by (λ c. f c.0 c.1) (zip ws ts)) +ℤ ((total (λ s. s) ss *ℤ pos a) +ℤ (total (λ t. t) ts *ℤ pos b)))
sums_over f share a b each place [] [] same = omega (arith, ints)
sums_over f share a b each place [] (t ∷ ts) same = absurd (omega arith)
sums_over f share a b each place (w ∷ ws) [] same = absurd (omega arith)
sums_over f share a b each place (w ∷ ws) (t ∷ ts) same =
    let ss : List ℤ = map share (enumerate_from (place + 1) ws) in
    let s : ℤ = share (place, w) in
    let here = each place w t in
    let rest = sums_over f share a b each (place + 1) ws ts (omega arith) in
    rw (sum_by-cons (λ c. f c.0 c.1) (w, s) (zip ws ss), sum_by-cons (λ c. f c.0 c.1) (w, t) (zip ws ts), plus-times t (total (λ t. t) ts) a, plus-times t (total (λ t. t) ts) b, plus-times s (total (λ s. s) ss) a, plus-times s (total (λ s. s) ss) b) (omega (arith, ints))

-- No split of an amount departs less from the quotas than the shares do, by the weights that count.
pub shares_depart_least : (amount : ℤ) (ws : List ℕ) → DepartsLeast amount (counted_weights ws) (shares amount ws)
shares_depart_least amount [] other split = omega arith
shares_depart_least amount (w ∷ ws) other split =
    let vs : List ℕ = counted_weights (w ∷ ws) in
    let line = shares_over vs (counted_weights_positive (w ∷ ws) (omega arith)) amount in
    let h = sums_over (λ w t. distance amount vs w t ^ 2) (share_of amount vs) line.0 line.1 line.2 0 vs other split.0 in
    omega (arith, ints, rw (shares_sum amount (w ∷ ws) (λ some. omega arith), split.1) at h)
