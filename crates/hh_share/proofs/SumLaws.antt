-- The sizes of the shares sum to the size of the total.
use Rattle.std.proofs.Common.{get_or, ◌≡◌, ℕ, zero, suc, ◌+◌, ◌*◌, ◌<◌, ◌≤◌, List, [], ◌∷◌, map, length, refl, sym, ap, ◌∙◌, subst, Bool, true, false, cond, arith}
use Rattle.std.specs.Prelude.{nat_lt, ◌==◌, sum, sum_by, count_by, All, ℤ, pos, negsuc, neg_ℤ, unsigned_abs, ◌+ℤ◌, int_lt, ◌≢◌}
use Rattle.std.specs.List.{enumerate_from, list_all}
use Rattle.std.proofs.lemmas.List.Sums.{sum_by-cons, count_by-le-length, get_or-le-sum_by}
use Rattle.std.proofs.lemmas.List.{get_or-map, length-map}
use Rattle.std.proofs.lemmas.List.FromFn.{length-enumerate_from}
use Rattle.std.proofs.lemmas.List.Folds.{sum_by-zero}
use Rattle.std.proofs.lemmas.Bool.{lt-ltb, le-ltb, eqb-false}
use Rattle.std.proofs.Math.Nat.{add-mul, mul-add, mul_comm, div-add-mod, le_of_mul-le-mul_right}
use Rattle.hh_num.specs.Totals.{total}
use Rattle.hh_num.proofs.TotalLaws.{total-map, total-neg}
use Rattle.hh_share.specs.Shares.{lower_quota, remainder, leftover, rank, share_of, share_size, counted_weights, shares, with_sign_of, SumsTo}
use Rattle.hh_share.proofs.CountLaws.{claimant_is, count_by-map, enumerate-map, sum_by-enumerate, sum_by-plus}
use Rattle.hh_share.proofs.RankLaws.{ranks_below}

module _ (size : ℕ) (ws : List ℕ) (positive : 0 < sum ws) where
  -- the whole pence of a weight
  abbrev low : ℕ → ℕ
  low = lower_quota size ws

  -- its remainder
  abbrev over : ℕ → ℕ
  over = remainder size ws

  -- how many weights have a remainder above 0
  abbrev pub some_over : List ℕ → ℕ
  some_over vs = count_by (λ v. nat_lt 0 (over v)) vs

  -- whole parts and remainders make up the quotas
  quotas_whole : (vs : List ℕ) → sum_by low vs * sum ws + sum_by over vs ≡ size * sum vs
  quotas_whole [] = omega arith
  quotas_whole (v ∷ vs) =
      let d : sum_by low (v ∷ vs) ≡ low v + sum_by low vs = sum_by-cons low v vs in
      let r : sum_by over (v ∷ vs) ≡ over v + sum_by over vs = sum_by-cons over v vs in
      let w : sum (v ∷ vs) ≡ v + sum vs = sum_by-cons (λ x. x) v vs in
      let one : sum ws * low v + over v ≡ size * v = div-add-mod (size * v) (sum ws) in
      let turned : sum ws * low v ≡ low v * sum ws = mul_comm (sum ws) (low v) in
      let h : sum_by low vs * sum ws + sum_by over vs ≡ size * sum vs = quotas_whole vs in
      let m : size * (v + sum vs) ≡ size * v + size * sum vs = mul-add size v (sum vs) in
      let e : (low v + sum_by low vs) * sum ws ≡ low v * sum ws + sum_by low vs * sum ws = add-mul (low v) (sum_by low vs) (sum ws) in
      (λ i. d i * sum ws + r i) ∙ (let t : (low v + sum_by low vs) * sum ws + (over v + sum_by over vs) ≡ size * (v + sum vs) = omega arith in t) ∙ ap (λ z. size * z) (sym w)

  -- each remainder is less than a penny
  remainders_small : (vs : List ℕ) → sum_by over vs ≤ some_over vs * sum ws
  remainders_small [] = omega arith
  remainders_small (v ∷ vs) =
      let r : sum_by over (v ∷ vs) ≡ over v + sum_by over vs = sum_by-cons over v vs in
      let c : some_over (v ∷ vs) ≡ cond (nat_lt 0 (over v)) 1 0 + some_over vs = sum_by-cons (λ u. cond (nat_lt 0 (over u)) 1 0) v vs in
      let h : sum_by over vs ≤ some_over vs * sum ws = remainders_small vs in
      let small : over v < sum ws = omega arith in
      let one : over v ≤ cond (nat_lt 0 (over v)) 1 0 * sum ws = at_most_one (over v) (sum ws) small in
      let e : (cond (nat_lt 0 (over v)) 1 0 + some_over vs) * sum ws ≡ cond (nat_lt 0 (over v)) 1 0 * sum ws + some_over vs * sum ws = add-mul (cond (nat_lt 0 (over v)) 1 0) (some_over vs) (sum ws) in
      let t : over v + sum_by over vs ≤ (cond (nat_lt 0 (over v)) 1 0 + some_over vs) * sum ws = omega arith in
      subst (λ x. x ≤ some_over (v ∷ vs) * sum ws) (sym r) (subst (λ x. over v + sum_by over vs ≤ x * sum ws) (sym c) t)
    where
      at_most_one : (n m : ℕ) → n < m → n ≤ cond (nat_lt 0 n) 1 0 * m
      at_most_one zero m l = omega arith
      at_most_one (suc n) m l = subst (λ b. suc n ≤ cond b 1 0 * m) (sym (lt-ltb 0 (suc n) (omega arith))) (omega arith)

  -- the whole parts are at most the total
  pub lower_quotas_fit : sum_by low ws ≤ size
  lower_quotas_fit =
      let h : sum_by low ws * sum ws + sum_by over ws ≡ size * sum ws = quotas_whole ws in
      let t : sum_by low ws * sum ws ≤ size * sum ws = omega arith in
      le_of_mul-le-mul_right t positive

  -- there are no more leftover pence than remainders above 0
  pub leftover_few : leftover size ws ≤ some_over ws
  leftover_few =
      let h : sum_by low ws * sum ws + sum_by over ws ≡ size * sum ws = quotas_whole ws in
      let k : sum_by over ws ≤ some_over ws * sum ws = remainders_small ws in
      let e : (sum_by low ws + some_over ws) * sum ws ≡ sum_by low ws * sum ws + some_over ws * sum ws = add-mul (sum_by low ws) (some_over ws) (sum ws) in
      let t : size * sum ws ≤ (sum_by low ws + some_over ws) * sum ws = omega arith in
      let at_least : size ≤ sum_by low ws + some_over ws = le_of_mul-le-mul_right t positive in
      omega arith

  -- whether a weight gets one penny more
  abbrev pub gets_more : ℕ × ℕ → Bool
  gets_more a = nat_lt (rank (map (remainder size ws) ws) (a.0, remainder size ws a.1)) (leftover size ws)

  -- as many weights get one penny more as pence are left over
  more_is_leftover : count_by gets_more (enumerate_from 0 ws) ≡ leftover size ws
  more_is_leftover =
      let rs : List ℕ = map (remainder size ws) ws in
      sym (ap (count_by (λ a. nat_lt (rank rs a) (leftover size ws))) (enumerate-map (remainder size ws) 0 ws)
      ∙ count_by-map (λ a. nat_lt (rank rs a) (leftover size ws)) (λ (a : ℕ × ℕ). (a.0, remainder size ws a.1)) (enumerate_from 0 ws))
      ∙ ranks_below rs (leftover size ws) (subst (λ n. leftover size ws ≤ n) (sym (length-map ws (remainder size ws))) (let h : some_over ws ≤ length ws = count_by-le-length (λ v. nat_lt 0 (over v)) ws in let k : leftover size ws ≤ some_over ws = leftover_few in omega arith))

  -- The sizes of the shares sum to the size of the total.
  pub share_sizes_sum : sum_by (share_size size ws) (enumerate_from 0 ws) ≡ size
  share_sizes_sum =
      let at_most : sum_by (lower_quota size ws) ws ≤ size = lower_quotas_fit in
      let extra : count_by gets_more (enumerate_from 0 ws) ≡ leftover size ws = more_is_leftover in
      let whole : sum_by (λ a. lower_quota size ws a.1) (enumerate_from 0 ws) ≡ sum_by (lower_quota size ws) ws = sum_by-enumerate (lower_quota size ws) 0 ws in
      let split : sum_by (share_size size ws) (enumerate_from 0 ws) ≡ sum_by (λ a. lower_quota size ws a.1) (enumerate_from 0 ws) + count_by gets_more (enumerate_from 0 ws)
      = sum_by-plus (λ a. lower_quota size ws a.1) (λ a. cond (gets_more a) 1 0) (enumerate_from 0 ws) in
      omega arith

  -- no share is larger than the total
  pub share_size_within : (place : ℕ) → place < length ws → share_size size ws (place, get_or ws place 0) ≤ size
  share_size_within place inside =
      let claimants : List (ℕ × ℕ) = enumerate_from 0 ws in
      let h : share_size size ws (get_or claimants place (0, 0)) ≤ sum_by (share_size size ws) claimants
      = get_or-le-sum_by (share_size size ws) claimants place (0, 0) (subst (λ n. place < n) (sym (length-enumerate_from 0 ws)) inside) in
      subst (λ a. share_size size ws a ≤ size) (claimant_is ws place inside) (subst (λ n. share_size size ws (get_or claimants place (0, 0)) ≤ n) share_sizes_sum h)

-- sums of naturals, taken as integers
total-pos : {X : Type 0} (f : X → ℕ) (xs : List X) → total (λ x. pos (f x)) xs ≡ pos (sum_by f xs)
total-pos f [] = refl
total-pos f (x ∷ xs) = ap (λ z. pos (f x) +ℤ z) (total-pos f xs) ∙ ap pos (sym (sum_by-cons f x xs))

-- a sum of numbers of one sign
total-signed : {X : Type 0} (z : ℤ) (f : X → ℕ) (xs : List X) → total (λ x. with_sign_of z (f x)) xs ≡ with_sign_of z (sum_by f xs)
total-signed z f xs = elim (int_lt z (pos 0)) as (λ b. total (λ x. cond b (neg_ℤ (pos (f x))) (pos (f x))) xs ≡ cond b (neg_ℤ (pos (sum_by f xs))) (pos (sum_by f xs))) [
  | true ↦ total-neg (λ x. pos (f x)) xs ∙ ap neg_ℤ (total-pos f xs)
  | false ↦ total-pos f xs
]

-- the size of a number with the number's sign is the number
own_sign : (z : ℤ) → with_sign_of z (unsigned_abs z) ≡ z
own_sign (pos n) = ap (λ b. cond b (neg_ℤ (pos n)) (pos n)) (le-ltb n 0 (omega arith))
own_sign (negsuc n) = refl

-- if there is a weight, the weights that count are not all 0
pub counted_weights_positive : (ws : List ℕ) → 0 < length ws → 0 < sum (counted_weights ws)
counted_weights_positive [] h = absurd (omega arith)
counted_weights_positive (w ∷ ws) h =
    elim (list_all (λ v. v == 0) (w ∷ ws)) as (λ b. list_all (λ v. v == 0) (w ∷ ws) ≡ b → 0 < sum (cond b (map (λ v. 1) (w ∷ ws)) (w ∷ ws))) [
      | true ↦ λ e. (let h : sum (map (λ v. 1) (w ∷ ws)) ≡ 1 + sum (map (λ v. 1) ws) = sum_by-cons (λ v. v) 1 (map (λ v. 1) ws) in omega arith)
      | false ↦ λ e. (let h : (sum (w ∷ ws) == 0) ≡ false = sum_by-zero (λ v. v) (w ∷ ws) ∙ e in let n : sum (w ∷ ws) ≢ 0 = eqb-false (sum (w ∷ ws)) 0 h in omega arith)
    ] refl

-- there are as many weights that count as weights
pub length-counted_weights : (ws : List ℕ) → length (counted_weights ws) ≡ length ws
length-counted_weights ws =
    elim (list_all (λ v. v == 0) ws) as (λ b. length (cond b (map (λ v. 1) ws) ws) ≡ length ws) [ true ↦ length-map ws (λ v. 1) | false ↦ refl ]

-- if there are weights that count, they are not all 0
pub counted_weights_some : (ws : List ℕ) → 0 < length (counted_weights ws) → 0 < sum (counted_weights ws)
counted_weights_some ws h = counted_weights_positive ws (subst (λ n. 0 < n) (length-counted_weights ws) h)

-- the shares sum to the amount
pub shares_sum : (amount : ℤ) (ws : List ℕ) → (amount ≢ pos 0 → 0 < length ws) → SumsTo amount (shares amount ws)
shares_sum (pos zero) [] some = refl
shares_sum (pos (suc n)) [] some = absurd (let h : 0 < 0 = some (λ e. cc) in omega arith)
shares_sum (negsuc n) [] some = absurd (let h : 0 < 0 = some (λ e. cc) in omega arith)
shares_sum amount (w ∷ ws) some =
    total-map (λ s. s) (share_of amount (counted_weights (w ∷ ws))) (enumerate_from 0 (counted_weights (w ∷ ws)))
    ∙ total-signed amount (share_size (unsigned_abs amount) (counted_weights (w ∷ ws))) (enumerate_from 0 (counted_weights (w ∷ ws)))
    ∙ ap (with_sign_of amount) (share_sizes_sum (unsigned_abs amount) (counted_weights (w ∷ ws)) (counted_weights_positive (w ∷ ws) (omega arith)))
    ∙ own_sign amount

-- there are as many shares as weights
pub length-shares : (amount : ℤ) (ws : List ℕ) → length (shares amount ws) ≡ length ws
length-shares amount ws =
    length-map (enumerate_from 0 (counted_weights ws)) (share_of amount (counted_weights ws))
    ∙ length-enumerate_from 0 (counted_weights ws)
    ∙ length-counted_weights ws

-- a sign leaves the size
size-signed : (z : ℤ) (n : ℕ) → unsigned_abs (with_sign_of z n) ≡ n
size-signed z zero = elim (int_lt z (pos 0)) as (λ b. unsigned_abs (cond b (neg_ℤ (pos zero)) (pos zero)) ≡ zero) [ true ↦ refl | false ↦ refl ]
size-signed z (suc n) = elim (int_lt z (pos 0)) as (λ b. unsigned_abs (cond b (neg_ℤ (pos (suc n))) (pos (suc n))) ≡ suc n) [ true ↦ refl | false ↦ refl ]

-- no share is larger in size than the amount
pub shares_within : (amount : ℤ) (ws : List ℕ) → All (λ s. unsigned_abs s ≤ unsigned_abs amount) (shares amount ws)
shares_within amount ws = λ place d lt.
    let vs : List ℕ = counted_weights ws in
    let listed : place < length (enumerate_from 0 vs) = subst (λ n. place < n) (length-map (enumerate_from 0 vs) (share_of amount vs)) lt in
    let inside : place < length vs = subst (λ n. place < n) (length-enumerate_from 0 vs) listed in
    let share_is = get_or-map (share_of amount vs) (enumerate_from 0 vs) place (0, 0) d listed ∙ ap (share_of amount vs) (claimant_is vs place inside) in
    let size_is = ap unsigned_abs share_is ∙ size-signed amount (share_size (unsigned_abs amount) vs (place, get_or vs place 0)) in
    subst (λ n. n ≤ unsigned_abs amount) (sym size_is) (share_size_within (unsigned_abs amount) vs (counted_weights_some ws (omega arith)) place inside)
