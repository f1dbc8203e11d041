-- The leftover pence go to the first accounts by their remainders, so the sizes are those of the definition.
use Rattle.std.proofs.Common.{◌≡◌, ℕ, zero, suc, ◌+◌, ◌-◌, ◌*◌, ◌<◌, ◌≤◌, ◌^◌, List, [], ◌∷◌, map, take, length, get_or, refl, sym, ap, ◌∙◌, subst, cond, All, arith}
use Rattle.std.specs.Prelude.{nat_lt, ◌==◌, sum, sum_by, count_by, ℤ, pos, unsigned_abs}
use Rattle.std.specs.List.{enumerate_from}
use Rattle.std.proofs.lemmas.List.{get_or-map, get_or_default, length-map, same_lists}
use Rattle.std.proofs.lemmas.List.Elements.{All-map}
use Rattle.std.proofs.lemmas.List.FromFn.{length-enumerate_from}
use Rattle.std.proofs.lemmas.List.Sums.{sum_by-le, count_by-le-length}
use Rattle.std.proofs.Math.Nat.{mod-lt}
use Rattle.hh_share.specs.declared.shares.Quota.{Quota}
use Rattle.hh_share.specs.Shares.{lower_quota, remainder, leftover, rank, counted_weights, shares, shares_by, share_of, share_size, with_sign_of}
use Rattle.hh_share.specs.steps.Shares.{sizes_by}
use Rattle.hh_share.specs.steps.Quotas.{quota_for}
use Rattle.hh_share.specs.Ranking.{places_before}
use Rattle.hh_share.specs.steps.Ranking.{AreFirst, HasPennies}
use Rattle.hh_share.proofs.CountLaws.{claimant_is}
use Rattle.hh_share.proofs.RankingLaws.{rank_is_before}
use Rattle.hh_share.proofs.ShareFacts.{length-quotas, lower_same, quota_is}
use Rattle.hh_share.proofs.SumLaws.{leftover_few, some_over, share_size_within}

-- there are as many sizes as weights, and none is larger than the apportioned pence
pub sizes_within : (size : ℕ) (ws : List ℕ) → (0 < length ws → 0 < sum ws) → All (λ n. n ≤ size) (sizes_by size ws)
sizes_within size ws positive =
    All-map (λ n. n ≤ size) (share_size size ws) (enumerate_from 0 ws)
    (λ k d inside.
    let within : k < length ws = subst (λ n. k < n) (length-enumerate_from 0 ws) inside in
    let is = get_or_default (enumerate_from 0 ws) k d (0, 0) inside ∙ claimant_is ws k within in
    subst (λ a. share_size size ws a ≤ size) (sym is) (share_size_within size ws (positive (omega arith)) k within))

-- the sizes, with the sign of the amount, are the shares
pub shares_are : (amount : ℤ) (ws vs : List ℕ) → vs ≡ counted_weights ws → map (with_sign_of amount) (sizes_by (unsigned_abs amount) vs) ≡ shares amount ws
shares_are amount ws vs vs_is = joined (enumerate_from 0 vs) ∙ ap (shares_by amount) vs_is
  where
    joined : (cs : List (ℕ × ℕ)) → map (with_sign_of amount) (map (share_size (unsigned_abs amount) vs) cs) ≡ map (share_of amount vs) cs
    joined [] = refl
    joined (c ∷ cs) = ap (λ t. share_of amount vs c ∷ t) (joined cs)

-- the sum of weights in memory leaves room for a sign
pub sum_small : (ws : List ℕ) → All (λ w. w < 2 ^ 64) ws → length ws < 2 ^ 63 → sum ws < 2 ^ 127
sum_small ws fit few =
    let h = sum_by-le (λ w. w) 18_446_744_073_709_551_615 ws (λ k d inside. let w = fit k d inside in omega arith) in
    omega arith

-- if the sum of the weights is below a bound, so is each remainder
pub remainders_small : (size bound n : ℕ) (ws : List ℕ) (quotas : List Quota) → (0 < length ws → 0 < sum ws) → sum ws < bound
    → quotas ≡ map (quota_for size ws) (take n ws) → All (λ q. q.remainder < bound) quotas
remainders_small size bound n [] quotas positive below are =
    subst (All (λ q. q.remainder < bound)) (sym (are ∙ ap (map (quota_for size [])) (take_none n))) (λ k d inside. absurd (omega arith))
  where
    take_none : (n : ℕ) → take {A = ℕ} n [] ≡ []
    take_none zero = refl
    take_none (suc n) = refl
remainders_small size bound n (w ∷ ws) quotas positive below are =
    subst (All (λ q. q.remainder < bound)) (sym are)
    (All-map (λ q. q.remainder < bound) (quota_for size (w ∷ ws)) (take n (w ∷ ws))
    (λ k d inside. let h = mod-lt (size * get_or (take n (w ∷ ws)) k d) (positive (omega arith)) in omega arith))

-- the remainders of quotas as integers
rests-quotas : (size : ℕ) (ws vs : List ℕ) → map (λ q. pos q.remainder) (map (quota_for size ws) vs) ≡ map (λ r. pos r) (map (remainder size ws) vs)
rests-quotas size ws [] = refl
rests-quotas size ws (v ∷ vs) = ap (λ t. pos (remainder size ws v) ∷ t) (rests-quotas size ws vs)

-- no more pence are left over than there are weights
leftover_within : (size : ℕ) (ws : List ℕ) → (0 < length ws → 0 < sum ws) → (0 < size → 0 < length ws) → leftover size ws ≤ length ws
leftover_within zero [] positive some = omega arith
leftover_within (suc size) [] positive some = absurd (let h = some (omega arith) in omega arith)
leftover_within size (w ∷ ws) positive some =
    let p = positive (omega arith) in
    let few = leftover_few size (w ∷ ws) p in
    let h : some_over size (w ∷ ws) p (w ∷ ws) ≤ length (w ∷ ws) = count_by-le-length (λ v. nat_lt 0 (remainder size (w ∷ ws) v)) (w ∷ ws) in
    omega arith

module _ (size : ℕ) (ws : List ℕ) (quotas : List Quota) (positive : 0 < length ws → 0 < sum ws) (are : quotas ≡ map (quota_for size ws) ws)
    (rests : List ℤ) (rests_are : rests ≡ map (λ q. pos q.remainder) quotas) where
  length-rests : length rests ≡ length ws
  length-rests = ap length rests_are ∙ length-map quotas (λ (q : Quota). pos q.remainder) ∙ length-quotas size ws quotas positive are

  -- there are no more leftover pence than rests
  pub left_within : (left : ℕ) → (0 < size → 0 < length ws) → left ≡ size - sum_by (λ q. q.lower) quotas → left ≤ length rests
  left_within left some left_is =
      let h = leftover_within size ws positive some in
      let same : left ≡ leftover size ws = left_is ∙ ap (λ n. size - n) (lower_same size ws quotas positive are) in
      let l = length-rests in
      omega arith

  module _ (left : ℕ) (left_is : left ≡ size - sum_by (λ q. q.lower) quotas) (places : List ℕ) (first : AreFirst rests left places) where
    -- each place is the place of a weight
    pub places_within : All (λ p. p < length ws) places
    places_within = subst (λ m. All (λ p. p < m) places) length-rests first.inside

    left_same : left ≡ leftover size ws
    left_same = left_is ∙ ap (λ n. size - n) (lower_same size ws quotas positive are)

    module _ (place : ℕ) (inside : place < length ws) where
      abbrev own_rank : ℕ
      own_rank = rank (map (remainder size ws) ws) (place, remainder size ws (get_or ws place 0))

      -- as many rests come before it as its rank says
      before_is : places_before rests place ≡ own_rank
      before_is =
          let rs : List ℕ = map (remainder size ws) ws in
          ap (λ xs. places_before xs place) (rests_are ∙ ap (map (λ q. pos q.remainder)) are ∙ rests-quotas size ws ws)
          ∙ rank_is_before rs place (subst (λ n. place < n) (sym (length-map ws (remainder size ws))) inside)
          ∙ ap (λ r. rank rs (place, r)) (get_or-map (remainder size ws) ws place 0 0 inside)

      -- it is listed if fewer rests come before it than pence are left over
      penny_is : count_by (λ p. p == place) places ≡ cond (nat_lt own_rank (leftover size ws)) 1 0
      penny_is =
          first.listed place (subst (λ n. place < n) (sym length-rests) inside)
          ∙ (λ i. cond (nat_lt (before_is i) (left_same i)) 1 0)

    -- with their pennies, the sizes are those of the definition
    pub sizes_are : (wholes sizes : List ℕ) → wholes ≡ map (λ q. q.lower) quotas → HasPennies wholes places sizes → sizes ≡ sizes_by size ws
    sizes_are wholes sizes wholes_are has =
        same_lists sizes (sizes_by size ws) (as_many ∙ sym (length-map (enumerate_from 0 ws) (share_size size ws) ∙ length-enumerate_from 0 ws))
        (λ k d within.
        let inside : k < length ws = subst (λ n. k < n) as_many within in
        get_or_default sizes k d 0 within
        ∙ has.1 k (subst (λ n. k < n) (sym wholes_many) inside)
        ∙ (λ i. (whole_is k inside i) + (penny_is k inside i))
        ∙ ap (share_size size ws) (sym (claimant_is ws k inside))
        ∙ sym (get_or-map (share_size size ws) (enumerate_from 0 ws) k (0, 0) d (subst (λ n. k < n) (sym (length-enumerate_from 0 ws)) inside)))
      where
        wholes_many : length wholes ≡ length ws
        wholes_many = ap length wholes_are ∙ length-map quotas (λ (q : Quota). q.lower) ∙ length-quotas size ws quotas positive are

        as_many : length sizes ≡ length ws
        as_many = has.0 ∙ wholes_many

        whole_is : (k : ℕ) → k < length ws → get_or wholes k 0 ≡ lower_quota size ws (get_or ws k 0)
        whole_is k inside =
            let among : k < length quotas = subst (λ n. k < n) (sym (length-quotas size ws quotas positive are)) inside in
            let none : Quota = record { lower = 0; remainder = 0 } in
            ap (λ xs. get_or xs k 0) wholes_are
            ∙ get_or-map (λ (q : Quota). q.lower) quotas k none 0 among
            ∙ ap (λ q. q.lower) (quota_is size ws quotas positive are k among none)
