-- What the functions of the module `shares` need, stated for plain lists.
use Rattle.std.proofs.Common.{◌≡◌, ℕ, ◌+◌, ◌<◌, ◌≤◌, List, [], ◌∷◌, map, length, get_or, sym, ap, ◌∙◌, subst, true, cond, arith}
use Rattle.std.specs.Prelude.{◌==◌, sum, sum_by, replicate}
use Rattle.std.specs.List.{list_all}
use Rattle.std.proofs.lemmas.List.Sums.{get_or-le-sum_by}
use Rattle.std.proofs.lemmas.List.Folds.{fold-map}
use Rattle.std.proofs.lemmas.List.{length-map, get_or-map}
use Rattle.std.proofs.lemmas.Simd.{splat_is_map}
use Rattle.hh_share.specs.declared.shares.Quota.{Quota}
use Rattle.hh_share.specs.Shares.{lower_quota, counted_weights}
use Rattle.hh_share.specs.steps.Quotas.{quota_for}
use Rattle.hh_share.proofs.SumLaws.{lower_quotas_fit}

-- if all weights are 0, the weights that count are ones
pub all_ones : (n : ℕ) (ws : List ℕ) → n ≡ length ws → list_all (λ w. w == 0) ws ≡ true → replicate {A = ℕ} n 1 ≡ counted_weights ws
all_ones n ws e zeros = splat_is_map ws n 1 (sym e) ∙ sym (ap (λ b. cond b (map (λ w. 1) ws) ws) zeros)

-- the sum of the whole pence of quotas
lower-quotas : (size : ℕ) (ws vs : List ℕ) → sum_by (λ q. q.lower) (map (quota_for size ws) vs) ≡ sum_by (lower_quota size ws) vs
lower-quotas size ws vs = fold-map (λ (a : ℕ) (q : Quota). a + q.lower) (quota_for size ws) 0 vs

-- the whole pence are at most the total, also if there are no weights
lower_fit : (size : ℕ) (ws : List ℕ) → (0 < length ws → 0 < sum ws) → sum_by (lower_quota size ws) ws ≤ size
lower_fit size [] positive = omega arith
lower_fit size (w ∷ ws) positive = lower_quotas_fit size (w ∷ ws) (positive (omega arith))

module _ (size : ℕ) (ws : List ℕ) (quotas : List Quota) (positive : 0 < length ws → 0 < sum ws) (are : quotas ≡ map (quota_for size ws) ws) where
  -- there is a quota for each weight
  pub length-quotas : length quotas ≡ length ws
  length-quotas = ap length are ∙ length-map ws (quota_for size ws)

  -- the sum of their whole pence is that of the definition
  pub lower_same : sum_by (λ q. q.lower) quotas ≡ sum_by (lower_quota size ws) ws
  lower_same = ap (sum_by (λ q. q.lower)) are ∙ lower-quotas size ws ws

  -- the whole pence are at most the total
  pub lower_within : sum_by (λ q. q.lower) quotas ≤ size
  lower_within = subst (λ n. n ≤ size) (sym lower_same) (lower_fit size ws positive)

  module _ (place : ℕ) (inside : place < length quotas) (d : Quota) where
    -- and so are those of each quota
    pub one_lower_within : (get_or quotas place d).lower ≤ size
    one_lower_within = let h : (get_or quotas place d).lower ≤ sum_by (λ q. q.lower) quotas = get_or-le-sum_by (λ (q : Quota). q.lower) quotas place d inside in let k = lower_within in omega arith

    pub within : place < length ws
    within = subst (λ n. place < n) length-quotas inside

    -- the quota at a place is that of the weight there
    pub quota_is : get_or quotas place d ≡ quota_for size ws (get_or ws place 0)
    quota_is = ap (λ qs. get_or qs place d) are ∙ get_or-map (quota_for size ws) ws place 0 d within
