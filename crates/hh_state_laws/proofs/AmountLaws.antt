-- Entries whose keys all differ: sorted by their keys they are the same entries, and the sum of their amounts under a key is the
-- amount found there.
use Rattle.std.proofs.Common.{◌≡◌, List, [], ◌∷◌, ◌++◌, refl, sym, ap, ◌∙◌, Bool, true, false, cond, Option, Some, None, Ordering}
use Rattle.std.specs.Prelude.{ℤ, pos, ◌+ℤ◌, ◌≢◌, filter, unwrap_or}
use Rattle.std.specs.Cmp.{IsTotalOrder, eq_by_cmp_equiv}
use Rattle.std.specs.FinMap.{find, put}
use Rattle.std.specs.FinMap.Entries.{by_order, find_tied}
use Rattle.std.specs.List.Sorted.{IsPermutation}
use Rattle.std.specs.Ordering.{eq_by_cmp, is_eq}
use Rattle.std.specs.declared.cmp.Ordering.TheVariants.{Less, Equal, Greater}
use Rattle.std.proofs.Math.IntN.{+ℤ_idl, +ℤ_idr}
use Rattle.std.proofs.lemmas.List.Sorted.{IsPermutation-cons, IsPermutation-middle, IsPermutation-refl, IsPermutation-sym, IsPermutation-trans}
use Rattle.hh_num.specs.Totals.{total}
use Rattle.hh_tables.specs.Tables.{in_key_order}
use Rattle.hh_tables.proofs.RowLaws.{equal}
use Rattle.hh_tables.proofs.TableLaws.{false_is_not_true, find-in_key_order}
use Rattle.hh_state_laws.proofs.ApartLaws.{Lacks, NoneAlike, have_one_key, lacks, not_found}

-- if an order finds only equal keys equal, it tells different keys apart
pub told_apart : {K : Type 0} {R : K → K → Ordering} → ((x y : K) → R x y ≡ Equal → x ≡ y) → (x y : K) → x ≢ y → eq_by_cmp R x y ≡ false
told_apart {R = R} exact x y apart = elim (R x y) as (λ o. R x y ≡ o → is_eq o ≡ false) [
  | Less ↦ λ is. refl
  | Equal ↦ λ is. absurd (apart (exact x y is))
  | Greater ↦ λ is. refl
] refl

-- a key that is not found in two lists together is found in neither
pub absent : {K V : Type 0} (R : K → K → Ordering) (q : K) (es fs : List (K × V)) → find R q (es ++ fs) ≡ None → (find R q es ≡ None) × (find R q fs ≡ None)
absent R q [] fs none = (refl, none)
absent R q (e ∷ es) fs none = elim (eq_by_cmp R q e.0) as (λ b. cond b (Some e.1) (find R q (es ++ fs)) ≡ None → (cond b (Some e.1) (find R q es) ≡ None) × (find R q fs ≡ None)) [
  | true ↦ λ is. cc
  | false ↦ λ is. absent R q es fs is
] none

-- a value, if there is one and it passes
abbrev pub if_passing : {V : Type 0} → (V → Bool) → Option V → Option V
if_passing passes None = None
if_passing passes (Some v) = cond (passes v) (Some v) None

module _ {K V : Type 0} {R : K → K → Ordering} (o : IsTotalOrder R) where
  -- a key that is equal in the order to a missing key is not found
  pub tied_absent : (q k : K) (es : List (K × V)) → eq_by_cmp R q k ≡ true → Lacks R k es → find R q es ≡ None
  tied_absent q k es same lacking = sym (find_tied R o q k (equal (R q k) same) es) ∙ not_found R k es lacking

  -- putting an entry with a new key adds it to the entries
  put_moves : (k : K) (v : V) (es : List (K × V)) → Lacks R k es → IsPermutation ((k, v) ∷ es) (put R k v es)
  put_moves k v [] new = IsPermutation-refl ((k, v) ∷ [])
  put_moves k v (e ∷ es) new =
      elim (R k e.0) as (λ r. R k e.0 ≡ r → IsPermutation ((k, v) ∷ e ∷ es) (by_order r ((k, v) ∷ e ∷ es) ((e.0, v) ∷ es) (e ∷ put R k v es))) [
        | Less ↦ λ is. IsPermutation-refl ((k, v) ∷ e ∷ es)
        | Equal ↦ λ is. absurd (false_is_not_true (sym new.0 ∙ ap is_eq is))
        | Greater ↦ λ is. IsPermutation-trans ((k, v) ∷ e ∷ es) (e ∷ (k, v) ∷ es) (e ∷ put R k v es)
            (IsPermutation-sym (e ∷ (k, v) ∷ es) ((k, v) ∷ e ∷ es) (IsPermutation-middle (e ∷ []) (k, v) es))
            (IsPermutation-cons e ((k, v) ∷ es) (put R k v es) (put_moves k v es new.1))
      ] refl

  -- sorting entries whose keys all differ only moves them
  pub in_key_order_moves : (es : List (K × V)) → NoneAlike (have_one_key R) es → IsPermutation es (in_key_order R es)
  in_key_order_moves [] distinct = IsPermutation-refl []
  in_key_order_moves (e ∷ es) distinct =
      IsPermutation-trans (e ∷ es) (e ∷ in_key_order R es) (put R e.0 e.1 (in_key_order R es))
      (IsPermutation-cons e es (in_key_order R es) (in_key_order_moves es distinct.1))
      (put_moves e.0 e.1 (in_key_order R es) (lacks R e.0 (in_key_order R es) (find-in_key_order o es e.0 ∙ not_found R e.0 es distinct.0)))

  -- among the entries that pass, a key finds what it finds among all, if that passes
  pub find-filter : (passes : V → Bool) (q : K) (es : List (K × V)) → NoneAlike (have_one_key R) es → find R q (filter (λ e. passes e.1) es) ≡ if_passing passes (find R q es)
  find-filter passes q [] distinct = refl
  find-filter passes q (e ∷ es) distinct =
      let passing : List (K × V) = filter (λ x. passes x.1) es in
      let rest : find R q passing ≡ if_passing passes (find R q es) = find-filter passes q es distinct.1 in
      elim (eq_by_cmp R q e.0) as (λ b. eq_by_cmp R q e.0 ≡ b → find R q (cond (passes e.1) (e ∷ passing) passing) ≡ if_passing passes (cond b (Some e.1) (find R q es))) [
        | true ↦ λ same. elim (passes e.1) as (λ p. find R q (cond p (e ∷ passing) passing) ≡ cond p (Some e.1) None) [
          | true ↦ ap (λ b. cond b (Some e.1) (find R q passing)) same
          | false ↦ rest ∙ ap (if_passing passes) (tied_absent q e.0 es same distinct.0)
        ]
        | false ↦ λ apart. elim (passes e.1) as (λ p. find R q (cond p (e ∷ passing) passing) ≡ if_passing passes (find R q es)) [
          | true ↦ ap (λ b. cond b (Some e.1) (find R q passing)) apart ∙ rest
          | false ↦ rest
        ]
      ] refl

module _ {K : Type 0} {R : K → K → Ordering} (o : IsTotalOrder R) where
  -- if all keys differ, the sum of the amounts under a key is the amount found there
  pub total_at : (q : K) (es : List (K × ℤ)) → NoneAlike (have_one_key R) es → total (λ e. cond (eq_by_cmp R e.0 q) e.1 (pos 0)) es ≡ unwrap_or (find R q es) (pos 0)
  total_at q [] distinct = refl
  total_at q (e ∷ es) distinct =
      (λ i. cond ((eq_by_cmp_equiv o).symm e.0 q i) e.1 (pos 0) +ℤ total_at q es distinct.1 i)
      ∙ elim (eq_by_cmp R q e.0) as (λ b. eq_by_cmp R q e.0 ≡ b → cond b e.1 (pos 0) +ℤ unwrap_or (find R q es) (pos 0) ≡ unwrap_or (cond b (Some e.1) (find R q es)) (pos 0)) [
        | true ↦ λ same. ap (λ x. e.1 +ℤ unwrap_or x (pos 0)) (tied_absent o q e.0 es same distinct.0) ∙ +ℤ_idr e.1
        | false ↦ λ apart. +ℤ_idl (unwrap_or (find R q es) (pos 0))
      ] refl
