-- The rows of a table whose keys pass a test, after one more row; and elements that pass two tests.
use Rattle.std.proofs.Common.{◌≡◌, List, [], ◌∷◌, Bool, true, false, cond, refl, sym, ap, ◌∙◌, Some, None, Ordering}
use Rattle.std.specs.Prelude.{filter, T}
use Rattle.std.specs.Cmp.{IsTotalOrder, Equal-is}
use Rattle.std.specs.FinMap.{find, put, is_sorted}
use Rattle.std.specs.FinMap.Entries.{find-put, is_sorted-put, same_entries}
use Rattle.std.specs.Ordering.{eq_by_cmp}
use Rattle.std.specs.declared.cmp.Ordering.TheVariants.{Equal}
use Rattle.hh_tables.specs.Tables.{Table, IsTable}
use Rattle.hh_tables.proofs.RowLaws.{sorted-filter}

pub rising_of : {K V : Type 0} (R : K → K → Ordering) (es : Table K V) → T (is_sorted R es) → IsTable R es
rising_of R es h = is_true (is_sorted R es) h
  where
    is_true : (b : Bool) → T b → b ≡ true
    is_true true h = refl
    is_true false h = absurd h

no_matter : {X : Type 0} (b : Bool) (x : X) → x ≡ cond b x x
no_matter true x = refl
no_matter false x = refl

passes_alike : {K : Type 0} {R : K → K → Ordering} → ((x y : K) → R x y ≡ Equal → x ≡ y) → (passes : K → Bool) (x y : K) → eq_by_cmp R x y ≡ true → passes x ≡ passes y
passes_alike {R = R} exact passes x y same = ap passes (exact x y ((Equal-is (R x y)).0 same))

module _ {K V : Type 0} {R : K → K → Ordering} (o : IsTotalOrder R) (exact : (x y : K) → R x y ≡ Equal → x ≡ y) (passes : K → Bool) where
  -- a key is found among those rows only if it passes
  pub find-filter : (es : Table K V) (q : K) → find R q (filter (λ e. passes e.0) es) ≡ cond (passes q) (find R q es) None
  find-filter [] q = no_matter (passes q) None
  find-filter (e ∷ es) q =
      let rest = find-filter es q in
      elim (passes e.0) as (λ b. passes e.0 ≡ b
      → find R q (cond b (e ∷ filter (λ y. passes y.0) es) (filter (λ y. passes y.0) es)) ≡ cond (passes q) (cond (eq_by_cmp R q e.0) (Some e.1) (find R q es)) None) [
        | true ↦ λ h. elim (eq_by_cmp R q e.0) as (λ t. eq_by_cmp R q e.0 ≡ t
            → cond t (Some e.1) (find R q (filter (λ y. passes y.0) es)) ≡ cond (passes q) (cond t (Some e.1) (find R q es)) None) [
              | true ↦ λ same. sym (ap (λ b. cond b (Some e.1) None) (passes_alike exact passes q e.0 same ∙ h))
              | false ↦ λ apart. rest
            ] refl
        | false ↦ λ h. elim (eq_by_cmp R q e.0) as (λ t. eq_by_cmp R q e.0 ≡ t
            → find R q (filter (λ y. passes y.0) es) ≡ cond (passes q) (cond t (Some e.1) (find R q es)) None) [
              | true ↦ λ same. rest ∙ ap (λ b. cond b (find R q es) None) (passes_alike exact passes q e.0 same ∙ h) ∙ sym (ap (λ b. cond b (Some e.1) None) (passes_alike exact passes q e.0 same ∙ h))
              | false ↦ λ apart. rest
            ] refl
      ] refl

  -- a row that is put is among those rows only if its key passes
  pub filter-put : (k : K) (v : V) (es : Table K V) → T (is_sorted R es)
      → filter (λ e. passes e.0) (put R k v es) ≡ cond (passes k) (put R k v (filter (λ e. passes e.0) es)) (filter (λ e. passes e.0) es)
  filter-put k v es sorted =
      let some : Table K V = filter (λ e. passes e.0) es in
      elim (passes k) as (λ b. passes k ≡ b → filter (λ e. passes e.0) (put R k v es) ≡ cond b (put R k v some) some) [
        | true ↦ λ h. same_entries R o exact _ _ (sorted-filter R (λ e. passes e.0) (put R k v es) (is_sorted-put R o k v es sorted)) (is_sorted-put R o k v some (sorted-filter R (λ e. passes e.0) es sorted))
            (λ q. find-filter (put R k v es) q ∙ ap (λ f. cond (passes q) f None) (find-put R o q k v es)
            ∙ with_it h q (eq_by_cmp R q k) refl
            ∙ sym (find-put R o q k v some ∙ ap (cond (eq_by_cmp R q k) (Some v)) (find-filter es q)))
        | false ↦ λ h. same_entries R o exact _ _ (sorted-filter R (λ e. passes e.0) (put R k v es) (is_sorted-put R o k v es sorted)) (sorted-filter R (λ e. passes e.0) es sorted)
            (λ q. find-filter (put R k v es) q ∙ ap (λ f. cond (passes q) f None) (find-put R o q k v es)
            ∙ without_it h q (eq_by_cmp R q k) refl
            ∙ sym (find-filter es q))
      ] refl
    where
      with_it : passes k ≡ true → (q : K) (t : Bool) → eq_by_cmp R q k ≡ t
          → cond (passes q) (cond t (Some v) (find R q es)) None ≡ cond t (Some v) (cond (passes q) (find R q es) None)
      with_it h q true same = ap (λ b. cond b (Some v) None) (passes_alike exact passes q k same ∙ h)
      with_it h q false apart = refl

      without_it : passes k ≡ false → (q : K) (t : Bool) → eq_by_cmp R q k ≡ t
          → cond (passes q) (cond t (Some v) (find R q es)) None ≡ cond (passes q) (find R q es) None
      without_it h q true same = ap (λ b. cond b (Some v) None) (passes_alike exact passes q k same ∙ h) ∙ sym (ap (λ b. cond b (find R q es) None) (passes_alike exact passes q k same ∙ h))
      without_it h q false apart = refl

-- the elements that pass a test are the same among those that pass a wider test
pub filter_within : {X : Type 0} (test wider : X → Bool) → ((x : X) → test x ≡ true → wider x ≡ true) → (xs : List X) → filter test (filter wider xs) ≡ filter test xs
filter_within test wider within [] = refl
filter_within test wider within (x ∷ xs) =
    let rest = filter_within test wider within xs in
    elim (test x) as (λ b. test x ≡ b → filter test (cond (wider x) (x ∷ filter wider xs) (filter wider xs)) ≡ cond b (x ∷ filter test xs) (filter test xs)) [
      | true ↦ λ passes. ap (λ b. filter test (cond b (x ∷ filter wider xs) (filter wider xs))) (within x passes)
          ∙ ap (λ b. cond b (x ∷ filter test (filter wider xs)) (filter test (filter wider xs))) passes
          ∙ ap (λ l. x ∷ l) rest
      | false ↦ λ fails. elim (wider x) as (λ w. filter test (cond w (x ∷ filter wider xs) (filter wider xs)) ≡ filter test xs) [
        | true ↦ ap (λ b. cond b (x ∷ filter test (filter wider xs)) (filter test (filter wider xs))) fails ∙ rest
        | false ↦ rest
      ]
    ] refl
