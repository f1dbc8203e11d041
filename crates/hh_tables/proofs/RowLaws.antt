-- A table is known by the row that it has under each key. So rows put in another order make the same table, if those of
-- one key keep their order.
use Rattle.std.proofs.Common.{◌≡◌, List, [], ◌∷◌, Bool, true, false, cond, refl, sym, ap, subst, ◌∙◌, Option, Some, None, Ordering}
use Rattle.std.specs.Prelude.{◌≢◌, ◌&&◌, not, T}
use Rattle.std.specs.Cmp.{IsTotalOrder, alike_right, tied_itself}
use Rattle.std.specs.FinMap.{put, is_sorted}
use Rattle.std.specs.FinMap.Entries.{below_all, by_order, is_sorted-put}
use Rattle.std.specs.List.{filter}
use Rattle.std.specs.List.Sorted.{IsStableByKey, ties}
use Rattle.std.specs.Ordering.{eq_by_cmp, is_eq, is_lt, ordering_reverse}
use Rattle.std.specs.declared.cmp.Ordering.TheVariants.{Less, Equal, Greater}
use Rattle.hh_tables.specs.Tables.{put_all}

pub both : (a b : Bool) → T a → T b → T (a && b)
both true b p q = q
both false b p q = absurd p

pub first : (a b : Bool) → T (a && b) → T a
first true b p = tt
first false b p = absurd p

pub second : (a b : Bool) → T (a && b) → T b
second true b p = p
second false b p = absurd p

pub less : (r : Ordering) → T (is_lt r) → r ≡ Less
less Less p = refl
less Equal p = absurd p
less Greater p = absurd p

pub is_less : (r : Ordering) → r ≡ Less → T (is_lt r)
is_less r p = subst (λ x. T (is_lt x)) (sym p) tt

pub equal : (r : Ordering) → is_eq r ≡ true → r ≡ Equal
equal Less p = cc
equal Equal p = refl
equal Greater p = cc

some_is_not_none : {A : Type 0} (x : A) → Some x ≢ None
some_is_not_none x e = cc

same_some : {A : Type 0} (x y : A) → Some x ≡ Some y → x ≡ y
same_some x y e = cc

module _ {K V : Type 0} (R : K → K → Ordering) (test : K × V → Bool) where
  -- the rows that pass a test are above a key that all rows are above
  below-filter : (k : K) (es : List (K × V)) → T (below_all R k es) → T (below_all R k (filter test es))
  below-filter k [] h = tt
  below-filter k (e ∷ es) h = elim (test e) as (λ b. T (below_all R k (cond b (e ∷ filter test es) (filter test es)))) [
    | true ↦ both _ _ (first _ _ h) (below-filter k es (second _ _ h))
    | false ↦ below-filter k es (second _ _ h)
  ]

  -- the rows of a table that pass a test still rise
  pub sorted-filter : (es : List (K × V)) → T (is_sorted R es) → T (is_sorted R (filter test es))
  sorted-filter [] h = tt
  sorted-filter (e ∷ es) h = elim (test e) as (λ b. T (is_sorted R (cond b (e ∷ filter test es) (filter test es)))) [
    | true ↦ both _ _ (below-filter e.0 es (first _ _ h)) (sorted-filter es (second _ _ h))
    | false ↦ sorted-filter es (second _ _ h)
  ]

module _ {K V : Type 0} (R : K → K → Ordering) where
  -- the first row of a key
  abbrev row_at : K → List (K × V) → Option (K × V)
  row_at q [] = None
  row_at q (e ∷ es) = cond (eq_by_cmp R q e.0) (Some e) (row_at q es)

-- the row under a key after a row of that key is put, and after several are; the key stays the one that came first
abbrev renewed : {K V : Type 0} → K × V → Option (K × V) → Option (K × V)
renewed row None = Some row
renewed row (Some e) = Some (e.0, row.1)

abbrev renewed_by : {K V : Type 0} → List (K × V) → Option (K × V) → Option (K × V)
renewed_by [] old = old
renewed_by (row ∷ rows) old = renewed_by rows (renewed row old)

-- a row beside the first row of a table: before it, in its place, or behind it
tied_place : {K V : Type 0} (b : Bool) (row e : K × V) (rest : Option (K × V)) → cond b (Some (e.0, row.1)) rest ≡ cond b (renewed row (cond b (Some e) rest)) (cond b (Some e) rest)
tied_place true row e rest = refl
tied_place false row e rest = refl

later_place : {K V : Type 0} (a b : Bool) (row e : K × V) (rest : Option (K × V)) → (a ≡ true → b ≡ true → ⊥)
    → cond a (Some e) (cond b (renewed row rest) rest) ≡ cond b (renewed row (cond a (Some e) rest)) (cond a (Some e) rest)
later_place true true row e rest apart = absurd (apart refl refl)
later_place true false row e rest apart = refl
later_place false true row e rest apart = refl
later_place false false row e rest apart = refl

-- two keys are equal if neither is less than the other
tied_either_way : (r : Ordering) → (not (is_lt r) && not (is_lt (ordering_reverse r))) ≡ is_eq r
tied_either_way Less = refl
tied_either_way Equal = refl
tied_either_way Greater = refl

module _ {K V : Type 0} {R : K → K → Ordering} (o : IsTotalOrder R) where
  pub below_less : (x y : K) (es : List (K × V)) → R x y ≡ Less → T (below_all R y es) → T (below_all R x es)
  below_less x y [] p h = tt
  below_less x y (e ∷ es) p h = both _ _ (is_less _ (o.trans x y e.0 p (less _ (first _ _ h)))) (below_less x y es p (second _ _ h))

  pub below_tied : (x y : K) (es : List (K × V)) → R x y ≡ Equal → T (below_all R y es) → T (below_all R x es)
  below_tied x y [] p h = tt
  below_tied x y (e ∷ es) p h = both _ _ (is_less _ (o.congr x y e.0 p ∙ less _ (first _ _ h))) (below_tied x y es p (second _ _ h))

  -- a key below all keys of a table has no row
  row_at-below : (q : K) (es : List (K × V)) → T (below_all R q es) → row_at R q es ≡ None
  row_at-below q [] h = refl
  row_at-below q (e ∷ es) h = ap (λ r. cond (is_eq r) (Some e) (row_at R q es)) (less _ (first _ _ h)) ∙ row_at-below q es (second _ _ h)

  row_at-first : (e : K × V) (es : List (K × V)) → row_at R e.0 (e ∷ es) ≡ Some e
  row_at-first e es = ap (λ r. cond (is_eq r) (Some e) (row_at R e.0 es)) (tied_itself o e.0)

  row_at-put : (q : K) (row : K × V) (es : List (K × V)) → T (is_sorted R es)
      → row_at R q (put R row.0 row.1 es) ≡ cond (eq_by_cmp R q row.0) (renewed row (row_at R q es)) (row_at R q es)
  row_at-put q row [] h = refl
  row_at-put q row (e ∷ es) h =
      elim (R row.0 e.0) as (λ r. R row.0 e.0 ≡ r → row_at R q (by_order r (row ∷ e ∷ es) ((e.0, row.1) ∷ es) (e ∷ put R row.0 row.1 es))
      ≡ cond (eq_by_cmp R q row.0) (renewed row (row_at R q (e ∷ es))) (row_at R q (e ∷ es))) [
        | Less ↦ λ p. elim (eq_by_cmp R q row.0) as (λ b. eq_by_cmp R q row.0 ≡ b → cond b (Some row) (row_at R q (e ∷ es)) ≡ cond b (renewed row (row_at R q (e ∷ es))) (row_at R q (e ∷ es))) [
          | true ↦ λ t. ap (renewed row) (sym (row_at-below q (e ∷ es) (below_tied q row.0 (e ∷ es) (equal _ t) (both _ _ (is_less _ p) (below_less row.0 e.0 es p (first _ _ h))))))
          | false ↦ λ t. refl
        ] refl
        | Equal ↦ λ p. tied_place (eq_by_cmp R q e.0) row e (row_at R q es)
            ∙ ap (λ r. cond (is_eq r) (renewed row (row_at R q (e ∷ es))) (row_at R q (e ∷ es))) (sym (alike_right o row.0 e.0 q p))
        | Greater ↦ λ p. ap (cond (eq_by_cmp R q e.0) (Some e)) (row_at-put q row es (second _ _ h))
            ∙ later_place (eq_by_cmp R q e.0) (eq_by_cmp R q row.0) row e (row_at R q es) (λ at there. apart (sym p ∙ sym (o.congr q row.0 e.0 (equal _ there)) ∙ equal _ at))
      ] refl
    where
      apart : Greater ≡ Equal → ⊥
      apart e = cc

  -- after first rows of equal keys, both tables have the same row under each key
  rest_alike : (q : K) (e f : K × V) (es fs : List (K × V)) → R e.0 f.0 ≡ Equal → T (below_all R e.0 es) → T (below_all R f.0 fs)
      → row_at R q (e ∷ es) ≡ row_at R q (f ∷ fs) → row_at R q es ≡ row_at R q fs
  rest_alike q e f es fs p g h is =
      elim (eq_by_cmp R q e.0) as (λ b. eq_by_cmp R q e.0 ≡ b → cond b (Some e) (row_at R q es) ≡ cond b (Some f) (row_at R q fs) → row_at R q es ≡ row_at R q fs) [
        | true ↦ λ t same. row_at-below q es (below_tied q e.0 es (equal _ t) g) ∙ sym (row_at-below q fs (below_tied q f.0 fs (sym (alike_right o e.0 f.0 q p) ∙ equal _ t) h))
        | false ↦ λ t same. same
      ] refl (is ∙ ap (λ r. cond (is_eq r) (Some f) (row_at R q fs)) (sym (alike_right o e.0 f.0 q p)))

  -- two tables that have the same row under each key are equal
  same_rows : (es fs : List (K × V)) → T (is_sorted R es) → T (is_sorted R fs) → ((q : K) → row_at R q es ≡ row_at R q fs) → es ≡ fs
  same_rows [] [] g h is = refl
  same_rows [] (f ∷ fs) g h is = absurd (some_is_not_none f (sym (row_at-first f fs) ∙ sym (is f.0)))
  same_rows (e ∷ es) [] g h is = absurd (some_is_not_none e (sym (row_at-first e es) ∙ is e.0))
  same_rows (e ∷ es) (f ∷ fs) g h is =
      elim (R e.0 f.0) as (λ r. R e.0 f.0 ≡ r → e ∷ es ≡ f ∷ fs) [
        | Less ↦ λ p. absurd (some_is_not_none e (sym (row_at-first e es) ∙ is e.0 ∙ row_at-below e.0 (f ∷ fs) (both _ _ (is_less _ p) (below_less e.0 f.0 fs p (first _ _ h)))))
        | Equal ↦ λ p.
            let head : e ≡ f = same_some e f (sym (row_at-first e es) ∙ is e.0 ∙ ap (λ r. cond (is_eq r) (Some f) (row_at R e.0 fs)) p) in
            let rest = same_rows es fs (second _ _ g) (second _ _ h) (λ q. rest_alike q e f es fs p (first _ _ g) (first _ _ h) (is q)) in
            λ i. head i ∷ rest i
        | Greater ↦ λ p.
            let q : R f.0 e.0 ≡ Less = o.antisymm f.0 e.0 ∙ ap ordering_reverse p in
            absurd (some_is_not_none f (sym (row_at-first f fs) ∙ sym (is f.0) ∙ row_at-below f.0 (e ∷ es) (both _ _ (is_less _ q) (below_less f.0 e.0 es q (first _ _ g)))))
      ] refl

  pub is_sorted-put_all : (rows es : List (K × V)) → T (is_sorted R es) → T (is_sorted R (put_all R rows es))
  is_sorted-put_all [] es h = h
  is_sorted-put_all (row ∷ rows) es h = is_sorted-put_all rows (put R row.0 row.1 es) (is_sorted-put R o row.0 row.1 es h)

  -- the row under a key depends only on the rows of that key that were put
  row_at-put_all : (q : K) (rows es : List (K × V)) → T (is_sorted R es) → row_at R q (put_all R rows es) ≡ renewed_by (filter (λ e. eq_by_cmp R q e.0) rows) (row_at R q es)
  row_at-put_all q [] es h = refl
  row_at-put_all q (row ∷ rows) es h =
      let others : List (K × V) = filter (λ e. eq_by_cmp R q e.0) rows in
      row_at-put_all q rows (put R row.0 row.1 es) (is_sorted-put R o row.0 row.1 es h)
      ∙ ap (renewed_by others) (row_at-put q row es h)
      ∙ elim (eq_by_cmp R q row.0) as (λ b. renewed_by others (cond b (renewed row (row_at R q es)) (row_at R q es)) ≡ renewed_by (cond b (row ∷ others) others) (row_at R q es)) [ true ↦ refl | false ↦ refl ]

  ties_at : (q : K) (v : V) (e : K × V) → ties (λ x y. is_lt (R x.0 y.0)) (q, v) e ≡ eq_by_cmp R q e.0
  ties_at q v e = ap (λ r. not (is_lt (R q e.0)) && not (is_lt r)) (o.antisymm e.0 q) ∙ tied_either_way (R q e.0)

  -- a stable sort keeps the order of the rows of each key
  rows_of_key : (v : V) (q : K) (xs ys : List (K × V)) → IsStableByKey (λ e. e.0) R xs ys → filter (λ e. eq_by_cmp R q e.0) ys ≡ filter (λ e. eq_by_cmp R q e.0) xs
  rows_of_key v q xs ys stable =
      let now : filter (λ e. eq_by_cmp R q e.0) ys ≡ filter (ties (λ x y. is_lt (R x.0 y.0)) (q, v)) ys = λ i. filter (λ e. sym (ties_at q v e) i) ys in
      let before : filter (ties (λ x y. is_lt (R x.0 y.0)) (q, v)) xs ≡ filter (λ e. eq_by_cmp R q e.0) xs = λ i. filter (λ e. ties_at q v e i) xs in
      now ∙ stable (q, v) ∙ before

  all_rows_of_key : (q : K) (xs ys : List (K × V)) → IsStableByKey (λ e. e.0) R xs ys → filter (λ e. eq_by_cmp R q e.0) ys ≡ filter (λ e. eq_by_cmp R q e.0) xs
  all_rows_of_key q [] [] stable = refl
  all_rows_of_key q (x ∷ xs) ys stable = rows_of_key x.1 q (x ∷ xs) ys stable
  all_rows_of_key q [] (y ∷ ys) stable = rows_of_key y.1 q [] (y ∷ ys) stable

  -- so sorted rows make the same table
  pub put_all-sorted : (xs ys es : List (K × V)) → IsStableByKey (λ e. e.0) R xs ys → T (is_sorted R es) → put_all R ys es ≡ put_all R xs es
  put_all-sorted xs ys es stable h =
      same_rows _ _ (is_sorted-put_all ys es h) (is_sorted-put_all xs es h)
      (λ q. row_at-put_all q ys es h ∙ ap (λ rows. renewed_by rows (row_at R q es)) (all_rows_of_key q xs ys stable) ∙ sym (row_at-put_all q xs es h))
