-- Rows that come behind those of a table: how this is found, and that putting them in appends them.
use Rattle.std.proofs.Common.{◌≡◌, ℕ, zero, suc, ◌+◌, ◌-◌, List, [], ◌∷◌, ◌++◌, length, get_or, take, drop, Bool, true, false, refl, sym, ap, subst, ◌∙◌, Some, Ordering, arith}
use Rattle.std.specs.Prelude.{◌&&◌, ◌==◌, if◌then◌else◌, is_ok, slice_get, Err, Ok, OnOk, Result, T}
use Rattle.std.specs.Cmp.{IsTotalOrder}
use Rattle.std.specs.FinMap.{put, is_sorted}
use Rattle.std.specs.FinMap.Entries.{below_all}
use Rattle.std.specs.List.{list_all}
use Rattle.std.specs.List.Sorted.{IsSortedByKey}
use Rattle.std.specs.Ordering.{is_lt, ordering_reverse}
use Rattle.std.specs.declared.cmp.Ordering.TheVariants.{Less}
use Rattle.std.proofs.lemmas.Bool.{eqb-true}
use Rattle.std.proofs.lemmas.List.{append_assoc, append-nil}
use Rattle.hh_tables.specs.Tables.{IsTable, put_all}
use Rattle.hh_tables.proofs.MergeLaws.{from_true, put_beyond, sorted_back, sorted_front, take_drop, true_from}
use Rattle.hh_tables.proofs.OrderLaws.{rises}
use Rattle.hh_tables.proofs.RowLaws.{both, first, second, less, is_less, below_less}

-- two tests that hold in the same cases are equal
same_truth : (a b : Bool) → (T a → T b) → (T b → T a) → a ≡ b
same_truth true true there back = refl
same_truth true false there back = absurd (there tt)
same_truth false true there back = absurd (back tt)
same_truth false false there back = refl

module _ {K V : Type 0} (R : K → K → Ordering) where
  -- a key below all rows of two lists is below those of the second; rows below those of each list are below those of both
  below_back : (k : K) (xs ys : List (K × V)) → T (below_all R k (xs ++ ys)) → T (below_all R k ys)
  below_back k [] ys h = h
  below_back k (x ∷ xs) ys h = below_back k xs ys (second _ _ h)

  below_append : (k : K) (xs ys : List (K × V)) → T (below_all R k xs) → T (below_all R k ys) → T (below_all R k (xs ++ ys))
  below_append k [] ys g h = h
  below_append k (x ∷ xs) ys g h = both _ _ (first _ _ g) (below_append k xs ys (second _ _ g) h)

  below_at_place : (k : K) (last : K × V) (xs : List (K × V)) (i : ℕ) → T (below_all R k xs) → slice_get xs i ≡ Some last → R k last.0 ≡ Less
  below_at_place k last [] i h at = cc
  below_at_place k last (x ∷ xs) zero h at = let same : x ≡ last = cc in ap (λ (e : K × V). R k e.0) (sym same) ∙ less _ (first _ _ h)
  below_at_place k last (x ∷ xs) (suc i) h at = below_at_place k last xs i (second _ _ h) at

  -- all rows before a row of a table are below it
  all_below : (xs : List (K × V)) (y : K × V) (ys : List (K × V)) → T (is_sorted R (xs ++ y ∷ ys)) → T (list_all (λ x. is_lt (R x.0 y.0)) xs)
  all_below [] y ys h = tt
  all_below (x ∷ xs) y ys h = both _ _ (first _ _ (below_back x.0 xs (y ∷ ys) (first _ _ h))) (all_below xs y ys (second _ _ h))

  -- rows behind those of a table are above its last
  above_last : (xs ys : List (K × V)) (last : K × V) (i : ℕ) → slice_get xs i ≡ Some last → T (is_sorted R (xs ++ ys)) → T (below_all R last.0 ys)
  above_last [] ys last i at h = cc
  above_last (x ∷ xs) ys last zero at h = let same : x ≡ last = cc in subst (λ (e : K × V). T (below_all R e.0 ys)) same (below_back x.0 xs ys (first _ _ h))
  above_last (x ∷ xs) ys last (suc i) at h = above_last xs ys last i at (second _ _ h)

module _ {K V : Type 0} {R : K → K → Ordering} (o : IsTotalOrder R) where
  -- rows in rising order that begin above a key are all above it
  pub rising_above : (k : K) (row : K × V) (rows : List (K × V)) → Some row ≡ slice_get rows 0 → is_lt (R k row.0) ≡ true → is_sorted R rows ≡ (below_all R k rows && is_sorted R rows)
  rising_above k row [] at below = cc
  rising_above k row (e ∷ rows) at below =
      let same : row ≡ e = cc in
      let is : R k e.0 ≡ Less = subst (λ (e : K × V). R k e.0 ≡ Less) same (less _ (from_true _ below)) in
      same_truth _ _ (λ h. both _ _ (both _ _ (is_less _ is) (below_less o k e.0 rows is (first _ _ h))) h) (λ h. second _ _ h)

  -- a table, and rows in rising order that begin above its last row, are one table together
  joined : (xs ys : List (K × V)) (last : K × V) (i : ℕ) → i + 1 ≡ length xs → slice_get xs i ≡ Some last → T (is_sorted R xs) → T (below_all R last.0 ys) → T (is_sorted R ys)
      → T (is_sorted R (xs ++ ys))
  joined [] ys last i is at g above h = h
  joined (x ∷ []) ys last zero is at g above h = let same : x ≡ last = cc in both _ _ (subst (λ (e : K × V). T (below_all R e.0 ys)) (sym same) above) h
  joined (x ∷ []) ys last (suc i) is at g above h = absurd (omega arith)
  joined (x ∷ y ∷ xs) ys last zero is at g above h = absurd (omega arith)
  joined (x ∷ y ∷ xs) ys last (suc i) is at g above h =
      let is_below : R x.0 last.0 ≡ Less = below_at_place R x.0 last (y ∷ xs) i (first _ _ g) at in
      both _ _ (below_append R x.0 (y ∷ xs) ys (first _ _ g) (below_less o x.0 last.0 ys is_below above)) (joined (y ∷ xs) ys last i (omega arith) at (second _ _ g) above h)

  last_place : (xs : List (K × V)) (last : K × V) → Some last ≡ slice_get xs (length xs - 1) → length xs - 1 + 1 ≡ length xs
  last_place [] last at = cc
  last_place (x ∷ xs) last at = omega arith

  -- rows in rising order that begin above the last row of a table come behind those of the table
  pub come_behind_last : (lent es table rows : List (K × V)) (last : K × V) → lent ≡ es → es ≡ table → Some last ≡ slice_get lent (length lent - 1) → IsTable R es
      → (below_all R last.0 rows && is_sorted R rows) ≡ is_sorted R (table ++ rows)
  come_behind_last lent es table rows last is seen at rising =
      let inside : length lent - 1 + 1 ≡ length lent = last_place lent last at in
      let sorted : T (is_sorted R lent) = from_true _ (subst (IsTable R) (sym is) rising) in
      same_truth _ _ (λ h. joined lent rows last (length lent - 1) inside (sym at) sorted (first _ _ h) (second _ _ h))
      (λ h. both _ _ (above_last R lent rows last (length lent - 1) (sym at) h) (sorted_back R lent rows h))
      ∙ ap (λ l. is_sorted R (l ++ rows)) (is ∙ seen)

  -- putting in rows that come behind those of a table appends them
  put_all_appends : (rows es : List (K × V)) → T (is_sorted R (es ++ rows)) → put_all R rows es ≡ es ++ rows
  put_all_appends [] es h = sym (append-nil es)
  put_all_appends (row ∷ rows) es h =
      ap (put_all R rows) (ap (put R row.0 row.1) (sym (append-nil es)) ∙ put_beyond o row es [] (all_below R es row rows h))
      ∙ put_all_appends rows (es ++ row ∷ []) (subst (λ l. T (is_sorted R l)) (sym (append_assoc es (row ∷ []) rows)) h)
      ∙ append_assoc es (row ∷ []) rows

  pub put_ends_behind : {E : Type 0} (rows es table new : List (K × V)) (r : Result (Unit {0}) E) → es ≡ table → new ≡ (if is_ok r then es ++ rows else es) → IsTable R (table ++ rows)
      → OnOk r (new ≡ put_all R rows table)
  put_ends_behind rows es table new (Ok _) seen is behind = is ∙ ap (λ l. l ++ rows) seen ∙ sym (put_all_appends rows table (from_true _ behind))
  put_ends_behind rows es table new (Err _) seen is behind = tt

  -- rows in rising order, put into an empty table, are the table
  pub put_into_none : (rows es table : List (K × V)) (n : ℕ) → n ≡ length es → (n == 0) ≡ true → es ≡ table → IsTable R (table ++ rows) → rows ≡ put_all R rows table
  put_into_none rows [] table n is none seen behind =
      sym (put_all_appends rows [] (from_true _ (subst (λ l. IsTable R (l ++ rows)) (sym seen) behind))) ∙ ap (put_all R rows) seen
  put_into_none rows (x ∷ es) table n is none seen behind = let zero_rows : n ≡ 0 = eqb-true n 0 none in absurd (omega arith)

  -- rows that rise are in the order of their keys
  pub rising_in_order : (rows : List (K × V)) → is_sorted R rows ≡ true → IsSortedByKey (λ e. e.0) R rows
  rising_in_order rows rising k d low inside =
      ap is_lt (o.antisymm (get_or rows (k + 1) d).0 (get_or rows k d).0 ∙ ap ordering_reverse (rises R rows (from_true _ rising) k (k + 1) d (omega arith) inside))

  -- the first rows of a table are a table
  pub take_is_table : (n : ℕ) (es : List (K × V)) → IsTable R es → IsTable R (take n es)
  take_is_table n es rising = true_from _ (sorted_front R (take n es) (drop n es) (subst (λ l. T (is_sorted R l)) (sym (take_drop n es)) (from_true _ rising)))
