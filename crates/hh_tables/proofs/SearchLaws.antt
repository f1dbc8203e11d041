-- Where a binary search among the rows of a table ends, and which row is there.
use Rattle.std.proofs.Common.{◌≡◌, ℕ, zero, suc, ◌+◌, ◌<◌, List, [], ◌∷◌, length, get_or, set, false, cond, refl, sym, ap, subst, ◌∙◌, arith, Some, None, Ordering, inl, inr}
use Rattle.std.specs.Prelude.{T, insert}
use Rattle.std.specs.Cmp.{IsTotalOrder, alike_right, eq_by_cmp_equiv, tied_back}
use Rattle.std.specs.FinMap.{find, put, is_sorted}
use Rattle.std.specs.FinMap.Entries.{by_order, is_sorted-put}
use Rattle.std.specs.List.{HoldsAt}
use Rattle.std.specs.List.Sorted.{IsNonDecreasingBy, IsPartitionPoint}
use Rattle.std.specs.Ordering.{is_eq, is_lt, ordering_index, ordering_reverse}
use Rattle.std.specs.declared.cmp.Ordering.TheVariants.{Less, Equal, Greater}
use Rattle.std.proofs.lemmas.Bool.{cases_lt}
use Rattle.std.proofs.lemmas.List.Sorted.{searchable_from_sorted}
use Rattle.hh_tables.specs.Tables.{IsTable}
use Rattle.hh_tables.proofs.MergeLaws.{from_true, true_from}
use Rattle.hh_tables.proofs.OrderLaws.{below_at, rises}
use Rattle.hh_tables.proofs.RowLaws.{first, second}

module _ {K V : Type 0} {R : K → K → Ordering} (o : IsTotalOrder R) where
  -- the rows are in the order that a binary search requires
  pub searchable : (es : List (K × V)) → IsTable R es → (k : K) → IsNonDecreasingBy (λ row. ordering_index (R row.0 k)) es
  searchable es rising k = searchable_from_sorted o (λ row. row.0) es k (λ j d low high.
      ap is_lt (o.antisymm (get_or es (j + 1) d).0 (get_or es j d).0 ∙ ap ordering_reverse (rises R es (from_true _ rising) j (j + 1) d (omega arith) high)))

  -- if a search ends at a row, that row is the one of its key
  found_sorted : (es : List (K × V)) → T (is_sorted R es) → (k : K) (i : ℕ) (d : K × V) → i < length es → R (get_or es i d).0 k ≡ Equal → find R k es ≡ Some (get_or es i d).1
  found_sorted [] h k i d in' is = absurd (omega arith)
  found_sorted (e ∷ es) h k zero d in' is = ap (λ r. cond (is_eq r) (Some e.1) (find R k es)) (tied_back o e.0 k is)
  found_sorted (e ∷ es) h k (suc i) d in' is =
      ap (λ r. cond (is_eq r) (Some e.1) (find R k es)) (o.antisymm k e.0 ∙ ap ordering_reverse (sym (alike_right o (get_or es i d).0 k e.0 is) ∙ below_at R e.0 es (first _ _ h) i d (omega arith)))
      ∙ found_sorted es (second _ _ h) k i d (omega arith) is

  found : (es : List (K × V)) → IsTable R es → (k : K) (i : ℕ) (row : K × V) → i < length es → row ≡ get_or es i row → ((d : K × V) → R (get_or es i d).0 k ≡ Equal) → Some row.1 ≡ find R k es
  found es rising k i row in' is here = ap (λ (e : K × V). Some e.1) is ∙ sym (found_sorted es (from_true _ rising) k i row in' (here row))

  -- no row has the key if its place is between the lower and the higher keys
  none_of : (es : List (K × V)) (k : K) → ((j : ℕ) (d : K × V) → j < length es → is_eq (R (get_or es j d).0 k) ≡ false) → find R k es ≡ None
  none_of [] k apart = refl
  none_of (e ∷ es) k apart =
      ap (λ b. cond b (Some e.1) (find R k es)) ((eq_by_cmp_equiv o).symm k e.0 ∙ apart zero e (omega arith)) ∙ none_of es k (λ j d in'. apart (suc j) d (omega arith))

  missed : (es : List (K × V)) (k : K) (i : ℕ) → IsPartitionPoint (λ row. R row.0 k ≡ Less) (λ row. R row.0 k ≡ Greater) es i → None ≡ find R k es
  missed es k i (below, above) = sym (none_of es k (λ j d in'. elim (cases_lt j i) [
    | inl lt ↦ ap is_eq (below j d (omega arith) lt)
    | inr le ↦ ap is_eq (above j d le in')
  ]))

  -- a row put where its key was found, or between the lower and the higher keys
  put_found : (es : List (K × V)) → T (is_sorted R es) → (k : K) (v : V) (i : ℕ) (d : K × V) → i < length es → R (get_or es i d).0 k ≡ Equal → set es i ((get_or es i d).0, v) ≡ put R k v es
  put_found [] h k v i d in' is = absurd (omega arith)
  put_found (e ∷ es) h k v zero d in' is = ap (λ r. by_order r ((k, v) ∷ e ∷ es) ((e.0, v) ∷ es) (e ∷ put R k v es)) (sym (tied_back o e.0 k is))
  put_found (e ∷ es) h k v (suc i) d in' is =
      ap (λ l. e ∷ l) (put_found es (second _ _ h) k v i d (omega arith) is)
      ∙ ap (λ r. by_order r ((k, v) ∷ e ∷ es) ((e.0, v) ∷ es) (e ∷ put R k v es)) (sym (o.antisymm k e.0 ∙ ap ordering_reverse (sym (alike_right o (get_or es i d).0 k e.0 is) ∙ below_at R e.0 es (first _ _ h) i d (omega arith))))

  put_missed : (es : List (K × V)) (k : K) (v : V) (i : ℕ) → IsPartitionPoint (λ row. R row.0 k ≡ Less) (λ row. R row.0 k ≡ Greater) es i → insert es i (k, v) ≡ put R k v es
  put_missed [] k v zero (below, above) = refl
  put_missed [] k v (suc i) (below, above) = refl
  put_missed (e ∷ es) k v zero (below, above) =
      ap (λ r. by_order r ((k, v) ∷ e ∷ es) ((e.0, v) ∷ es) (e ∷ put R k v es)) (sym (o.antisymm k e.0 ∙ ap ordering_reverse (above zero e (omega arith) (omega arith))))
  put_missed (e ∷ es) k v (suc i) (below, above) =
      ap (λ l. e ∷ l) (put_missed es k v i ((λ j d low high. below (suc j) d (omega arith) (omega arith)), (λ j d low high. above (suc j) d (omega arith) (omega arith))))
      ∙ ap (λ r. by_order r ((k, v) ∷ e ∷ es) ((e.0, v) ∷ es) (e ∷ put R k v es)) (sym (o.antisymm k e.0 ∙ ap ordering_reverse (below zero e (omega arith) (omega arith))))

  -- the same for a list that is lent for the search
  module _ (lent es table : List (K × V)) (is : lent ≡ es) (seen : es ≡ table) (rising : IsTable R es) (k : K) where
    pub found_in : (i : ℕ) (row : K × V) → HoldsAt (λ e. R e.0 k ≡ Equal) lent i → i < length lent → row ≡ get_or es i row → Some row.1 ≡ find R k table
    found_in i row here in' at =
        found es rising k i row (subst (λ l. i < length l) is in') at (subst (λ l. HoldsAt (λ e. R e.0 k ≡ Equal) l i) is here) ∙ ap (find R k) seen

    pub missed_in : (i : ℕ) → (IsNonDecreasingBy (λ e. ordering_index (R e.0 k)) lent → IsPartitionPoint (λ e. R e.0 k ≡ Less) (λ e. R e.0 k ≡ Greater) lent i) → None ≡ find R k table
    missed_in i between = missed lent k i (between (subst (λ l. IsNonDecreasingBy (λ e. ordering_index (R e.0 k)) l) (sym is) (searchable es rising k))) ∙ ap (find R k) (is ∙ seen)

    pub put_found_in : (v : V) (i : ℕ) (row : K × V) → HoldsAt (λ e. R e.0 k ≡ Equal) lent i → i < length lent → row ≡ get_or es i row → set es i (row.0, v) ≡ put R k v es
    put_found_in v i row here in' at =
        ap (λ (e : K × V). set es i (e.0, v)) at
        ∙ put_found es (from_true _ rising) k v i row (subst (λ l. i < length l) is in') (subst (λ l. HoldsAt (λ e. R e.0 k ≡ Equal) l i) is here row)

    pub put_missed_in : (v : V) (i : ℕ) → (IsNonDecreasingBy (λ e. ordering_index (R e.0 k)) lent → IsPartitionPoint (λ e. R e.0 k ≡ Less) (λ e. R e.0 k ≡ Greater) lent i) → insert es i (k, v) ≡ put R k v es
    put_missed_in v i between =
        put_missed es k v i (subst (λ l. IsPartitionPoint (λ e. R e.0 k ≡ Less) (λ e. R e.0 k ≡ Greater) l i) is
        (between (subst (λ l. IsNonDecreasingBy (λ e. ordering_index (R e.0 k)) l) (sym is) (searchable es rising k))))

    pub put_is_table : (v : V) (new : List (K × V)) → new ≡ put R k v es → IsTable R new
    put_is_table v new e = subst (IsTable R) (sym e) (true_from _ (is_sorted-put R o k v es (from_true _ rising)))
