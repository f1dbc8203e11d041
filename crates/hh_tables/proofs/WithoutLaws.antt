-- A table without the row of a key.
use Rattle.std.proofs.Common.{◌≡◌, ℕ, zero, suc, ◌<◌, [], ◌∷◌, length, get_or, true, false, cond, refl, sym, ap, subst, ◌∙◌, Option, Some, None, Ordering, arith}
use Rattle.std.specs.Prelude.{remove, not, is_some, IsSome, T}
use Rattle.std.specs.BTreeMap.{is_at}
use Rattle.std.specs.Map.{remove_entry}
use Rattle.std.specs.Cmp.{IsTotalOrder, alike_right, eq_by_cmp_equiv, tied_back}
use Rattle.std.specs.FinMap.{find, put, is_sorted}
use Rattle.std.specs.FinMap.Entries.{below_all, by_order, find-where_key, is_sorted-where_key}
use Rattle.std.specs.List.{HoldsAt}
use Rattle.std.specs.List.Sorted.{IsNonDecreasingBy, IsPartitionPoint}
use Rattle.std.specs.Ordering.{eq_by_cmp, is_eq, ordering_index, ordering_reverse}
use Rattle.std.specs.declared.cmp.Ordering.TheVariants.{Less, Equal, Greater}
use Rattle.hh_tables.specs.Tables.{IsTable, Table, with_before, without}
use Rattle.hh_tables.proofs.MergeLaws.{from_true, true_from}
use Rattle.hh_tables.proofs.OrderLaws.{below_at}
use Rattle.hh_tables.proofs.RowLaws.{below_less, below_tied, first, less, second}
use Rattle.hh_tables.proofs.SearchLaws.{missed_in}
use Rattle.hh_tables.proofs.TableLaws.{false_is_not_true}

module _ {K V : Type 0} {R : K → K → Ordering} (o : IsTotalOrder R) where
  -- a key is found without another, and not without itself
  pub find-without : (q k : K) (es : Table K V) → find R q (without R k es) ≡ cond (not (eq_by_cmp R k q)) (find R q es) None
  find-without q k es = find-where_key R (λ x. not (eq_by_cmp R k x)) q (λ x tied. ap (λ r. not (is_eq r)) (sym (alike_right o q x k tied))) es

  pub sorted-without : (k : K) (es : Table K V) → T (is_sorted R es) → T (is_sorted R (without R k es))
  sorted-without k es rising = is_sorted-where_key R (λ x. not (eq_by_cmp R k x)) es rising

  -- a table whose keys are all above a key has no row of it to be taken out
  without_below : (k : K) (es : Table K V) → T (below_all R k es) → without R k es ≡ es
  without_below k [] h = refl
  without_below k (e ∷ es) h = ap (λ r. cond (not (is_eq r)) (e ∷ without R k es) (without R k es)) (less _ (first _ _ h)) ∙ ap (λ xs. e ∷ xs) (without_below k es (second _ _ h))

  -- the rows behind the one of a key are those without it
  behind_it : (k : K) (e : K × V) (es : Table K V) → R k e.0 ≡ Equal → T (is_sorted R (e ∷ es)) → without R k (e ∷ es) ≡ es
  behind_it k e es tied h =
      ap (λ r. cond (not (is_eq r)) (e ∷ without R k es) (without R k es)) tied ∙ without_below k es (below_tied o k e.0 es tied (first _ _ h))

  -- a tree's removal takes out the row of a key
  pub removed_entry : (k : K) (es : Table K V) → T (is_sorted R es) → remove_entry (is_at (R k)) es ≡ without R k es
  removed_entry k [] h = refl
  removed_entry k (e ∷ es) h = elim (R k e.0) as (λ r. R k e.0 ≡ r → cond (is_eq r) es (e ∷ remove_entry (is_at (R k)) es) ≡ cond (not (is_eq r)) (e ∷ without R k es) (without R k es)) [
    | Equal ↦ λ tied. sym (without_below k es (below_tied o k e.0 es tied (first _ _ h)))
    | Less ↦ λ apart. ap (λ xs. e ∷ xs) (removed_entry k es (second _ _ h))
    | Greater ↦ λ apart. ap (λ xs. e ∷ xs) (removed_entry k es (second _ _ h))
  ] refl

  -- so does a list's at the place of the row
  removed_at : (es : Table K V) → T (is_sorted R es) → (k : K) (i : ℕ) (d : K × V) → i < length es → R (get_or es i d).0 k ≡ Equal → remove es i ≡ without R k es
  removed_at [] h k i d in' is = absurd (omega arith)
  removed_at (e ∷ es) h k zero d in' is = sym (behind_it k e es (tied_back o e.0 k is) h)
  removed_at (e ∷ es) h k (suc i) d in' is =
      ap (λ xs. e ∷ xs) (removed_at es (second _ _ h) k i d (omega arith) is)
      ∙ ap (λ r. cond (not (is_eq r)) (e ∷ without R k es) (without R k es))
      (sym (o.antisymm k e.0 ∙ ap ordering_reverse (sym (alike_right o (get_or es i d).0 k e.0 is) ∙ below_at R e.0 es (first _ _ h) i d (omega arith))))

  -- a table in which a key isn't found stays without it
  pub without_none : (k : K) (es : Table K V) → find R k es ≡ None → without R k es ≡ es
  without_none k [] none = refl
  without_none k (e ∷ es) none = elim (eq_by_cmp R k e.0) as (λ b. cond b (Some e.1) (find R k es) ≡ None → cond (not b) (e ∷ without R k es) (without R k es) ≡ e ∷ es) [
    | true ↦ λ n. cc
    | false ↦ λ n. ap (λ xs. e ∷ xs) (without_none k es n)
  ] none

  -- what was put under a key is undone by its former row, or by taking it out
  undone_new : (k : K) (v : V) (es : Table K V) → T (is_sorted R es) → find R k es ≡ None → without R k (put R k v es) ≡ es
  undone_new k v [] h none = ap (λ b. cond (not b) ((k, v) ∷ []) []) ((eq_by_cmp_equiv o).refl k)
  undone_new k v (e ∷ es) h none = elim (R k e.0) as (λ r. R k e.0 ≡ r → cond (is_eq r) (Some e.1) (find R k es) ≡ None
      → without R k (by_order r ((k, v) ∷ e ∷ es) ((e.0, v) ∷ es) (e ∷ put R k v es)) ≡ e ∷ es) [
        | Less ↦ λ is n. ap (λ b. cond (not b) ((k, v) ∷ without R k (e ∷ es)) (without R k (e ∷ es))) ((eq_by_cmp_equiv o).refl k)
            ∙ without_none k (e ∷ es) (ap (λ r. cond (is_eq r) (Some e.1) (find R k es)) is ∙ n)
        | Equal ↦ λ is n. cc
        | Greater ↦ λ is n. ap (λ r. cond (not (is_eq r)) (e ∷ without R k (put R k v es)) (without R k (put R k v es))) is
            ∙ ap (λ xs. e ∷ xs) (undone_new k v es (second _ _ h) n)
      ] refl none

  undone_known : (k : K) (v w : V) (es : Table K V) → find R k es ≡ Some w → T (is_sorted R es) → put R k w (put R k v es) ≡ es
  undone_known k v w [] some h = cc
  undone_known k v w (e ∷ es) some h = elim (R k e.0) as (λ r. R k e.0 ≡ r → cond (is_eq r) (Some e.1) (find R k es) ≡ Some w
      → put R k w (by_order r ((k, v) ∷ e ∷ es) ((e.0, v) ∷ es) (e ∷ put R k v es)) ≡ e ∷ es) [
        | Less ↦ λ is s. absurd (none_is_not_some w (sym (find_below k es (below_less o k e.0 es is (first _ _ h))) ∙ s))
        | Equal ↦ λ is s. ap (λ r. by_order r ((k, w) ∷ (e.0, v) ∷ es) ((e.0, w) ∷ es) ((e.0, v) ∷ put R k w es)) is ∙ ap (λ x. (e.0, x) ∷ es) (some_same w e.1 (sym s))
        | Greater ↦ λ is s. ap (λ r. by_order r ((k, w) ∷ e ∷ put R k v es) ((e.0, w) ∷ put R k v es) (e ∷ put R k w (put R k v es))) is
            ∙ ap (λ xs. e ∷ xs) (undone_known k v w es s (second _ _ h))
      ] refl some
    where
      none_is_not_some : (x : V) → None ≡ Some x → ⊥
      none_is_not_some x is = cc

      some_same : (x y : V) → Some x ≡ Some y → x ≡ y
      some_same x y is = cc

      find_below : (q : K) (xs : Table K V) → T (below_all R q xs) → find R q xs ≡ None
      find_below q [] h = refl
      find_below q (x ∷ xs) h = ap (λ r. cond (is_eq r) (Some x.1) (find R q xs)) (less _ (first _ _ h)) ∙ find_below q xs (second _ _ h)

  pub undone : (k : K) (v : V) (before : Option V) (es : Table K V) → T (is_sorted R es) → find R k es ≡ before → with_before R k before (put R k v es) ≡ es
  undone k v None es h is = undone_new k v es h is
  undone k v (Some w) es h is = undone_known k v w es is h

  -- the table after a removal from a tree
  pub removed_table : (k : K) (es new : Table K V) → IsTable R es → new ≡ remove_entry (is_at (R k)) es → IsTable R new
  removed_table k es new rising is = subst (IsTable R) (sym (is ∙ removed_entry k es (from_true _ rising))) (true_from _ (sorted-without k es (from_true _ rising)))

  -- the same for a list that is lent for the search
  module _ (lent es table : Table K V) (is : lent ≡ es) (seen : es ≡ table) (rising : IsTable R es) (k : K) where
    pub removed_in : (i : ℕ) → HoldsAt (λ e. R e.0 k ≡ Equal) lent i → i < length lent → remove es i ≡ without R k es
    removed_in i here in' = elim es as (λ xs. T (is_sorted R xs) → HoldsAt (λ e. R e.0 k ≡ Equal) xs i → i < length xs → remove xs i ≡ without R k xs) [
      | [] ↦ λ h at low. absurd (omega arith)
      | (e ∷ more) ↦ λ h at low. removed_at (e ∷ more) h k i e low (at e)
    ] (from_true _ rising) (subst (λ l. HoldsAt (λ e. R e.0 k ≡ Equal) l i) is here) (subst (λ l. i < length l) is in')

    pub without_is_table : (new : Table K V) → new ≡ without R k es → IsTable R new
    without_is_table new e = subst (IsTable R) (sym e) (true_from _ (sorted-without k es (from_true _ rising)))

    -- no row of the key is there to be given back or taken out
    pub none_back : (before : Option V) (i : ℕ) → (IsNonDecreasingBy (λ e. ordering_index (R e.0 k)) lent → IsPartitionPoint (λ e. R e.0 k ≡ Less) (λ e. R e.0 k ≡ Greater) lent i)
        → (IsSome before → IsSome (find R k table)) → table ≡ with_before R k before table
    none_back None i between there = sym (without_none k table (sym (missed_in o lent es table is seen rising k i between)))
    none_back (Some w) i between there = absurd (false_is_not_true (ap is_some (missed_in o lent es table is seen rising k i between) ∙ there refl))
