-- The keys of a table's rows rise; this is what a binary search requires of the rows.
use Rattle.std.proofs.Common.{◌≡◌, ℕ, zero, suc, ◌+◌, ◌<◌, ◌≤◌, List, [], ◌∷◌, length, get_or, true, false, refl, sym, ap, subst, ◌∙◌, Ordering, arith, inl, inr}
use Rattle.std.specs.Prelude.{T}
use Rattle.std.specs.Cmp.{IsTotalOrder}
use Rattle.std.specs.FinMap.{is_sorted}
use Rattle.std.specs.FinMap.Entries.{below_all}
use Rattle.std.specs.List.Sorted.{IsNonDecreasingBy, IsPartitionedBy}
use Rattle.std.specs.Ordering.{is_le, is_lt, ordering_index}
use Rattle.std.specs.declared.cmp.Ordering.TheVariants.{Less, Equal, Greater}
use Rattle.std.proofs.lemmas.Bool.{cases_lt}
use Rattle.std.proofs.lemmas.List.{get_or_default}
use Rattle.hh_tables.proofs.RowLaws.{both, first, second, is_less, less}

pub is_less_by : (r : Ordering) → is_lt r ≡ true → r ≡ Less
is_less_by r is = less r (subst T (sym is) tt)

-- of two orderings, the one with the lesser number is Less if the other is
lt_by_index : (a b : Ordering) → ordering_index a ≤ ordering_index b → is_lt b ≡ true → is_lt a ≡ true
lt_by_index Less b h k = refl
lt_by_index a Equal h k = cc
lt_by_index a Greater h k = cc
lt_by_index Equal Less h k = absurd (omega (arith, h))
lt_by_index Greater Less h k = absurd (omega (arith, h))

le_by_index : (a b : Ordering) → ordering_index a ≤ ordering_index b → is_le b ≡ true → is_le a ≡ true
le_by_index Less b h k = refl
le_by_index Equal b h k = refl
le_by_index a Greater h k = cc
le_by_index Greater Less h k = absurd (omega (arith, h))
le_by_index Greater Equal h k = absurd (omega (arith, h))

module _ {E : Type 0} (order : E → Ordering) where
  -- what the searches require: for the first row that is not below, and for the first that is above
  pub below_partitions : (es : List E) → IsNonDecreasingBy (λ e. ordering_index (order e)) es → IsPartitionedBy (λ e. is_lt (order e)) es
  below_partitions es rising i j d le inside is = lt_by_index (order (get_or es i d)) (order (get_or es j d)) (rising i j d le inside) is

  pub up_to_partitions : (es : List E) → IsNonDecreasingBy (λ e. ordering_index (order e)) es → IsPartitionedBy (λ e. is_le (order e)) es
  up_to_partitions es rising i j d le inside is = le_by_index (order (get_or es i d)) (order (get_or es j d)) (rising i j d le inside) is

module _ {K V : Type 0} (R : K → K → Ordering) where
  pub below_at : (k : K) (es : List (K × V)) → T (below_all R k es) → (j : ℕ) (d : K × V) → j < length es → R k (get_or es j d).0 ≡ Less
  below_at k [] h j d in' = absurd (omega (arith, in'))
  below_at k (e ∷ es) h zero d in' = less _ (first _ _ h)
  below_at k (e ∷ es) h (suc j) d in' = below_at k es (second _ _ h) j d (omega (arith, in'))

  -- each key is below each later one
  pub rises : (es : List (K × V)) → T (is_sorted R es) → (i j : ℕ) (d : K × V) → i < j → j < length es → R (get_or es i d).0 (get_or es j d).0 ≡ Less
  rises [] h i j d lt in' = absurd (omega (arith, in'))
  rises (e ∷ es) h i zero d lt in' = absurd (omega (arith, lt))
  rises (e ∷ es) h zero (suc j) d lt in' = below_at e.0 es (first _ _ h) j d (omega (arith, in'))
  rises (e ∷ es) h (suc i) (suc j) d lt in' = rises es (second _ _ h) i j d (omega (arith, lt)) (omega (arith, in'))

  -- each key before a place is below the key after it
  abbrev pub RisesUpTo : List (K × V) → ℕ → Type 0
  RisesUpTo es place = (j : ℕ) (d : K × V) → suc j < place → R (get_or es j d).0 (get_or es (suc j) d).0 ≡ Less

  -- the same with one more key that is below the key after it
  pub rises_one_more : (es : List (K × V)) (i place : ℕ) (x y : K × V) → i + 1 ≡ place → place < length es → RisesUpTo es place → R (get_or es i x).0 (get_or es place y).0 ≡ Less
      → RisesUpTo es (place + 1)
  rises_one_more es i place x y is in' so_far next j d low = elim (cases_lt (suc j) place) [
    | inl lt ↦ so_far j d lt
    | inr le ↦
        let here : j ≡ i = omega (arith, is, le, low) in
        let behind : suc j ≡ place = omega (arith, is, le, low) in
        (λ k. R (get_or es (here k) d).0 (get_or es (behind k) d).0)
        ∙ (λ k. R (get_or_default es i d x (omega (arith, is, in')) k).0 (get_or_default es place d y in' k).0)
        ∙ next
  ]

  -- if one key is not below the next, the keys don't rise
  pub not_sorted_at : (es : List (K × V)) (i place : ℕ) (x y : K × V) → i + 1 ≡ place → place < length es → is_lt (R (get_or es i x).0 (get_or es place y).0) ≡ false → is_sorted R es ≡ false
  not_sorted_at es i place x y is in' not_next = elim (is_sorted R es) as (λ b. is_sorted R es ≡ b → b ≡ false) [
    | false ↦ λ e. refl
    | true ↦ λ e. absurd (true_is_not_false (sym (ap is_lt (rises es (subst T (sym e) tt) i place x (omega (arith, is)) in'))
        ∙ ap (λ (f : K × V). is_lt (R (get_or es i x).0 f.0)) (get_or_default es place x y in') ∙ not_next))
  ] refl
    where
      true_is_not_false : true ≡ false → ⊥
      true_is_not_false e = cc

  -- keys rise if each is below the next
  module _ (o : IsTotalOrder R) where
    below_next : (k : K) (es : List (K × V)) → ((d : K × V) → 0 < length es → R k (get_or es 0 d).0 ≡ Less) → T (is_sorted R es) → T (below_all R k es)
    below_next k [] next h = tt
    below_next k (e ∷ es) next h = let is : R k e.0 ≡ Less = next e (omega arith) in both _ _ (is_less _ is) (below_through k e.0 es is (first _ _ h))
      where
        below_through : (k j : K) (es : List (K × V)) → R k j ≡ Less → T (below_all R j es) → T (below_all R k es)
        below_through k j [] p h = tt
        below_through k j (e ∷ es) p h = both _ _ (is_less _ (o.trans k j e.0 p (less _ (first _ _ h)))) (below_through k j es p (second _ _ h))

    sorted_from_neighbours : (es : List (K × V)) → RisesUpTo es (length es) → T (is_sorted R es)
    sorted_from_neighbours [] rising = tt
    sorted_from_neighbours (e ∷ es) rising =
        let rest : T (is_sorted R es) = sorted_from_neighbours es (λ j d in'. rising (suc j) d (omega (arith, in'))) in
        both _ _ (below_next e.0 es (λ d in'. rising zero d (omega (arith, in'))) rest) rest

    pub sorted_to : (es : List (K × V)) (place : ℕ) → length es ≤ place → RisesUpTo es place → T (is_sorted R es)
    sorted_to es place end rising = sorted_from_neighbours es (λ j d in'. rising j d (omega (arith, in', end)))
