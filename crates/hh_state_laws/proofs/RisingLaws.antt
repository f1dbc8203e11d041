-- Lists that rise, and tables from which the entries under some keys are read.
use Rattle.std.proofs.Common.{◌≡◌, ℕ, ◌<◌, List, [], ◌∷◌, ◌++◌, map, refl, sym, ap, ◌∙◌, Bool, true, false, cond, Some, None, Ordering}
use Rattle.std.specs.Prelude.{filter, filter_map, not, T}
use Rattle.std.specs.Cmp.{IsTotalOrder, nat_cmp_is}
use Rattle.std.specs.FinMap.{find, is_sorted}
use Rattle.std.specs.FinMap.Entries.{below_all, find-where_key, is_sorted-where_key, same_entries}
use Rattle.std.specs.List.{AllByRecursion, cons_option, flat_map}
use Rattle.std.specs.Ordering.{is_lt, nat_cmp, ordering_then}
use Rattle.std.specs.declared.cmp.Ordering.TheVariants.{Less, Equal, Greater}
use Rattle.std.proofs.lemmas.List.{append-nil}
use Rattle.std.proofs.lemmas.List.Elements.{filter-append}
use Rattle.hh_tables.specs.Tables.{in_key_order}
use Rattle.hh_tables.proofs.RowLaws.{both, first, second}
use Rattle.hh_tables.proofs.TableLaws.{find-in_key_order, is_sorted-in_key_order}
use Rattle.hh_state_laws.proofs.ApartLaws.{NoneAlike, all-before-map, all-weaken}

-- whether a key does not come before another
abbrev pub is_not_below : {K : Type 0} → (K → K → Ordering) → K → K → Bool
is_not_below R x y = not (is_lt (R x y))

-- each element of a list comes before all later ones, by their keys
abbrev pub Rises : {K X : Type 0} → (K → K → Ordering) → (X → K) → List X → Type 0
Rises R key xs = NoneAlike (λ x y. is_not_below R (key x) (key y)) xs

-- a lesser number comes before a greater one
pub less_number : (a b : ℕ) → a < b → is_not_below nat_cmp a b ≡ false
less_number a b below = ap (λ o. not (is_lt o)) (sym (nat_cmp_is a b Less below))

-- if the first of two parts comes before, the whole does
pub first_below : (o p : Ordering) → not (is_lt o) ≡ false → not (is_lt (ordering_then o p)) ≡ false
first_below Less p h = refl
first_below Equal p h = cc
first_below Greater p h = cc

-- if the first of two parts is equal and the second comes before, the whole does
pub second_below : (o p : Ordering) → o ≡ Equal → not (is_lt p) ≡ false → not (is_lt (ordering_then o p)) ≡ false
second_below o p ties h = ap (λ x. not (is_lt (ordering_then x p))) ties ∙ h

-- if the first two of three parts come before, the whole does
pub two_parts_below : (o p r : Ordering) → not (is_lt (ordering_then o p)) ≡ false → not (is_lt (ordering_then o (ordering_then p r))) ≡ false
two_parts_below Less p r h = refl
two_parts_below Equal p r h = first_below p r h
two_parts_below Greater p r h = cc

-- if the opposite of a test fails, the test holds
not_false : (b : Bool) → not b ≡ false → T b
not_false true h = tt
not_false false h = cc

-- if a test holds, its opposite fails
false_not : (b : Bool) → T b → not b ≡ false
false_not true h = refl
false_not false h = absurd h

module _ {K V : Type 0} (R : K → K → Ordering) where
  -- a key that comes before the key of each entry is below all
  below : (k : K) (es : List (K × V)) → AllByRecursion (λ e. is_not_below R k e.0 ≡ false) es → T (below_all R k es)
  below k [] h = tt
  below k (e ∷ es) h = both (is_lt (R k e.0)) (below_all R k es) (not_false (is_lt (R k e.0)) h.0) (below k es h.1)

  -- and conversely
  not_below : (k : K) (es : List (K × V)) → T (below_all R k es) → AllByRecursion (λ e. is_not_below R k e.0 ≡ false) es
  not_below k [] h = tt
  not_below k (e ∷ es) h =
      (false_not (is_lt (R k e.0)) (first (is_lt (R k e.0)) (below_all R k es) h), not_below k es (second (is_lt (R k e.0)) (below_all R k es) h))

  -- entries that rise are a table
  pub sorted_if_rising : (es : List (K × V)) → Rises R (λ e. e.0) es → T (is_sorted R es)
  sorted_if_rising [] h = tt
  sorted_if_rising (e ∷ es) h = both (below_all R e.0 es) (is_sorted R es) (below e.0 es h.0) (sorted_if_rising es h.1)

  -- and the entries of a table rise
  pub rising_if_sorted : (es : List (K × V)) → T (is_sorted R es) → Rises R (λ e. e.0) es
  rising_if_sorted [] h = tt
  rising_if_sorted (e ∷ es) h =
      (not_below e.0 es (first (below_all R e.0 es) (is_sorted R es) h), rising_if_sorted es (second (below_all R e.0 es) (is_sorted R es) h))

module _ {K V : Type 0} {R : K → K → Ordering} (o : IsTotalOrder R) (exact : (x y : K) → R x y ≡ Equal → x ≡ y) where
  -- sorting entries that rise leaves them as they are
  in_key_order_stays : (es : List (K × V)) → Rises R (λ e. e.0) es → in_key_order R es ≡ es
  in_key_order_stays es rising =
      same_entries R o exact (in_key_order R es) es (is_sorted-in_key_order o es) (sorted_if_rising R es rising) (find-in_key_order o es)

  module _ (passes : K → Bool) where
    -- it makes no difference whether the entries whose keys pass are taken after sorting or before
    filter-in_key_order : (es : List (K × V)) → filter (λ e. passes e.0) (in_key_order R es) ≡ in_key_order R (filter (λ e. passes e.0) es)
    filter-in_key_order es =
        same_entries R o exact _ _
        (is_sorted-where_key R passes (in_key_order R es) (is_sorted-in_key_order o es))
        (is_sorted-in_key_order o (filter (λ e. passes e.0) es))
        (λ q. found q (in_key_order R es)
        ∙ ap (λ v. cond (passes q) v None) (find-in_key_order o es q)
        ∙ sym (found q es)
        ∙ sym (find-in_key_order o (filter (λ e. passes e.0) es) q))
      where
        -- the value under a key among the entries that pass
        found : (q : K) (fs : List (K × V)) → find R q (filter (λ e. passes e.0) fs) ≡ cond (passes q) (find R q fs) None
        found q = find-where_key R passes q (λ x ties. ap passes (sym (exact q x ties)))

    -- so entries that pass and rise are read in the order in which they came
    pub read_as_they_came : (es : List (K × V)) → Rises R (λ e. e.0) (filter (λ e. passes e.0) es) → filter (λ e. passes e.0) (in_key_order R es) ≡ filter (λ e. passes e.0) es
    read_as_they_came es rising = filter-in_key_order es ∙ in_key_order_stays (filter (λ e. passes e.0) es) rising

-- mapping the elements that pass
pub filter_map-if : {X Y : Type 0} (test : X → Bool) (f : X → Y) (xs : List X) → filter_map (λ x. cond (test x) (Some (f x)) None) xs ≡ map f (filter test xs)
filter_map-if test f [] = refl
filter_map-if test f (x ∷ xs) = elim (test x) as (λ b. cons_option (cond b (Some (f x)) None) (filter_map (λ y. cond (test y) (Some (f y)) None) xs) ≡ map f (cond b (x ∷ filter test xs) (filter test xs))) [
  | true ↦ ap (λ ys. f x ∷ ys) (filter_map-if test f xs)
  | false ↦ filter_map-if test f xs
]

-- mapping twice
pub map-map : {X Y Z : Type 0} (f : Y → Z) (g : X → Y) (xs : List X) → map f (map g xs) ≡ map (λ x. f (g x)) xs
map-map f g [] = refl
map-map f g (x ∷ xs) = ap (λ ys. f (g x) ∷ ys) (map-map f g xs)

-- the elements that pass after a map
pub filter-map : {X Y : Type 0} (test : Y → Bool) (f : X → Y) (xs : List X) → filter test (map f xs) ≡ map f (filter (λ x. test (f x)) xs)
filter-map test f [] = refl
filter-map test f (x ∷ xs) = elim (test (f x)) as (λ b. cond b (f x ∷ filter test (map f xs)) (filter test (map f xs)) ≡ map f (cond b (x ∷ filter (λ y. test (f y)) xs) (filter (λ y. test (f y)) xs))) [
  | true ↦ ap (λ ys. f x ∷ ys) (filter-map test f xs)
  | false ↦ filter-map test f xs
]

module _ {X : Type 0} (test : X → Bool) where
  -- if all pass, none is left out
  pub filter-all : (xs : List X) → AllByRecursion (λ x. test x ≡ true) xs → filter test xs ≡ xs
  filter-all [] h = refl
  filter-all (x ∷ xs) h = ap (λ b. cond b (x ∷ filter test xs) (filter test xs)) h.0 ∙ ap (λ ys. x ∷ ys) (filter-all xs h.1)

  -- if none passes, none is left
  pub filter-none : (xs : List X) → AllByRecursion (λ x. test x ≡ false) xs → filter test xs ≡ []
  filter-none [] h = refl
  filter-none (x ∷ xs) h = ap (λ b. cond b (x ∷ filter test xs) (filter test xs)) h.0 ∙ filter-none xs h.1

  -- the elements that are left pass
  pub filter-passes : (xs : List X) → AllByRecursion (λ x. test x ≡ true) (filter test xs)
  filter-passes [] = tt
  filter-passes (x ∷ xs) = elim (test x) as (λ b. test x ≡ b → AllByRecursion (λ y. test y ≡ true) (cond b (x ∷ filter test xs) (filter test xs))) [
    | true ↦ λ is. (is, filter-passes xs)
    | false ↦ λ is. filter-passes xs
  ] refl

-- if all elements have two properties, all have both together
pub all-both : {X : Type 0} (P Q : X → Type 0) (xs : List X) → AllByRecursion P xs → AllByRecursion Q xs → AllByRecursion (λ x. P x × Q x) xs
all-both P Q [] h k = tt
all-both P Q (x ∷ xs) h k = ((h.0, k.0), all-both P Q xs h.1 k.1)

-- if no two elements are alike after a map, none were before it
pub distinct-before-map : {X Y : Type 0} (alike : Y → Y → Bool) (f : X → Y) (xs : List X) → NoneAlike alike (map f xs) → NoneAlike (λ x y. alike (f x) (f y)) xs
distinct-before-map alike f [] h = tt
distinct-before-map alike f (x ∷ xs) h = (all-before-map (λ y. alike (f x) y ≡ false) f xs h.0, distinct-before-map alike f xs h.1)

-- blocks of elements, each element with the mark of its block
module _ {X Y M : Type 0} (same : M → M → Bool) (itself : (m : M) → same m m ≡ true) (turned : (m n : M) → same m n ≡ same n m)
    (mark : X → M) (mark_of : Y → M) (block : X → List Y) (marked : (x : X) → AllByRecursion (λ y. mark_of y ≡ mark x) (block x)) where
  -- if no block has a mark, no elements have it
  pub no_block : (m : M) (xs : List X) → AllByRecursion (λ x. same m (mark x) ≡ false) xs → filter (λ y. same (mark_of y) m) (flat_map block xs) ≡ []
  no_block m [] others = refl
  no_block m (x ∷ xs) others =
      filter-append (λ y. same (mark_of y) m) (block x) (flat_map block xs)
      ∙ (λ i. filter-none (λ y. same (mark_of y) m) (block x) (all-weaken (λ y. mark_of y ≡ mark x) (λ y. same (mark_of y) m ≡ false) (λ y is. ap (λ n. same n m) is ∙ turned (mark x) m ∙ others.0) (block x) (marked x)) i
      ++ no_block m xs others.1 i)

  -- if no two blocks have the same mark, the elements with a block's mark are the block
  pub own_block : (xs : List X) → NoneAlike (λ x z. same (mark x) (mark z)) xs → AllByRecursion (λ x. filter (λ y. same (mark_of y) (mark x)) (flat_map block xs) ≡ block x) xs
  own_block [] distinct = tt
  own_block (x ∷ xs) distinct = (
    filter-append (λ y. same (mark_of y) (mark x)) (block x) (flat_map block xs)
        ∙ (λ i. filter-all (λ y. same (mark_of y) (mark x)) (block x) (all-weaken (λ y. mark_of y ≡ mark x) (λ y. same (mark_of y) (mark x) ≡ true) (λ y is. ap (λ n. same n (mark x)) is ∙ itself (mark x)) (block x) (marked x)) i
        ++ no_block (mark x) xs distinct.0 i)
        ∙ append-nil (block x),
    all-weaken (λ z. (same (mark x) (mark z) ≡ false) × (filter (λ y. same (mark_of y) (mark z)) (flat_map block xs) ≡ block z))
        (λ z. filter (λ y. same (mark_of y) (mark z)) (block x ++ flat_map block xs) ≡ block z)
        (λ z h. filter-append (λ y. same (mark_of y) (mark z)) (block x) (flat_map block xs)
        ∙ (λ i. filter-none (λ y. same (mark_of y) (mark z)) (block x) (all-weaken (λ y. mark_of y ≡ mark x) (λ y. same (mark_of y) (mark z) ≡ false) (λ y is. ap (λ n. same n (mark z)) is ∙ h.0) (block x) (marked x)) i
        ++ h.1 i))
        xs (all-both (λ z. same (mark x) (mark z) ≡ false) (λ z. filter (λ y. same (mark_of y) (mark z)) (flat_map block xs) ≡ block z) xs distinct.0 (own_block xs distinct.1)),
  )
