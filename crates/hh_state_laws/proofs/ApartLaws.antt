-- Lists no two of whose elements are alike, and tables into which such lists of entries are put.
use Rattle.std.proofs.Common.{◌≡◌, List, [], ◌∷◌, ◌++◌, map, refl, sym, ap, subst, ◌∙◌, Bool, true, false, cond, Some, None, Ordering, append_assoc}
use Rattle.std.specs.Prelude.{◌&&◌, filter, T}
use Rattle.std.specs.Cmp.{IsTotalOrder, eq_by_cmp_equiv}
use Rattle.std.specs.FinMap.{find, is_sorted}
use Rattle.std.specs.FinMap.Entries.{below_all}
use Rattle.std.specs.List.{AllByRecursion, flat_map}
use Rattle.std.specs.Ordering.{eq_by_cmp, is_eq, is_lt, ordering_then}
use Rattle.std.specs.declared.cmp.Ordering.TheVariants.{Less, Equal, Greater}
use Rattle.std.proofs.lemmas.List.{append-nil}
use Rattle.std.proofs.lemmas.Option.{same_Some}
use Rattle.hh_tables.specs.Ends.{last_of}
use Rattle.hh_tables.specs.Tables.{in_key_order, put_all}
use Rattle.hh_state_laws.proofs.LoadLaws.{in_key_order-append}

-- no two elements of a list are alike
abbrev pub NoneAlike : {X : Type 0} → (X → X → Bool) → List X → Type 0
NoneAlike alike [] = Unit {0}
NoneAlike alike (x ∷ xs) = AllByRecursion (λ y. alike x y ≡ false) xs × NoneAlike alike xs

module _ {X : Type 0} (P : X → Type 0) where
  pub all-append : (xs ys : List X) → AllByRecursion P xs → AllByRecursion P ys → AllByRecursion P (xs ++ ys)
  all-append [] ys h k = k
  all-append (x ∷ xs) ys h k = (h.0, all-append xs ys h.1 k)

  pub all-filter : (test : X → Bool) (xs : List X) → AllByRecursion P xs → AllByRecursion P (filter test xs)
  all-filter test [] h = tt
  all-filter test (x ∷ xs) h = elim (test x) as (λ b. AllByRecursion P (cond b (x ∷ filter test xs) (filter test xs))) [ true ↦ (h.0, all-filter test xs h.1) | false ↦ all-filter test xs h.1 ]

  pub all-weaken : (Q : X → Type 0) → ((x : X) → P x → Q x) → (xs : List X) → AllByRecursion P xs → AllByRecursion Q xs
  all-weaken Q weaker [] h = tt
  all-weaken Q weaker (x ∷ xs) h = (weaker x h.0, all-weaken Q weaker xs h.1)

  -- if all elements have a property, those that pass a test have it and pass the test
  pub all_passing : (test : X → Bool) (xs : List X) → AllByRecursion P xs → AllByRecursion (λ x. P x × (test x ≡ true)) (filter test xs)
  all_passing test [] h = tt
  all_passing test (x ∷ xs) h = elim (test x) as (λ b. test x ≡ b → AllByRecursion (λ y. P y × (test y ≡ true)) (cond b (x ∷ filter test xs) (filter test xs))) [
    | true ↦ λ is. ((h.0, is), all_passing test xs h.1)
    | false ↦ λ is. all_passing test xs h.1
  ] refl

module _ {X : Type 0} where
  -- if all elements have a property, so has the last
  pub holds_of_last : (P : X → Type 0) (xs : List X) (x : X) → AllByRecursion P xs → last_of xs ≡ Some x → P x
  holds_of_last P [] x all is = cc
  holds_of_last P (y ∷ []) x all is = subst P (same_Some y x is) all.0
  holds_of_last P (y ∷ z ∷ xs) x all is = holds_of_last P (z ∷ xs) x all.1 is

module _ {X Y : Type 0} (P : Y → Type 0) (f : X → Y) where
  pub all-map : (xs : List X) → AllByRecursion (λ x. P (f x)) xs → AllByRecursion P (map f xs)
  all-map [] h = tt
  all-map (x ∷ xs) h = (h.0, all-map xs h.1)

  pub all-before-map : (xs : List X) → AllByRecursion P (map f xs) → AllByRecursion (λ x. P (f x)) xs
  all-before-map [] h = tt
  all-before-map (x ∷ xs) h = (h.0, all-before-map xs h.1)

module _ {X : Type 0} (alike : X → X → Bool) where
  pub distinct-append : (xs ys : List X) → NoneAlike alike xs → NoneAlike alike ys → AllByRecursion (λ x. AllByRecursion (λ y. alike x y ≡ false) ys) xs → NoneAlike alike (xs ++ ys)
  distinct-append [] ys h k apart = k
  distinct-append (x ∷ xs) ys h k apart =
      (all-append (λ y. alike x y ≡ false) xs ys h.0 apart.0, distinct-append xs ys h.1 k apart.1)

  pub distinct-filter : (test : X → Bool) (xs : List X) → NoneAlike alike xs → NoneAlike alike (filter test xs)
  distinct-filter test [] h = tt
  distinct-filter test (x ∷ xs) h = elim (test x) as (λ b. NoneAlike alike (cond b (x ∷ filter test xs) (filter test xs))) [
    | true ↦ (all-filter (λ y. alike x y ≡ false) test xs h.0, distinct-filter test xs h.1)
    | false ↦ distinct-filter test xs h.1
  ]

  pub distinct-weaken : (other : X → X → Bool) → ((x y : X) → alike x y ≡ false → other x y ≡ false) → (xs : List X) → NoneAlike alike xs → NoneAlike other xs
  distinct-weaken other weaker [] h = tt
  distinct-weaken other weaker (x ∷ xs) h =
      (all-weaken (λ y. alike x y ≡ false) (λ y. other x y ≡ false) (weaker x) xs h.0, distinct-weaken other weaker xs h.1)

pub distinct-map : {X Y : Type 0} (alike : Y → Y → Bool) (f : X → Y) (xs : List X) → NoneAlike (λ x y. alike (f x) (f y)) xs → NoneAlike alike (map f xs)
distinct-map alike f [] h = tt
distinct-map alike f (x ∷ xs) h = (all-map (λ y. alike (f x) y ≡ false) f xs h.0, distinct-map alike f xs h.1)

-- blocks of elements: the elements of a block have the block's mark, and elements with different marks are not alike
module _ {X Y M : Type 0} (same : M → M → Bool) (alike : Y → Y → Bool) (mark : X → M) (mark_of : Y → M) (unlike : (a b : Y) → same (mark_of a) (mark_of b) ≡ false → alike a b ≡ false)
    (block : X → List Y) (marked : (x : X) → AllByRecursion (λ y. mark_of y ≡ mark x) (block x)) where
  -- an element whose mark differs from those of the blocks is like none of their elements
  pub apart_from_blocks : (y : Y) (xs : List X) → AllByRecursion (λ x. same (mark_of y) (mark x) ≡ false) xs → AllByRecursion (λ z. alike y z ≡ false) (flat_map block xs)
  apart_from_blocks y [] h = tt
  apart_from_blocks y (x ∷ xs) h =
      all-append (λ z. alike y z ≡ false) (block x) (flat_map block xs)
      (all-weaken (λ z. mark_of z ≡ mark x) (λ z. alike y z ≡ false) (λ z is. unlike y z (ap (same (mark_of y)) is ∙ h.0)) (block x) (marked x))
      (apart_from_blocks y xs h.1)

  -- if the blocks' marks differ and no block has two alike, the blocks together have no two alike
  pub distinct_blocks : (xs : List X) → AllByRecursion (λ x. NoneAlike alike (block x)) xs → NoneAlike (λ x y. same (mark x) (mark y)) xs → NoneAlike alike (flat_map block xs)
  distinct_blocks [] own h = tt
  distinct_blocks (x ∷ xs) own h =
      distinct-append alike (block x) (flat_map block xs) own.0 (distinct_blocks xs own.1 h.1)
      (all-weaken (λ y. mark_of y ≡ mark x) (λ y. AllByRecursion (λ z. alike y z ≡ false) (flat_map block xs))
      (λ y is. apart_from_blocks y xs (subst (λ m. AllByRecursion (λ z. same m (mark z) ≡ false) xs) (sym is) h.0)) (block x) (marked x))

-- an order by two parts tells apart keys that one part tells apart
pub first_part : (o p : Ordering) → is_eq o ≡ false → is_eq (ordering_then o p) ≡ false
first_part Less p h = refl
first_part Equal p h = cc
first_part Greater p h = refl

pub second_part : (o p : Ordering) → is_eq p ≡ false → is_eq (ordering_then o p) ≡ false
second_part Less p h = refl
second_part Equal p h = h
second_part Greater p h = refl

less_is_apart : (o : Ordering) → T (is_lt o) → is_eq o ≡ false
less_is_apart Less h = refl
less_is_apart Equal h = absurd h
less_is_apart Greater h = refl

both_parts : (a b : Bool) → T (a && b) → T a × T b
both_parts true b h = (tt, h)
both_parts false b h = absurd h

module _ {K V : Type 0} (R : K → K → Ordering) where
  -- whether two entries have one key
  abbrev pub have_one_key : K × V → K × V → Bool
  have_one_key a b = eq_by_cmp R a.0 b.0

  -- none of the entries has this key
  abbrev pub Lacks : K → List (K × V) → Type 0
  Lacks k es = AllByRecursion (λ e. eq_by_cmp R k e.0 ≡ false) es

  pub not_found : (k : K) (es : List (K × V)) → Lacks k es → find R k es ≡ None
  not_found k [] h = refl
  not_found k (e ∷ es) h = ap (λ b. cond b (Some e.1) (find R k es)) h.0 ∙ not_found k es h.1

  pub lacks : (k : K) (es : List (K × V)) → find R k es ≡ None → Lacks k es
  lacks k [] none = tt
  lacks k (e ∷ es) none = elim (eq_by_cmp R k e.0) as (λ b. cond b (Some e.1) (find R k es) ≡ None → (b ≡ false) × Lacks k es) [
    | true ↦ λ is. cc
    | false ↦ λ is. (refl, lacks k es is)
  ] none

  pub below_lacks : (k : K) (es : List (K × V)) → T (below_all R k es) → Lacks k es
  below_lacks k [] h = tt
  below_lacks k (e ∷ es) h =
      let parts = both_parts (is_lt (R k e.0)) (below_all R k es) h in
      (less_is_apart (R k e.0) parts.0, below_lacks k es parts.1)

  -- in a table no key occurs twice
  pub sorted_distinct : (es : List (K × V)) → T (is_sorted R es) → NoneAlike have_one_key es
  sorted_distinct [] h = tt
  sorted_distinct (e ∷ es) h =
      let parts = both_parts (below_all R e.0 es) (is_sorted R es) h in
      (below_lacks e.0 es parts.0, sorted_distinct es parts.1)

module _ {K V : Type 0} {R : K → K → Ordering} (o : IsTotalOrder R) where
  -- entries that lack new keys still lack them after one more entry with another key
  still_lack : (es fs : List (K × V)) (f : K × V) → AllByRecursion (λ g. Lacks R g.0 es) fs → Lacks R f.0 fs → AllByRecursion (λ g. Lacks R g.0 (es ++ f ∷ [])) fs
  still_lack es [] f new apart = tt
  still_lack es (g ∷ fs) f new apart = (
    all-append (λ e. eq_by_cmp R g.0 e.0 ≡ false) es (f ∷ []) new.0 ((eq_by_cmp_equiv o).symm g.0 f.0 ∙ apart.0, tt),
    still_lack es fs f new.1 apart.1,
  )

  -- entries with new keys that all differ: sorting them in is putting them into the table
  pub in_key_order-append_all : ((x y : K) → R x y ≡ Equal → x ≡ y) → (fs es : List (K × V)) → AllByRecursion (λ f. Lacks R f.0 es) fs → NoneAlike (have_one_key R) fs
      → in_key_order R (es ++ fs) ≡ put_all R fs (in_key_order R es)
  in_key_order-append_all exact [] es new distinct = ap (in_key_order R) (append-nil es)
  in_key_order-append_all exact (f ∷ fs) es new distinct =
      ap (in_key_order R) (sym (append_assoc es (f ∷ []) fs))
      ∙ in_key_order-append_all exact fs (es ++ f ∷ []) (still_lack es fs f new.1 distinct.0) distinct.1
      ∙ ap (put_all R fs) (in_key_order-append o exact es f.0 f.1 (not_found R f.0 es new.0))
