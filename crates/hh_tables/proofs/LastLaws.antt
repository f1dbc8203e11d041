-- The last of the rows that pass a test, and the last row up to a key.
use Rattle.std.proofs.Common.{◌≡◌, List, [], ◌∷◌, ◌++◌, Bool, true, false, cond, refl, sym, ap, subst, ◌∙◌, Option, Some, None, Ordering, inl, inr}
use Rattle.std.specs.Prelude.{◌⊎◌, filter, is_some, not, IsSome, T}
use Rattle.std.specs.Cmp.{IsTotalOrder, Equal-is, eq_by_cmp_equiv}
use Rattle.std.specs.FinMap.{find, is_sorted}
use Rattle.std.specs.FinMap.Entries.{below_all}
use Rattle.std.specs.Ordering.{eq_by_cmp, is_le, is_lt, ordering_reverse}
use Rattle.std.specs.declared.cmp.Ordering.TheVariants.{Less, Equal, Greater}
use Rattle.std.proofs.lemmas.Option.{same_Some}
use Rattle.hh_tables.specs.Ends.{last_of, last_up_to}
use Rattle.hh_tables.specs.Tables.{Table, without}
use Rattle.hh_tables.proofs.RowLaws.{first, less, second}
use Rattle.hh_tables.proofs.TableLaws.{false_is_not_true}

-- the last of a list is the last of it with one more before
pub last_of-cons : {X : Type 0} (x : X) (ys : List X) (z : X) → last_of ys ≡ Some z → last_of (x ∷ ys) ≡ Some z
last_of-cons x [] z is = cc
last_of-cons x (y ∷ ys) z is = is

-- what is put at the end of a list is its last
pub last_of-append : {X : Type 0} (xs : List X) (x : X) → last_of (xs ++ x ∷ []) ≡ Some x
last_of-append [] x = refl
last_of-append (y ∷ xs) x = last_of-cons y (xs ++ x ∷ []) x (last_of-append xs x)

-- the last of a list is its first, or the last of those behind it
pub last_of_more : {X : Type 0} (x e : X) (ys : List X) → last_of (x ∷ ys) ≡ Some e → (x ≡ e) ⊎ (last_of ys ≡ Some e)
last_of_more x e [] is = inl (same_Some x e is)
last_of_more x e (y ∷ ys) is = inr is

-- the last of those that pass a test passes it
pub last_passes : {X : Type 0} (p : X → Bool) (xs : List X) (e : X) → last_of (filter p xs) ≡ Some e → p e ≡ true
last_passes p [] e is = cc
last_passes p (x ∷ xs) e is =
    elim (p x) as (λ b. p x ≡ b → last_of (cond b (x ∷ filter p xs) (filter p xs)) ≡ Some e → p e ≡ true) [
      | true ↦ λ own is. by_cases own (last_passes p xs e) (last_of_more x e (filter p xs) is)
      | false ↦ λ off is. last_passes p xs e is
    ] refl is
  where
    by_cases : p x ≡ true → (last_of (filter p xs) ≡ Some e → p e ≡ true) → (x ≡ e) ⊎ (last_of (filter p xs) ≡ Some e) → p e ≡ true
    by_cases own further (inl same) = sym (ap p same) ∙ own
    by_cases own further (inr later) = further later

-- what is found among some rows is found among them with one more
later_found : {V : Type 0} (b : Bool) (v : V) (o : Option V) → IsSome o → IsSome (cond b (Some v) o)
later_found true v o there = refl
later_found false v o there = there

-- what isn't found among some rows isn't found among those behind the first
still_none : {V : Type 0} (b : Bool) (v : V) (o : Option V) → cond b (Some v) o ≡ None → o ≡ None
still_none true v o none = cc
still_none false v o none = none

module _ {K V : Type 0} {R : K → K → Ordering} (o : IsTotalOrder R) (exact : (x y : K) → R x y ≡ Equal → x ≡ y) where
  first_found : (e : K × V) (es : Table K V) → IsSome (find R e.0 (e ∷ es))
  first_found e es = ap (λ b. is_some (cond b (Some e.1) (find R e.0 es))) ((eq_by_cmp_equiv o).refl e.0)

  module _ (passes : K → Bool) where
    -- of rows above a key none passes, if no key above it that passes is there
    none_above : (k : K) (es : Table K V) → T (below_all R k es) → ((q : K) → passes q ≡ true → IsSome (find R q es) → R k q ≡ Less → ⊥) → filter (λ e. passes e.0) es ≡ []
    none_above k [] above none = refl
    none_above k (e ∷ es) above none =
        elim (passes e.0) as (λ b. passes e.0 ≡ b → cond b (e ∷ filter (λ x. passes x.0) es) (filter (λ x. passes x.0) es) ≡ []) [
          | true ↦ λ is. absurd (none e.0 is (first_found e es) (less (R k e.0) (first _ _ above)))
          | false ↦ λ is. none_above k es (second _ _ above) (λ q is there. none q is (later_found (eq_by_cmp R q e.0) e.1 (find R q es) there))
        ] refl

    -- if no key that passes is there, no row passes
    pub none_pass : (es : Table K V) → ((q : K) → passes q ≡ true → find R q es ≡ None) → filter (λ e. passes e.0) es ≡ []
    none_pass [] none = refl
    none_pass (e ∷ es) none =
        elim (passes e.0) as (λ b. passes e.0 ≡ b → cond b (e ∷ filter (λ x. passes x.0) es) (filter (λ x. passes x.0) es) ≡ []) [
          | true ↦ λ is. absurd (false_is_not_true (sym (ap is_some (none e.0 is)) ∙ first_found e es))
          | false ↦ λ is. none_pass es (λ q own. still_none (eq_by_cmp R q e.0) e.1 (find R q es) (none q own))
        ] refl

    -- the greatest key that passes is that of the last row that passes
    pub greatest : (k : K) (v : V) (es : Table K V) → T (is_sorted R es) → find R k es ≡ Some v → passes k ≡ true
        → ((q : K) → passes q ≡ true → IsSome (find R q es) → R k q ≡ Less → ⊥) → last_of (filter (λ e. passes e.0) es) ≡ Some (k, v)
    greatest k v [] rising found own none = cc
    greatest k v (e ∷ es) rising found own none =
        let others : Table K V = filter (λ x. passes x.0) es in
        elim (eq_by_cmp R k e.0) as (λ b. eq_by_cmp R k e.0 ≡ b → cond b (Some e.1) (find R k es) ≡ Some v → last_of (cond (passes e.0) (e ∷ others) others) ≡ Some (k, v)) [
          | true ↦ λ tied is.
              let same : k ≡ e.0 = exact k e.0 ((Equal-is (R k e.0)).0 tied) in
              let alone : others ≡ [] = none_above e.0 es (first _ _ rising)
              (λ q is there above. none q is (later_found (eq_by_cmp R q e.0) e.1 (find R q es) there) (subst (λ x. R x q ≡ Less) (sym same) above)) in
              ap (λ b. last_of (cond b (e ∷ others) others)) (ap passes (sym same) ∙ own)
              ∙ ap (λ xs. last_of (e ∷ xs)) alone
              ∙ (λ i. Some (sym same i, same_Some e.1 v is i))
          | false ↦ λ apart is.
              let rest = greatest k v es (second _ _ rising) is own (λ q is there. none q is (later_found (eq_by_cmp R q e.0) e.1 (find R q es) there)) in
              elim (passes e.0) as (λ b. last_of (cond b (e ∷ others) others) ≡ Some (k, v)) [ true ↦ last_of-cons e others (k, v) rest | false ↦ rest ]
        ] refl found

    -- a row whose key doesn't pass may be taken out
    pub filter-without : (k : K) → passes k ≡ false → (es : Table K V) → filter (λ e. passes e.0) (without R k es) ≡ filter (λ e. passes e.0) es
    filter-without k off [] = refl
    filter-without k off (e ∷ es) =
        let others : Table K V = filter (λ x. passes x.0) es in
        elim (eq_by_cmp R k e.0) as (λ b. eq_by_cmp R k e.0 ≡ b → filter (λ x. passes x.0) (cond (not b) (e ∷ without R k es) (without R k es)) ≡ cond (passes e.0) (e ∷ others) others) [
          | true ↦ λ tied. filter-without k off es
              ∙ ap (λ b. cond b (e ∷ others) others) (sym (ap passes (sym (exact k e.0 ((Equal-is (R k e.0)).0 tied))) ∙ off))
          | false ↦ λ apart. ap (λ xs. cond (passes e.0) (e ∷ xs) xs) (filter-without k off es)
        ] refl

-- ---- what a tree finds between no lower bound and a key

turned : (r : Ordering) → is_le (ordering_reverse r) ≡ not (is_lt r)
turned Less = refl
turned Equal = refl
turned Greater = refl

module _ {K V : Type 0} {R : K → K → Ordering} (o : IsTotalOrder R) (key : K) (es table found rest : Table K V) (seen : es ≡ table) where
  up_to : last_of (filter (λ e. not (is_lt (R key e.0))) es) ≡ last_up_to R key table
  up_to = (λ i. last_of (filter (λ e. sym (ap is_le (o.antisymm e.0 key) ∙ turned (R key e.0)) i) es)) ∙ ap (last_up_to R key) seen

  pub last_found : found ≡ filter (λ e. not (is_lt (R key e.0))) es → (row : K × V) → found ≡ rest ++ row ∷ [] → Some row ≡ last_up_to R key table
  last_found between row steps = sym (ap last_of (sym between ∙ steps) ∙ last_of-append rest row) ∙ up_to

  pub none_found : found ≡ filter (λ e. not (is_lt (R key e.0))) es → found ≡ [] → None ≡ last_up_to R key table
  none_found between none = sym (ap last_of (sym between ∙ none)) ∙ up_to
