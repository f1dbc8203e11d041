-- Two ways to the same table: putting a row into a table, or adding it to the list and taking the last row of each key.
use Rattle.std.proofs.Common.{◌≡◌, List, [], ◌∷◌, ◌++◌, Bool, true, false, cond, refl, sym, ap, ◌∙◌, reverse, Option, Some, None, Ordering}
use Rattle.std.specs.Prelude.{◌||◌, ◌≢◌, is_some, T}
use Rattle.std.specs.BTreeMap.{insert_entry, is_at}
use Rattle.std.specs.Cmp.{IsTotalOrder, eq_by_cmp_equiv}
use Rattle.std.specs.FinMap.{find, put, is_sorted}
use Rattle.std.specs.FinMap.Entries.{by_order, find-put, is_sorted-put, same_entries}
use Rattle.std.specs.Map.{lookup}
use Rattle.std.specs.Ordering.{eq_by_cmp, match_ordering}
use Rattle.std.specs.declared.cmp.Ordering.TheVariants.{Less, Equal, Greater}
use Rattle.std.proofs.lemmas.List.{reverse-append}
use Rattle.hh_tables.specs.Tables.{latest, in_key_order, table_of_last, table_of_first}

module _ {K V : Type 0} (R : K → K → Ordering) where
  -- a map's look-up finds the first row of a key
  pub lookup-find : (k : K) (es : List (K × V)) → lookup (is_at (R k)) es ≡ find R k es
  lookup-find k [] = refl
  lookup-find k (e ∷ es) = ap (cond (eq_by_cmp R k e.0) (Some e.1)) (lookup-find k es)

  -- a map's insertion puts a row into the table
  pub insert_entry-put : (k : K) (v : V) (es : List (K × V)) → insert_entry R es k v ≡ put R k v es
  insert_entry-put k v [] = refl
  insert_entry-put k v (e ∷ es) = elim (R k e.0) as (λ o.
      match_ordering o ((k, v) ∷ e ∷ es) ((e.0, v) ∷ es) (e ∷ insert_entry R es k v) ≡ by_order o ((k, v) ∷ e ∷ es) ((e.0, v) ∷ es) (e ∷ put R k v es)) [
        | Less ↦ refl
        | Equal ↦ refl
        | Greater ↦ ap (λ more. e ∷ more) (insert_entry-put k v es)
      ]

pub false_is_not_true : false ≢ true
false_is_not_true e = cc

-- two tests that never hold at once
swapped : {A : Type 0} (a b : Bool) (x y z : A) → (a ≡ true → b ≡ true → ⊥) → cond a x (cond b y z) ≡ cond b y (cond a x z)
swapped true true x y z apart = absurd (apart refl refl)
swapped true false x y z apart = refl
swapped false b x y z apart = refl

-- a test is never reached if it holds only when an earlier test does
hidden : {A : Type 0} (a b : Bool) (x y z : A) → (b ≡ true → a ≡ true) → cond a x z ≡ cond a x (cond b y z)
hidden true b x y z within = refl
hidden false false x y z within = refl
hidden false true x y z within = absurd (false_is_not_true (within refl))

is_some-cond : {A : Type 0} (b : Bool) (x : A) (o : Option A) → is_some (cond b (Some x) o) ≡ (b || is_some o)
is_some-cond true x o = refl
is_some-cond false x o = refl

or_swap : (a b c : Bool) → (a || (b || c)) ≡ (b || (a || c))
or_swap true true c = refl
or_swap true false c = refl
or_swap false b c = refl

module _ {K V : Type 0} {R : K → K → Ordering} (o : IsTotalOrder R) where
  -- the table finds under each key the first row of the key in the list
  pub find-in_key_order : (es : List (K × V)) (q : K) → find R q (in_key_order R es) ≡ find R q es
  find-in_key_order [] q = refl
  find-in_key_order (e ∷ es) q =
      find-put R o q e.0 e.1 (in_key_order R es) ∙ ap (cond (eq_by_cmp R q e.0) (Some e.1)) (find-in_key_order es q)

  pub is_sorted-in_key_order : (es : List (K × V)) → T (is_sorted R (in_key_order R es))
  is_sorted-in_key_order [] = tt
  is_sorted-in_key_order (e ∷ es) = is_sorted-put R o e.0 e.1 (in_key_order R es) (is_sorted-in_key_order es)

  -- whether a key is in a list with one more row
  is_some-find-append : (es : List (K × V)) (e : K × V) (q : K) → is_some (find R q (es ++ e ∷ [])) ≡ (eq_by_cmp R q e.0 || is_some (find R q es))
  is_some-find-append [] e q = is_some-cond (eq_by_cmp R q e.0) e.1 None
  is_some-find-append (x ∷ es) e q =
      is_some-cond (eq_by_cmp R q x.0) x.1 (find R q (es ++ e ∷ []))
      ∙ ap (λ b. eq_by_cmp R q x.0 || b) (is_some-find-append es e q)
      ∙ or_swap (eq_by_cmp R q x.0) (eq_by_cmp R q e.0) (is_some (find R q es))
      ∙ ap (λ b. eq_by_cmp R q e.0 || b) (sym (is_some-cond (eq_by_cmp R q x.0) x.1 (find R q es)))

  -- one more row: its key has the row, and each other key has what it had before
  module _ (e : K × V) (q : K) where
    pub find-latest-append : (es : List (K × V)) → find R q (latest R (es ++ e ∷ [])) ≡ cond (eq_by_cmp R q e.0) (Some e.1) (find R q (latest R es))
    find-latest-append [] = refl
    find-latest-append (x ∷ es) =
        let induction = find-latest-append es in
        ap (λ b. find R q (cond b (latest R (es ++ e ∷ [])) (x ∷ latest R (es ++ e ∷ [])))) (is_some-find-append es e x.0)
        ∙ elim (eq_by_cmp R x.0 e.0) as (λ t. eq_by_cmp R x.0 e.0 ≡ t
        → find R q (cond (t || is_some (find R x.0 es)) (latest R (es ++ e ∷ [])) (x ∷ latest R (es ++ e ∷ []))) ≡ cond (eq_by_cmp R q e.0) (Some e.1) (find R q (cond (is_some (find R x.0 es)) (latest R es) (x ∷ latest R es)))) [
          | true ↦ λ same. elim (is_some (find R x.0 es)) as (λ later.
              find R q (latest R (es ++ e ∷ [])) ≡ cond (eq_by_cmp R q e.0) (Some e.1) (find R q (cond later (latest R es) (x ∷ latest R es)))) [
                | true ↦ induction
                | false ↦ induction ∙ hidden (eq_by_cmp R q e.0) (eq_by_cmp R q x.0) (Some e.1) (Some x.1) (find R q (latest R es)) (λ h. (eq_by_cmp_equiv o).symm q e.0 ∙ sym ((eq_by_cmp_equiv o).congr x.0 e.0 q same) ∙ (eq_by_cmp_equiv o).symm x.0 q ∙ h)
              ]
          | false ↦ λ apart. elim (is_some (find R x.0 es)) as (λ later.
              find R q (cond later (latest R (es ++ e ∷ [])) (x ∷ latest R (es ++ e ∷ []))) ≡ cond (eq_by_cmp R q e.0) (Some e.1) (find R q (cond later (latest R es) (x ∷ latest R es)))) [
                | true ↦ induction
                | false ↦ ap (cond (eq_by_cmp R q x.0) (Some x.1)) induction
                    ∙ swapped (eq_by_cmp R q x.0) (eq_by_cmp R q e.0) (Some x.1) (Some e.1) (find R q (latest R es)) (λ h k. false_is_not_true (sym apart ∙ sym ((eq_by_cmp_equiv o).congr q x.0 e.0 h) ∙ k))
              ]
        ] refl

  pub is_some-find-latest : (es : List (K × V)) (q : K) → is_some (find R q (latest R es)) ≡ is_some (find R q es)
  is_some-find-latest [] q = refl
  is_some-find-latest (x ∷ es) q =
      elim (is_some (find R x.0 es)) as (λ later. is_some (find R x.0 es) ≡ later → is_some (find R q (cond later (latest R es) (x ∷ latest R es))) ≡ is_some (cond (eq_by_cmp R q x.0) (Some x.1) (find R q es))) [
        | true ↦ λ h. is_some-find-latest es q
            ∙ elim (eq_by_cmp R q x.0) as (λ t. eq_by_cmp R q x.0 ≡ t → is_some (find R q es) ≡ is_some (cond t (Some x.1) (find R q es))) [
              | true ↦ λ t. ap is_some (found_alike es q x.0 t) ∙ h
              | false ↦ λ t. refl
            ] refl
        | false ↦ λ h. is_some-cond (eq_by_cmp R q x.0) x.1 (find R q (latest R es)) ∙ ap (λ b. eq_by_cmp R q x.0 || b) (is_some-find-latest es q) ∙ sym (is_some-cond (eq_by_cmp R q x.0) x.1 (find R q es))
      ] refl
    where
      found_alike : (es : List (K × V)) (q x : K) → eq_by_cmp R q x ≡ true → find R q es ≡ find R x es
      found_alike [] q x t = refl
      found_alike (e ∷ es) q x t = ap (λ b. cond b (Some e.1) (find R q es)) ((eq_by_cmp_equiv o).congr q x e.0 t) ∙ ap (cond (eq_by_cmp R x e.0) (Some e.1)) (found_alike es q x t)

  module _ (exact : (x y : K) → R x y ≡ Equal → x ≡ y) where
    -- The table of a list with one more row is the table of the list with the row put into it.
    pub table_of_last-append : (es : List (K × V)) (e : K × V) → table_of_last R (es ++ e ∷ []) ≡ put R e.0 e.1 (table_of_last R es)
    table_of_last-append es e =
        same_entries R o exact _ _
        (is_sorted-in_key_order (latest R (es ++ e ∷ [])))
        (is_sorted-put R o e.0 e.1 (table_of_last R es) (is_sorted-in_key_order (latest R es)))
        (λ q. find-in_key_order (latest R (es ++ e ∷ [])) q ∙ find-latest-append e q es
        ∙ sym (find-put R o q e.0 e.1 (table_of_last R es) ∙ ap (cond (eq_by_cmp R q e.0) (Some e.1)) (find-in_key_order (latest R es) q)))

    -- If each key keeps its first row, one more row is put only if its key is new.
    pub table_of_first-append : (es : List (K × V)) (e : K × V) →
        table_of_first R (es ++ e ∷ []) ≡ cond (is_some (find R e.0 (table_of_first R es))) (table_of_first R es) (put R e.0 e.1 (table_of_first R es))
    table_of_first-append es e =
        ap (table_of_last R) (reverse-append es (e ∷ []))
        ∙ ap (λ b. in_key_order R (cond b (latest R (reverse es)) (e ∷ latest R (reverse es)))) (sym (ap is_some (find-in_key_order (latest R (reverse es)) e.0) ∙ is_some-find-latest (reverse es) e.0))
        ∙ elim (is_some (find R e.0 (table_of_first R es))) as (λ b. in_key_order R (cond b (latest R (reverse es)) (e ∷ latest R (reverse es))) ≡ cond b (table_of_first R es) (put R e.0 e.1 (table_of_first R es))) [ true ↦ refl | false ↦ refl ]

module _ {K V : Type 0} (R : K → K → Ordering) where
  -- no key occurs twice
  abbrev pub AreDistinct : List (K × V) → Type 0
  AreDistinct [] = Unit {0}
  AreDistinct (e ∷ es) = (find R e.0 es ≡ None) × AreDistinct es
