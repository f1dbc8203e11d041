-- What WHERE tests and ORDER BY compares, for columns that a codec writes.
use Rattle.std.proofs.Common.{◌≡◌, ◌&&◌, ◌++◌, ℕ, suc, List, [], ◌∷◌, length, map, drop, Bool, true, false, Ordering, Less, Equal, Greater, is_eq, refl, sym, ap, ◌∙◌}
use Rattle.std.specs.List.{list_all}
use Rattle.std.specs.Ordering.{on, ordering_then, then_cmp}
use Rattle.std.specs.Cmp.{IsTotalOrder}
use Rattle.std.proofs.lemmas.Bool.{and_parts, and_from}
use Rattle.std.proofs.lemmas.Cmp.{tied_itself}
use Rattle.std.proofs.lemmas.Map.Lookups.{CmpEqualImpliesEq}
use Rattle.sqlite_value.specs.declared.keys.Collation.TheVariants.{Binary}
use Rattle.sqlite_value.specs.declared.keys.Key.{Key}
use Rattle.sqlite_value.specs.Keys.{ascending}
use Rattle.sqlite_value.specs.Order.{Row, column, row_cmp, value_cmp}
use Rattle.sqlite_sql.specs.Query.{key_cmp}
use Rattle.sqlite_sql.specs.Term.{Term, col, eval_all, holds}
use Rattle.sqlite_schema.specs.Rules.{equal}
use Rattle.hh_keyed_rows.specs.Codecs.{Codec, IsCodec, both, is_discrete}
use Rattle.hh_keyed_rows.proofs.PlaceLaws.{column_at, drop_next, equal_itself, equal_same, is_Equal}
use Rattle.hh_sqltables.specs.Terms.{where_terms}
use Rattle.hh_sqltables.specs.Texts.{IsOrdered}

-- ---- WHERE

-- columns that are equal in SQL, one by one
abbrev pub all_equal : Row → Row → Bool
all_equal [] ys = true
all_equal (x ∷ xs) [] = true
all_equal (x ∷ xs) (y ∷ ys) = equal Binary x y && all_equal xs ys

pub where_is : (places : List ℕ) (row params : Row) (from : ℕ) (ys : Row) → drop from params ≡ ys → length ys ≡ length places
    → list_all (holds (params ∷ row ∷ [])) (where_terms places from) ≡ all_equal (map (column row) places) ys
where_is [] row params from ys is long = refl
where_is (at ∷ places) row params from [] is long = absurd (cc long)
where_is (at ∷ places) row params from (y ∷ ys) is long =
    let first : column params from ≡ y = column_at params from y ys is in
    let rest = where_is places row params (suc from) ys (drop_next params from y ys is) (cc long) in
    λ i. equal Binary (column row at) (first i) && rest i

equal_written : (xs ys : Row) → list_all is_discrete xs ≡ true → list_all is_discrete ys ≡ true → length xs ≡ length ys → all_equal xs ys ≡ true → xs ≡ ys
equal_written [] [] p q long h = refl
equal_written [] (y ∷ ys) p q long h = absurd (cc long)
equal_written (x ∷ xs) [] p q long h = absurd (cc long)
equal_written (x ∷ xs) (y ∷ ys) p q long h =
    let px = and_parts (is_discrete x) (list_all is_discrete xs) p in
    let py = and_parts (is_discrete y) (list_all is_discrete ys) q in
    let both_equal = and_parts (equal Binary x y) (all_equal xs ys) h in
    let first = equal_same x y px.0 py.0 both_equal.0 in
    let rest = equal_written xs ys px.1 py.1 (cc long) both_equal.1 in
    λ i. first i ∷ rest i

equal_selves : (xs : Row) → list_all is_discrete xs ≡ true → all_equal xs xs ≡ true
equal_selves [] p = refl
equal_selves (x ∷ xs) p = let px = and_parts (is_discrete x) (list_all is_discrete xs) p in and_from _ _ (equal_itself x px.0) (equal_selves xs px.1)

-- two tests that imply each other are the same
pub same_test : (a b : Bool) → (a ≡ true → b ≡ true) → (b ≡ true → a ≡ true) → a ≡ b
same_test true b there back = sym (there refl)
same_test false true there back = back refl
same_test false false there back = refl

module _ {A : Type 0} (R : A → A → Ordering) (total : IsTotalOrder R) (exact : CmpEqualImpliesEq R) (c : Codec A) (is_c : IsCodec c) where
  pub equal_is : (a b : A) → all_equal (c.write a) (c.write b) ≡ is_eq (R a b)
  equal_is a b =
      same_test _ _
      (λ h. let same = is_c.apart a b (equal_written (c.write a) (c.write b) (is_c.plain a) (is_c.plain b) (is_c.wide a ∙ sym (is_c.wide b)) h) in ap (λ x. is_eq (R x b)) same ∙ ap is_eq (tied_itself total b))
      (λ h. let same = exact a b (is_Equal _ h) in ap (λ x. all_equal (c.write x) (c.write b)) same ∙ equal_selves (c.write b) (is_c.plain b))

  -- the columns at these places are those of the value that is asked for
  pub tested_by : (places : List ℕ) (row : Row) (a b : A) → length places ≡ c.width → map (column row) places ≡ c.write a
      → list_all (holds (c.write b ∷ row ∷ [])) (where_terms places 0) ≡ is_eq (R a b)
  tested_by places row a b wide is = where_is places row (c.write b) 0 (c.write b) refl (is_c.wide b ∙ sym wide) ∙ ap (λ xs. all_equal xs (c.write b)) is ∙ equal_is a b

-- ---- ORDER BY

then_last : (o : Ordering) → ordering_then o Equal ≡ o
then_last Less = refl
then_last Equal = refl
then_last Greater = refl

then_again : (a b c : Ordering) → ordering_then (ordering_then a b) c ≡ ordering_then a (ordering_then b c)
then_again Less b c = refl
then_again Equal b c = refl
then_again Greater b c = refl

append_cmp : (xs ys more other : Row) → length xs ≡ length ys → row_cmp (xs ++ more) (ys ++ other) ≡ ordering_then (row_cmp xs ys) (row_cmp more other)
append_cmp [] [] more other long = refl
append_cmp [] (y ∷ ys) more other long = absurd (cc long)
append_cmp (x ∷ xs) [] more other long = absurd (cc long)
append_cmp (x ∷ xs) (y ∷ ys) more other long =
    ap (ordering_then (value_cmp x y)) (append_cmp xs ys more other (cc long)) ∙ sym (then_again (value_cmp x y) (row_cmp xs ys) (row_cmp more other))

pub both_ordered : {A B : Type 0} (c : Codec A) (d : Codec B) (R : A → A → Ordering) (S : B → B → Ordering) → IsCodec c → IsOrdered c R → IsOrdered d S
    → IsOrdered (both c d) (then_cmp (on (λ p. p.0) R) (on (λ p. p.1) S))
both_ordered c d R S is_c first second p q =
    append_cmp (c.write p.0) (c.write q.0) (d.write p.1) (d.write q.1) (is_c.wide p.0 ∙ sym (is_c.wide q.0)) ∙ (λ i. ordering_then (first p.0 q.0 i) (second p.1 q.1 i))

-- one column by itself
pub one_ordered : (v w : Rattle.sqlite_value.specs.declared.value.Value.Value) → row_cmp (v ∷ []) (w ∷ []) ≡ value_cmp v w
one_ordered v w = then_last (value_cmp v w)

keys_compare : (places : List ℕ) (from : ℕ) (xs ys cs ds : Row) → drop from xs ≡ cs → drop from ys ≡ ds → length cs ≡ length places → length ds ≡ length places
    → key_cmp from (map (λ (k : Term × Key). k.1) (map (λ at. (col 1 at, ascending Binary)) places)) xs ys ≡ row_cmp cs ds
keys_compare [] from xs ys [] [] p q l m = refl
keys_compare [] from xs ys [] (b ∷ ds) p q l m = absurd (cc m)
keys_compare [] from xs ys (a ∷ cs) ds p q l m = absurd (cc l)
keys_compare (at ∷ places) from xs ys [] ds p q l m = absurd (cc l)
keys_compare (at ∷ places) from xs ys (a ∷ cs) [] p q l m = absurd (cc m)
keys_compare (at ∷ places) from xs ys (a ∷ cs) (b ∷ ds) p q l m =
    let first : column xs from ≡ a = column_at xs from a cs p in
    let second : column ys from ≡ b = column_at ys from b ds q in
    let rest = keys_compare places (suc from) xs ys cs ds (drop_next xs from a cs p) (drop_next ys from b ds q) (cc l) (cc m) in
    λ i. ordering_then (value_cmp (first i) (second i)) (rest i)

-- ORDER BY these places compares the columns of a codec there as its values compare
pub follows_by : {A : Type 0} (c : Codec A) (R : A → A → Ordering) → IsCodec c → IsOrdered c R → (places : List ℕ) → length places ≡ c.width → (a b : A)
    → key_cmp 0 (map (λ (k : Term × Key). k.1) (map (λ at. (col 1 at, ascending Binary)) places)) (c.write a) (c.write b) ≡ R a b
follows_by c R is_c ordered places wide a b = keys_compare places 0 (c.write a) (c.write b) (c.write a) (c.write b) refl refl (is_c.wide a ∙ sym wide) (is_c.wide b ∙ sym wide) ∙ ordered a b

-- ---- what is shown

pub shown_columns : (places : List ℕ) (row params : Row) → eval_all (map (λ at. col 1 at) places) (params ∷ row ∷ []) ≡ map (column row) places
shown_columns [] row params = refl
shown_columns (at ∷ places) row params = ap (λ vs. column row at ∷ vs) (shown_columns places row params)
