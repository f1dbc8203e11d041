-- Keys that agree in their columns are equal.
use Rattle.std.proofs.Common.{◌≡◌, ℕ, zero, suc, ℤ, pos, arith, List, [], ◌∷◌, ◌++◌, length, drop, Bool, true, false, Ordering, Less, Equal, Greater, is_eq, int_cmp, Some, refl, sym, ap, ◌∙◌}
use Rattle.std.specs.List.{list_all}
use Rattle.std.specs.Ordering.{nat_cmp}
use Rattle.std.specs.Cmp.{int_cmp_total}
use Rattle.std.specs.Cmp.Lexicographic.{slice_cmp}
use Rattle.std.proofs.lemmas.Bool.{and_parts, and_from, true≢false}
use Rattle.std.proofs.lemmas.Bool.Decides.{nat_tests}
use Rattle.std.proofs.lemmas.Cmp.{tied_itself}
use Rattle.std.proofs.lemmas.Map.Lookups.{exact_signed, exact_bytes}
use Rattle.sqlite_value.specs.declared.value.Value.{Value}
use Rattle.sqlite_value.specs.declared.value.Value.TheVariants.{Null, Int, Real, Text, Blob}
use Rattle.sqlite_value.specs.declared.keys.Collation.TheVariants.{Binary}
use Rattle.sqlite_value.specs.Keys.{plain, first_key}
use Rattle.sqlite_value.specs.Order.{Row, column, value_cmp}
use Rattle.sqlite_value.proofs.OrderLemmas.{value_cmp_total, value_cmp-Int, value_cmp-Text, value_cmp-Blob}
use Rattle.sqlite_sql.specs.Ops.{binary, is_true, from_truth}
use Rattle.sqlite_schema.specs.Rules.{equal, agree}
use Rattle.hh_keyed_rows.specs.Codecs.{is_discrete, places_from}

pub truth_of : (b : Bool) → is_true (from_truth (Some b)) ≡ b
truth_of true = refl
truth_of false = refl

pub is_Equal : (o : Ordering) → is_eq o ≡ true → o ≡ Equal
is_Equal o h = elim o as (λ o. is_eq o ≡ true → o ≡ Equal) [ Less ↦ λ h. absurd (true≢false (sym h)) | Equal ↦ λ h. refl | Greater ↦ λ h. absurd (true≢false (sym h)) ] h

pub equal_ints : (a b : ℤ) → equal Binary (Int a) (Int b) ≡ is_eq (int_cmp a b)
unfolding binary
equal_ints a b = truth_of (is_eq (value_cmp (Int a) (Int b))) ∙ ap is_eq (value_cmp-Int a b)

pub equal_texts : (s t : List ℕ) → equal Binary (Text s) (Text t) ≡ is_eq (slice_cmp nat_cmp s t)
unfolding binary
equal_texts s t = truth_of (is_eq (value_cmp (Text s) (Text t))) ∙ ap is_eq (value_cmp-Text s t)

pub equal_blobs : (s t : List ℕ) → equal Binary (Blob s) (Blob t) ≡ is_eq (slice_cmp nat_cmp s t)
unfolding binary
equal_blobs s t = truth_of (is_eq (value_cmp (Blob s) (Blob t))) ∙ ap is_eq (value_cmp-Blob s t)

-- plain values that are equal in SQL are the same
pub equal_same : (v w : Value) → is_discrete v ≡ true → is_discrete w ≡ true → equal Binary v w ≡ true → v ≡ w
unfolding binary value_cmp
equal_same Null w p q e = absurd (true≢false (sym p))
equal_same (Real x) w p q e = absurd (true≢false (sym p))
equal_same (Int a) (Int b) p q e = ap Int (exact_signed a b (is_Equal _ (sym (equal_ints a b) ∙ e)))
equal_same (Text s) (Text t) p q e = ap Text (exact_bytes s t (is_Equal _ (sym (equal_texts s t) ∙ e)))
equal_same (Blob s) (Blob t) p q e = ap Blob (exact_bytes s t (is_Equal _ (sym (equal_blobs s t) ∙ e)))
equal_same (Int a) Null p q e = absurd (true≢false (sym q))
equal_same (Int a) (Real x) p q e = absurd (true≢false (sym q))
equal_same (Int a) (Text t) p q e = absurd (true≢false (sym e))
equal_same (Int a) (Blob t) p q e = absurd (true≢false (sym e))
equal_same (Text s) Null p q e = absurd (true≢false (sym q))
equal_same (Text s) (Int b) p q e = absurd (true≢false (sym e))
equal_same (Text s) (Real x) p q e = absurd (true≢false (sym q))
equal_same (Text s) (Blob t) p q e = absurd (true≢false (sym e))
equal_same (Blob s) Null p q e = absurd (true≢false (sym q))
equal_same (Blob s) (Int b) p q e = absurd (true≢false (sym e))
equal_same (Blob s) (Real x) p q e = absurd (true≢false (sym q))
equal_same (Blob s) (Text t) p q e = absurd (true≢false (sym e))

-- a plain value is equal to itself
pub equal_itself : (v : Value) → is_discrete v ≡ true → equal Binary v v ≡ true
unfolding binary
equal_itself Null p = absurd (true≢false (sym p))
equal_itself (Real x) p = absurd (true≢false (sym p))
equal_itself (Int a) p = equal_ints a a ∙ ap is_eq (tied_itself int_cmp_total a)
equal_itself (Text t) p = truth_of _ ∙ ap is_eq (tied_itself value_cmp_total (Text t))
equal_itself (Blob t) p = truth_of _ ∙ ap is_eq (tied_itself value_cmp_total (Blob t))

-- the first value of what is left of a row is the column there
pub column_at : (row : Row) (at : ℕ) (v : Value) (rest : Row) → drop at row ≡ v ∷ rest → column row at ≡ v
column_at [] zero v rest is = absurd (let e : ◌≡◌ {A = Row} [] (v ∷ rest) = is in cc)
column_at [] (suc at) v rest is = absurd (let e : ◌≡◌ {A = Row} [] (v ∷ rest) = is in cc)
column_at (x ∷ row) zero v rest is = ap (λ (r : Row). column r 0) is
column_at (x ∷ row) (suc at) v rest is = column_at row at v rest is

pub drop_next : (row : Row) (at : ℕ) (v : Value) (rest : Row) → drop at row ≡ v ∷ rest → drop (suc at) row ≡ rest
drop_next [] zero v rest is = absurd (let e : ◌≡◌ {A = Row} [] (v ∷ rest) = is in cc)
drop_next [] (suc at) v rest is = absurd (let e : ◌≡◌ {A = Row} [] (v ∷ rest) = is in cc)
drop_next (x ∷ row) zero v rest is = ap (drop 1) is
drop_next (x ∷ row) (suc at) v rest is = drop_next row at v rest is

-- Two rows have these columns from a place on.
pub agree_same : (at : ℕ) (xs ys a b more other : Row) → drop at a ≡ xs ++ more → drop at b ≡ ys ++ other → length xs ≡ length ys → list_all is_discrete xs ≡ true → list_all is_discrete ys ≡ true
    → agree plain (places_from at (length xs)) a (places_from at (length xs)) b ≡ true → xs ≡ ys
unfolding first_key
agree_same at [] [] a b more other p q n k l h = refl
agree_same at [] (y ∷ ys) a b more other p q n k l h = absurd (cc n)
agree_same at (x ∷ xs) [] a b more other p q n k l h = absurd (cc n)
agree_same at (x ∷ xs) (y ∷ ys) a b more other p q n k l h =
    let kx = and_parts (is_discrete x) (list_all is_discrete xs) k in
    let ky = and_parts (is_discrete y) (list_all is_discrete ys) l in
    let both = and_parts (equal Binary (column a at) (column b at)) (agree plain (places_from (suc at) (length xs)) a (places_from (suc at) (length xs)) b) h in
    let e : x ≡ y = equal_same x y kx.0 ky.0 (sym (λ i. equal Binary (column_at a at x (xs ++ more) p i) (column_at b at y (ys ++ other) q i)) ∙ both.0) in
    let es : xs ≡ ys = agree_same (suc at) xs ys a b more other (drop_next a at x (xs ++ more) p) (drop_next b at y (ys ++ other) q) (cc n) kx.1 ky.1 both.1 in
    λ i. e i ∷ es i

pub agree_there : (at : ℕ) (xs a b more other : Row) → drop at a ≡ xs ++ more → drop at b ≡ xs ++ other → list_all is_discrete xs ≡ true
    → agree plain (places_from at (length xs)) a (places_from at (length xs)) b ≡ true
unfolding first_key
agree_there at [] a b more other p q k = refl
agree_there at (x ∷ xs) a b more other p q k =
    let kx = and_parts (is_discrete x) (list_all is_discrete xs) k in
    and_from _ _ ((λ i. equal Binary (column_at a at x (xs ++ more) p i) (column_at b at x (xs ++ other) q i)) ∙ equal_itself x kx.0)
    (agree_there (suc at) xs a b more other (drop_next a at x (xs ++ more) p) (drop_next b at x (xs ++ other) q) kx.1)

-- natural numbers compare as integers do
pub int_cmp-nats : (a b : ℕ) → int_cmp (pos a) (pos b) ≡ nat_cmp a b
int_cmp-nats a b = grind (arith, nat_tests)
