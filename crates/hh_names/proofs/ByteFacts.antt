-- The order of bytes: compared in parts, as the numbers that they spell, and in padded buffers.
use Rattle.std.proofs.Common.{◌≡◌, ℕ, zero, suc, ◌+◌, ◌*◌, ◌<◌, ◌≤◌, ◌++◌, List, [], ◌∷◌, length, get_or, take, drop, replicate, true, false, refl, sym, ap, ◌∙◌, arith}
use Rattle.std.proofs.Math.Bool.{true≢false}
use Rattle.std.proofs.lemmas.Bool.{and_parts}
use Rattle.std.specs.declared.cmp.Ordering.{Ordering}
use Rattle.std.specs.declared.cmp.Ordering.TheVariants.{Less, Equal, Greater}
use Rattle.std.specs.Ordering.{MatchOrdering, is_ne, nat_cmp, ordering_then}
use Rattle.std.specs.Cmp.{nat_cmp_is, nat_cmp_total, ranks, tied_itself}
use Rattle.std.specs.Cmp.Lexicographic.{lists_total, slice_cmp}
use Rattle.std.specs.List.{list_all}
use Rattle.std.specs.Slice.Scan.{big_endian}
use Rattle.hh_names.specs.Words.{is_not_zero}

-- ---- one order and then another
then_assoc : (a b c : Ordering) → ordering_then a (ordering_then b c) ≡ ordering_then (ordering_then a b) c
then_assoc Less b c = refl
then_assoc Equal b c = refl
then_assoc Greater b c = refl

then_told : (a b : Ordering) → is_ne a ≡ true → ordering_then a b ≡ a
then_told Less b e = refl
then_told Equal b e = absurd (true≢false (sym e))
then_told Greater b e = refl

then_level : (a b : Ordering) → is_ne a ≡ false → ordering_then a b ≡ b
then_level Less b e = absurd (true≢false e)
then_level Equal b e = refl
then_level Greater b e = absurd (true≢false e)

-- ---- comparing the first n bytes of each text, and then the rest
order_in_parts : (n : ℕ) (xs ys : List ℕ) → n ≤ length xs → n ≤ length ys
    → slice_cmp nat_cmp xs ys ≡ ordering_then (slice_cmp nat_cmp (take n xs) (take n ys)) (slice_cmp nat_cmp (drop n xs) (drop n ys))
order_in_parts zero xs ys p q = refl
order_in_parts (suc n) [] ys p q = absurd (omega arith)
order_in_parts (suc n) (x ∷ xs) [] p q = absurd (omega arith)
order_in_parts (suc n) (x ∷ xs) (y ∷ ys) p q = ap (ordering_then (nat_cmp x y)) (order_in_parts n xs ys (omega arith) (omega arith)) ∙ then_assoc (nat_cmp x y) _ _

module _ (n : ℕ) (xs ys front_x front_y rest_x rest_y : List ℕ) (r : Ordering) (p : n ≤ length xs) (q : n ≤ length ys)
    (a : front_x ≡ take n xs) (b : front_y ≡ take n ys) (u : rest_x ≡ drop n xs) (v : rest_y ≡ drop n ys) (told : r ≡ slice_cmp nat_cmp front_x front_y) where
  in_parts : slice_cmp nat_cmp xs ys ≡ ordering_then r (slice_cmp nat_cmp rest_x rest_y)
  in_parts = order_in_parts n xs ys p q ∙ sym (λ i. ordering_then ((told ∙ (λ j. slice_cmp nat_cmp (a j) (b j))) i) (slice_cmp nat_cmp (u i) (v i)))

  pub fronts_tell : is_ne r ≡ true → slice_cmp nat_cmp xs ys ≡ r
  fronts_tell e = in_parts ∙ then_told r _ e

  pub fronts_level : is_ne r ≡ false → slice_cmp nat_cmp xs ys ≡ slice_cmp nat_cmp rest_x rest_y
  fronts_level e = in_parts ∙ then_level r _ e

-- ---- comparing equally many bytes of each text as two numbers
-- the order of n and m after a byte is put behind each
lie : (n m x y : ℕ) → x < 256 → y < 256 → (r s : Ordering) → MatchOrdering r (n < m) (n ≡ m) (m < n) → MatchOrdering s (x < y) (x ≡ y) (y < x)
    → MatchOrdering (ordering_then r s) (n * 256 + x < m * 256 + y) (n * 256 + x ≡ m * 256 + y) (m * 256 + y < n * 256 + x)
lie n m x y p q Less s g h = let l : n < m = g in omega arith
lie n m x y p q Equal Less g h = let l : n ≡ m = g in let k : x < y = h in omega arith
lie n m x y p q Equal Equal g h = let l : n ≡ m = g in let k : x ≡ y = h in omega arith
lie n m x y p q Equal Greater g h = let l : n ≡ m = g in let k : y < x = h in omega arith
lie n m x y p q Greater s g h = let l : m < n = g in omega arith

next_byte : (n m x y : ℕ) → x < 256 → y < 256 → ordering_then (nat_cmp n m) (nat_cmp x y) ≡ nat_cmp (n * 256 + x) (m * 256 + y)
next_byte n m x y p q = nat_cmp_is _ _ _ (lie n m x y p q (nat_cmp n m) (nat_cmp x y) (ranks n m) (ranks x y))

spelt_after : (n m : ℕ) (xs ys : List ℕ) → length xs ≡ length ys → ((k : ℕ) → get_or xs k 0 < 256) → ((k : ℕ) → get_or ys k 0 < 256)
    → ordering_then (nat_cmp n m) (slice_cmp nat_cmp xs ys) ≡ nat_cmp (big_endian n xs) (big_endian m ys)
spelt_after n m [] [] e p q = end (nat_cmp n m)
  where
    end : (r : Ordering) → ordering_then r Equal ≡ r
    end Less = refl
    end Equal = refl
    end Greater = refl
spelt_after n m [] (y ∷ ys) e p q = absurd (omega arith)
spelt_after n m (x ∷ xs) [] e p q = absurd (omega arith)
spelt_after n m (x ∷ xs) (y ∷ ys) e p q =
    then_assoc (nat_cmp n m) (nat_cmp x y) (slice_cmp nat_cmp xs ys)
    ∙ ap (λ r. ordering_then r (slice_cmp nat_cmp xs ys)) (next_byte n m x y (p 0) (q 0))
    ∙ spelt_after (n * 256 + x) (m * 256 + y) xs ys (omega arith) (λ k. p (suc k)) (λ k. q (suc k))

pub spelt_order : (xs ys : List ℕ) → length xs ≡ length ys → ((k : ℕ) → get_or xs k 0 < 256) → ((k : ℕ) → get_or ys k 0 < 256)
    → slice_cmp nat_cmp xs ys ≡ nat_cmp (big_endian 0 xs) (big_endian 0 ys)
spelt_order = spelt_after 0 0

-- ---- texts without zeros, in buffers of one length, with zeros after them
below_suc : (y : ℕ) → nat_cmp 0 (suc y) ≡ Less
below_suc y = sym (nat_cmp_is 0 (suc y) Less (omega arith))

above_suc : (x : ℕ) → nat_cmp (suc x) 0 ≡ Greater
above_suc x = sym (nat_cmp_is (suc x) 0 Greater (omega arith))

level_zeros : (i j : ℕ) → i ≡ j → slice_cmp nat_cmp (replicate i 0) (replicate j 0) ≡ Equal
level_zeros i j e = ap (λ k. slice_cmp nat_cmp (replicate i 0) (replicate k 0)) (sym e) ∙ tied_itself (lists_total nat_cmp_total) (replicate i 0)

-- the buffers are in the order of the texts
pub padded_order : (xs ys : List ℕ) (i j : ℕ) → length xs + i ≡ length ys + j → list_all is_not_zero xs ≡ true → list_all is_not_zero ys ≡ true
    → slice_cmp nat_cmp (xs ++ replicate i 0) (ys ++ replicate j 0) ≡ slice_cmp nat_cmp xs ys
padded_order [] [] i j e p q = level_zeros i j (omega arith)
padded_order [] (y ∷ ys) zero j e p q = absurd (omega arith)
padded_order [] (zero ∷ ys) (suc i) j e p q = absurd (true≢false (sym q))
padded_order [] (suc y ∷ ys) (suc i) j e p q = ap (λ r. ordering_then r (slice_cmp nat_cmp (replicate i 0) (ys ++ replicate j 0))) (below_suc y)
padded_order (x ∷ xs) [] i zero e p q = absurd (omega arith)
padded_order (zero ∷ xs) [] i (suc j) e p q = absurd (true≢false (sym p))
padded_order (suc x ∷ xs) [] i (suc j) e p q = ap (λ r. ordering_then r (slice_cmp nat_cmp (xs ++ replicate i 0) (replicate j 0))) (above_suc x)
padded_order (x ∷ xs) (y ∷ ys) i j e p q =
    let left = and_parts (is_not_zero x) (list_all is_not_zero xs) p in
    let right = and_parts (is_not_zero y) (list_all is_not_zero ys) q in
    ap (ordering_then (nat_cmp x y)) (padded_order xs ys i j (omega arith) left.1 right.1)
