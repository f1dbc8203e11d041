-- Ranks: in a list whose keys are distinct, exactly k keys have a rank below k. Remainders with their places are such keys.
use Rattle.std.proofs.Common.{map, ◌+◌, ◌≡◌, ℕ, zero, suc, ◌<◌, ◌≤◌, List, [], ◌∷◌, length, refl, sym, ap, ◌∙◌, subst, Bool, true, false, cond, Some, None, Ordering, arith}
use Rattle.std.specs.Prelude.{nat_lt, ◌==◌, ◌&&◌, ◌||◌, T, count_by}
use Rattle.std.specs.List.{enumerate_from}
use Rattle.std.specs.Ordering.{is_lt, is_eq, ordering_reverse, ordering_then, nat_cmp, on, then_cmp, flip_args}
use Rattle.std.specs.declared.cmp.Ordering.TheVariants.{Less, Equal, Greater}
use Rattle.std.specs.Cmp.{IsTotalOrder, tied_itself, both_ways, nat_cmp_total, on_total, then_total, back_total}
use Rattle.std.proofs.lemmas.Bool.{le-ltb, lt-ltb, ltb-true}
use Rattle.std.specs.FinMap.{find, put, is_sorted}
use Rattle.std.specs.FinMap.Entries.{by_order, below_all}
use Rattle.std.proofs.lemmas.List.{length-map}
use Rattle.std.proofs.lemmas.List.FromFn.{length-enumerate_from}
use Rattle.hh_tables.specs.Tables.{in_key_order}
use Rattle.hh_tables.proofs.TableLaws.{AreDistinct, find-in_key_order, is_sorted-in_key_order}
use Rattle.hh_share.specs.Shares.{comes_before, rank}
use Rattle.hh_share.proofs.CountLaws.{count, count_by-count, count-map, count-same}

first_part : (a b : Bool) → T (a && b) → T a
first_part true b p = tt
first_part false b p = p

second_part : (a b : Bool) → T (a && b) → T b
second_part true b p = p
second_part false b p = absurd p

less_is : (x : Ordering) → T (is_lt x) → x ≡ Less
less_is Less p = refl
less_is Equal p = absurd p
less_is Greater p = absurd p

below_none : (n : ℕ) → nat_lt n 0 ≡ false
below_none n = le-ltb n 0 (omega arith)

below_suc : (n m : ℕ) → nat_lt (suc n) (suc m) ≡ nat_lt n m
below_suc n m = both_ways (nat_lt (suc n) (suc m)) (nat_lt n m)
    (λ e. lt-ltb n m (let h : suc n < suc m = ltb-true (suc n) (suc m) e in omega arith))
    (λ e. lt-ltb (suc n) (suc m) (let h : n < m = ltb-true n m e in omega arith))

module _ {K : Type 0} {R : K → K → Ordering} (o : IsTotalOrder R) where
  -- a key that comes after another does not come before it
  not_before : (x y : K) → T (is_lt (R x y)) → is_lt (R y x) ≡ false
  not_before x y h = ap is_lt (o.antisymm y x ∙ ap ordering_reverse (less_is (R x y) h))

-- a count does not depend on the order
module _ {K V : Type 0} (R : K → K → Ordering) where
  pub count-put : (test : K × V → Bool) (k : K) (v : V) (es : List (K × V)) → find R k es ≡ None → count test (put R k v es) ≡ count test ((k, v) ∷ es)
  count-put test k v [] new = refl
  count-put test k v (e ∷ es) new = elim (R k e.0) as (λ o. cond (is_eq o) (Some e.1) (find R k es) ≡ None → count test (by_order o ((k, v) ∷ e ∷ es) ((e.0, v) ∷ es) (e ∷ put R k v es)) ≡ count test ((k, v) ∷ e ∷ es)) [
    | Less ↦ λ n. refl
    | Equal ↦ λ n. absurd (some_is_not_none e.1 n)
    | Greater ↦ λ n. ap (λ z. cond (test e) (suc z) z) (count-put test k v es n) ∙ both (test e) (test (k, v)) (count test es)
  ] new
    where
      some_is_not_none : (x : V) → Some x ≡ None → ⊥
      some_is_not_none x e = cc

      both : (a b : Bool) (n : ℕ) → cond a (suc (cond b (suc n) n)) (cond b (suc n) n) ≡ cond b (suc (cond a (suc n) n)) (cond a (suc n) n)
      both true true n = refl
      both true false n = refl
      both false b n = refl

module _ {K V : Type 0} {R : K → K → Ordering} (o : IsTotalOrder R) where
  pub count-in_key_order : (test : K × V → Bool) (es : List (K × V)) → AreDistinct R es → count test (in_key_order R es) ≡ count test es
  count-in_key_order test [] d = refl
  count-in_key_order test (e ∷ es) d =
      count-put R test e.0 e.1 (in_key_order R es) (find-in_key_order o es e.0 ∙ d.0) ∙ ap (λ z. cond (test e) (suc z) z) (count-in_key_order test es d.1)

  -- how many rows of a list come before a key
  abbrev pub rank_in : List (K × V) → K → ℕ
  rank_in es k = count (λ e. is_lt (R e.0 k)) es

  none_before : (x : K) (es : List (K × V)) → T (below_all R x es) → rank_in es x ≡ 0
  none_before x [] h = refl
  none_before x (e ∷ es) h =
      ap (λ b. cond b (suc (rank_in es x)) (rank_in es x)) (not_before o x e.0 (first_part _ _ h)) ∙ none_before x es (second_part _ _ h)

  first_rank : (e : K × V) (es : List (K × V)) → T (below_all R e.0 es) → rank_in (e ∷ es) e.0 ≡ 0
  first_rank e es h = ap (λ r. cond (is_lt r) (suc (rank_in es e.0)) (rank_in es e.0)) (tied_itself o e.0) ∙ none_before e.0 es h

  count_none : (f : K × V → ℕ) (es : List (K × V)) → count (λ a. nat_lt (f a) 0) es ≡ 0
  count_none f [] = refl
  count_none f (e ∷ es) = ap (λ b. cond b (suc (count (λ a. nat_lt (f a) 0) es)) (count (λ a. nat_lt (f a) 0) es)) (below_none (f e)) ∙ count_none f es

  -- behind a first key, each rank is one higher
  shifted : (e : K × V) (es rest : List (K × V)) (j : ℕ) → T (below_all R e.0 rest) → count (λ a. nat_lt (rank_in (e ∷ es) a.0) (suc j)) rest ≡ count (λ a. nat_lt (rank_in es a.0) j) rest
  shifted e es [] j h = refl
  shifted e es (x ∷ rest) j h =
      (λ i. cond (one i) (suc (shifted e es rest j (second_part _ _ h) i)) (shifted e es rest j (second_part _ _ h) i))
    where
      one : nat_lt (cond (is_lt (R e.0 x.0)) (suc (rank_in es x.0)) (rank_in es x.0)) (suc j) ≡ nat_lt (rank_in es x.0) j
      one = ap (λ r. nat_lt (cond (is_lt r) (suc (rank_in es x.0)) (rank_in es x.0)) (suc j)) (less_is (R e.0 x.0) (first_part _ _ h)) ∙ below_suc (rank_in es x.0) j

  -- in a sorted list, exactly k keys have a rank below k
  ranked_sorted : (es : List (K × V)) (k : ℕ) → T (is_sorted R es) → k ≤ length es → count (λ a. nat_lt (rank_in es a.0) k) es ≡ k
  ranked_sorted es zero sorted few = count_none (λ a. rank_in es a.0) es
  ranked_sorted [] (suc k) sorted few = absurd (omega arith)
  ranked_sorted (e ∷ es) (suc k) sorted few =
      ap (λ r. cond (nat_lt r (suc k)) (suc (count (λ a. nat_lt (rank_in (e ∷ es) a.0) (suc k)) es)) (count (λ a. nat_lt (rank_in (e ∷ es) a.0) (suc k)) es)) (first_rank e es (first_part _ _ sorted))
      ∙ ap (λ b. cond b (suc (count (λ a. nat_lt (rank_in (e ∷ es) a.0) (suc k)) es)) (count (λ a. nat_lt (rank_in (e ∷ es) a.0) (suc k)) es)) (lt-ltb 0 (suc k) (omega arith))
      ∙ ap suc (shifted e es es k (first_part _ _ sorted) ∙ ranked_sorted es k (second_part _ _ sorted) (omega arith))

  count_all : (es : List (K × V)) → count (λ e. true) es ≡ length es
  count_all [] = refl
  count_all (e ∷ es) = ap suc (count_all es)

  -- In any list whose keys are distinct, exactly k keys have a rank below k.
  pub ranked : (es : List (K × V)) (k : ℕ) → AreDistinct R es → k ≤ length es → count (λ a. nat_lt (rank_in es a.0) k) es ≡ k
  ranked es k distinct few =
      let ordered : List (K × V) = in_key_order R es in
      let same_length : length ordered ≡ length es = sym (count_all ordered) ∙ count-in_key_order (λ e. true) es distinct ∙ count_all es in
      count-same (λ a. nat_lt (rank_in es a.0) k) (λ a. nat_lt (rank_in ordered a.0) k) es (λ a. ap (λ r. nat_lt r k) (sym (count-in_key_order (λ e. is_lt (R e.0 a.0)) es distinct)))
      ∙ sym (count-in_key_order (λ a. nat_lt (rank_in ordered a.0) k) es distinct)
      ∙ ranked_sorted ordered k (is_sorted-in_key_order o es) (subst (λ n. k ≤ n) (sym same_length) few)

-- an order by two tests: the second decides if the first says equal
by_two : (p q r s : Bool) → is_lt (ordering_then (cond p Less (cond q Equal Greater)) (cond r Less (cond s Equal Greater))) ≡ (p || (q && r))
by_two true q r s = refl
by_two false true true s = refl
by_two false true false true = refl
by_two false true false false = refl
by_two false false r s = refl

-- keys that differ in their places are not equal
never_equal : (x : Ordering) → is_eq (ordering_then x Less) ≡ false
never_equal Less = refl
never_equal Equal = refl
never_equal Greater = refl

-- the larger remainder first, and then the earlier place
abbrev order : ℕ × ℕ → ℕ × ℕ → Ordering
order = then_cmp (flip_args (on (λ a. a.1) nat_cmp)) (on (λ a. a.0) nat_cmp)

-- it is a total order
order_total : IsTotalOrder order
order_total = then_total (back_total (on_total (λ (a : ℕ × ℕ). a.1) nat_cmp_total)) (on_total (λ a. a.0) nat_cmp_total)

-- a remainder comes before another exactly if it does in this order
before_is : (a b : ℕ × ℕ) → comes_before b a ≡ is_lt (order b a)
before_is a b = sym (by_two (nat_lt a.1 b.1) (a.1 == b.1) (nat_lt b.0 a.0) (b.0 == a.0))

-- places with their remainders, as the keys of a table with no columns
abbrev claims : List (ℕ × ℕ) → List ((ℕ × ℕ) × Unit {0})
claims cs = map (λ a. (a, tt)) cs

-- no place occurs twice
none_later : (n r m : ℕ) (xs : List ℕ) → n < m → find order (n, r) (claims (enumerate_from m xs)) ≡ None
none_later n r m [] h = refl
none_later n r m (x ∷ xs) h =
    ap (λ b. cond (is_eq (ordering_then (nat_cmp x r) (cond b Less (cond (n == m) Equal Greater)))) (Some tt) (find order (n, r) (claims (enumerate_from (m + 1) xs)))) (lt-ltb n m h)
    ∙ ap (λ b. cond b (Some tt) (find order (n, r) (claims (enumerate_from (m + 1) xs)))) (never_equal (nat_cmp x r))
    ∙ none_later n r (m + 1) xs (omega arith)

-- so no key of the table does
places_distinct : (m : ℕ) (xs : List ℕ) → AreDistinct order (claims (enumerate_from m xs))
places_distinct m [] = tt
places_distinct m (x ∷ xs) = (none_later m x (m + 1) xs (omega arith), places_distinct (m + 1) xs)

module _ (remainders : List ℕ) where
  abbrev all : List (ℕ × ℕ)
  all = enumerate_from 0 remainders

  -- a rank is the rank in that table
  rank_is : (a : ℕ × ℕ) → rank remainders a ≡ rank_in order_total (claims all) a
  rank_is a =
      count_by-count (λ b. comes_before b a) all
      ∙ count-same (λ b. comes_before b a) (λ b. is_lt (order b a)) all (before_is a)
      ∙ sym (count-map (λ e. is_lt (order e.0 a)) (λ (b : ℕ × ℕ). (b, tt)) all)

  -- exactly k of all remainders have a rank below k
  pub ranks_below : (k : ℕ) → k ≤ length remainders → count_by (λ a. nat_lt (rank remainders a) k) all ≡ k
  ranks_below k few =
      count_by-count (λ a. nat_lt (rank remainders a) k) all
      ∙ count-same (λ a. nat_lt (rank remainders a) k) (λ a. nat_lt (rank_in order_total (claims all) a) k) all (λ a. ap (λ r. nat_lt r k) (rank_is a))
      ∙ sym (count-map (λ e. nat_lt (rank_in order_total (claims all) e.0) k) (λ (b : ℕ × ℕ). (b, tt)) all)
      ∙ ranked order_total (claims all) k (places_distinct 0 remainders) (subst (λ n. k ≤ n) (sym (length-map all (λ (b : ℕ × ℕ). (b, tt)) ∙ length-enumerate_from 0 remainders)) few)
