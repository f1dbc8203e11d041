-- The merge: two lists make up a table, and a row whose key is between theirs is put at the end of the first list.
use Rattle.std.proofs.Common.{◌≡◌, ℕ, zero, suc, ◌+◌, ◌<◌, ◌≤◌, List, [], ◌∷◌, ◌++◌, length, get_or, take, drop, Bool, true, false, cond, refl, sym, ap, subst, ◌∙◌, Ordering, arith, one-add}
use Rattle.std.specs.Prelude.{T, IsTrue}
use Rattle.std.specs.Cmp.{IsTotalOrder, alike_right, tied_back, tied_itself, upto}
use Rattle.std.specs.FinMap.{put, is_sorted}
use Rattle.std.specs.FinMap.Entries.{below_all, by_order}
use Rattle.std.specs.List.{list_all, prefix_len}
use Rattle.std.specs.List.Sorted.{IsSortedByKey, IsStableByKey}
use Rattle.std.specs.Ordering.{is_eq, is_gt, is_le, is_lt, ordering_reverse}
use Rattle.std.specs.declared.cmp.Ordering.TheVariants.{Less, Equal, Greater}
use Rattle.std.proofs.lemmas.List.{append_assoc, get_or_read, take_more}
use Rattle.std.proofs.lemmas.List.Sums.{prefix_len_is}
use Rattle.std.proofs.lemmas.List.Sorted.{ranks_by, sorted_far}
use Rattle.hh_tables.specs.steps.Merges.{is_up_to, AreUpTo}
use Rattle.hh_tables.specs.Tables.{IsTable, put_all}
use Rattle.hh_tables.proofs.RowLaws.{both, first, second, less, is_less, equal, below_less, is_sorted-put_all, put_all-sorted}

pub true_from : (b : Bool) → T b → b ≡ true
true_from true h = refl
true_from false h = absurd h

pub from_true : (b : Bool) → b ≡ true → T b
from_true b e = subst T (sym e) tt

not_above : (r : Ordering) → T (is_le r) → is_gt r ≡ false
not_above Less h = refl
not_above Equal h = refl
not_above Greater h = absurd h

up_to_this : (r : Ordering) → is_gt r ≡ false → T (is_le r)
up_to_this Less e = tt
up_to_this Equal e = tt
up_to_this Greater e = cc

is_below : (r : Ordering) → is_gt r ≡ false → is_eq r ≡ false → r ≡ Less
is_below Less g e = refl
is_below Equal g e = cc
is_below Greater g e = cc

turned_round : (r : Ordering) → is_gt (ordering_reverse r) ≡ is_lt r
turned_round Less = refl
turned_round Equal = refl
turned_round Greater = refl

up_to_itself : {K : Type 0} {R : K → K → Ordering} → IsTotalOrder R → (k : K) → T (is_le (R k k))
up_to_itself o k = subst (λ r. T (is_le r)) (sym (tied_itself o k)) tt

above_this : (r : Ordering) → is_gt r ≡ true → is_le r ≡ false
above_this Less e = cc
above_this Equal e = cc
above_this Greater e = refl

-- if all elements of two lists pass a test, so do those of the joined list
all_append : {X : Type 0} (p : X → Bool) (xs ys : List X) → T (list_all p xs) → T (list_all p ys) → T (list_all p (xs ++ ys))
all_append p [] ys g h = h
all_append p (x ∷ xs) ys g h = both _ _ (first _ _ g) (all_append p xs ys (second _ _ g) h)

pub take_drop : {X : Type 0} (n : ℕ) (xs : List X) → take n xs ++ drop n xs ≡ xs
take_drop zero xs = refl
take_drop (suc n) [] = refl
take_drop (suc n) (x ∷ xs) = ap (λ l. x ∷ l) (take_drop n xs)

module _ {K V : Type 0} (R : K → K → Ordering) where
  below_front : (k : K) (xs ys : List (K × V)) → T (below_all R k (xs ++ ys)) → T (below_all R k xs)
  below_front k [] ys h = tt
  below_front k (x ∷ xs) ys h = both _ _ (first _ _ h) (below_front k xs ys (second _ _ h))

  pub sorted_front : (xs ys : List (K × V)) → T (is_sorted R (xs ++ ys)) → T (is_sorted R xs)
  sorted_front [] ys h = tt
  sorted_front (x ∷ xs) ys h = both _ _ (below_front x.0 xs ys (first _ _ h)) (sorted_front xs ys (second _ _ h))

  pub sorted_back : (xs ys : List (K × V)) → T (is_sorted R (xs ++ ys)) → T (is_sorted R ys)
  sorted_back [] ys h = h
  sorted_back (x ∷ xs) ys h = sorted_back xs ys (second _ _ h)

  -- a row below the whole second list goes into the first
  put-append : (row : K × V) (xs ys : List (K × V)) → T (below_all R row.0 ys) → put R row.0 row.1 (xs ++ ys) ≡ put R row.0 row.1 xs ++ ys
  put-append row [] [] h = refl
  put-append row [] (y ∷ ys) h = ap (λ r. by_order r (row ∷ y ∷ ys) ((y.0, row.1) ∷ ys) (y ∷ put R row.0 row.1 ys)) (less _ (first _ _ h))
  put-append row (x ∷ xs) ys h = elim (R row.0 x.0) as (λ r. by_order r (row ∷ x ∷ (xs ++ ys)) ((x.0, row.1) ∷ (xs ++ ys)) (x ∷ put R row.0 row.1 (xs ++ ys))
      ≡ by_order r (row ∷ x ∷ xs) ((x.0, row.1) ∷ xs) (x ∷ put R row.0 row.1 xs) ++ ys) [
        | Less ↦ refl
        | Equal ↦ refl
        | Greater ↦ ap (λ l. x ∷ l) (put-append row xs ys h)
      ]

  -- all keys still pass a test after a row is put whose key passes it
  all-put : (p : K → Bool) (row : K × V) (es : List (K × V)) → T (p row.0) → T (list_all (λ e. p e.0) es) → T (list_all (λ e. p e.0) (put R row.0 row.1 es))
  all-put p row [] t h = both _ _ t tt
  all-put p row (e ∷ es) t h = elim (R row.0 e.0) as (λ r. T (list_all (λ e. p e.0) (by_order r (row ∷ e ∷ es) ((e.0, row.1) ∷ es) (e ∷ put R row.0 row.1 es)))) [
    | Less ↦ both _ _ t h
    | Equal ↦ h
    | Greater ↦ both _ _ (first _ _ h) (all-put p row es t (second _ _ h))
  ]

  pub put_all-append : (rows more es : List (K × V)) → put_all R (rows ++ more) es ≡ put_all R more (put_all R rows es)
  put_all-append [] more es = refl
  put_all-append (row ∷ rows) more es = put_all-append rows more (put R row.0 row.1 es)

  -- the first rows of a list are up to a key
  abbrev pub AreFirstUpTo : K → List (K × V) → ℕ → Type 0
  AreFirstUpTo key rows count = (k : ℕ) (d : K × V) → k < count → IsTrue (is_up_to R key (get_or rows k d))

  -- no key of the merged rows is above those of the rows still to come
  abbrev pub AreReached : List (K × V) → ℕ → List (K × V) → Type 0
  AreReached rows i merged = (j : ℕ) (d : K × V) → i ≤ j → j < length rows → AreUpTo R (get_or rows j d).0 merged

  pub first_above : (key : K) (rows : List (K × V)) (count : ℕ) (row : K × V) → count < length rows → row ≡ get_or rows count row → is_gt (R row.0 key) ≡ true
      → AreFirstUpTo key rows count → count ≡ prefix_len (is_up_to R key) rows
  first_above key rows count row inside at above before =
      sym (prefix_len_is (is_up_to R key) rows count row (omega arith) (λ k lt. before k row lt) (λ _. ap (is_up_to R key) (sym at) ∙ above_this _ above))

  pub all_up_to : (key : K) (rows : List (K × V)) (count : ℕ) → length rows ≤ count → AreFirstUpTo key rows count → length rows ≡ prefix_len (is_up_to R key) rows
  all_up_to key [] count past before = refl
  all_up_to key (row ∷ rows) count past before =
      let rest : length rows ≡ prefix_len (is_up_to R key) rows = all_up_to key rows (length rows) (omega arith) (λ k d lt. before (suc k) d (omega arith)) in
      ap suc rest ∙ sym (one-add _) ∙ ap (λ b. cond b (1 + prefix_len (is_up_to R key) rows) 0) (sym (before zero row (omega arith)))

  -- each row before the first that is above a key is up to the key
  front_up_to : (k : K) (es : List (K × V)) → T (list_all (is_up_to R k) (take (prefix_len (is_up_to R k) es) es))
  front_up_to k [] = tt
  front_up_to k (e ∷ es) = elim (is_up_to R k e) as (λ b. is_up_to R k e ≡ b → T (list_all (is_up_to R k) (take (cond b (1 + prefix_len (is_up_to R k) es) 0) (e ∷ es)))) [
    | true ↦ λ t. rw one-add (both _ _ (from_true _ t) (front_up_to k es))
    | false ↦ λ t. tt
  ] refl

module _ {K V : Type 0} {R : K → K → Ordering} (o : IsTotalOrder R) where
  -- and the rows after them are above it
  below_rest : (k : K) (es : List (K × V)) → T (is_sorted R es) → T (below_all R k (drop (prefix_len (is_up_to R k) es) es))
  below_rest k [] h = tt
  below_rest k (e ∷ es) h = elim (R e.0 k) as (λ r. R e.0 k ≡ r → T (below_all R k (drop (cond (is_le r) (1 + prefix_len (is_up_to R k) es) 0) (e ∷ es)))) [
    | Less ↦ λ p. rw one-add (below_rest k es (second _ _ h))
    | Equal ↦ λ p. rw one-add (below_rest k es (second _ _ h))
    | Greater ↦ λ p.
        let q : R k e.0 ≡ Less = o.antisymm k e.0 ∙ ap ordering_reverse p in
        both _ _ (is_less _ q) (below_less o k e.0 es q (first _ _ h))
  ] refl

  -- rows up to a key are up to each later key
  up_to_later : (k j : K) (es : List (K × V)) → is_gt (R k j) ≡ false → T (list_all (is_up_to R k) es) → T (list_all (is_up_to R j) es)
  up_to_later k j [] le h = tt
  up_to_later k j (e ∷ es) le h = both _ _ (up_to_this _ (upto o e.0 k j (not_above _ (first _ _ h)) le)) (up_to_later k j es le (second _ _ h))

  -- One step: the rest up to the key of a row goes to the end of what is merged, and then the row.
  module _ (row : K × V) (merged rest : List (K × V)) (n : ℕ) (count : n ≡ prefix_len (is_up_to R row.0) rest) (rising : IsTable R (merged ++ rest)) where
    joined : (merged ++ take n rest) ++ drop n rest ≡ merged ++ rest
    joined = append_assoc merged (take n rest) (drop n rest) ∙ ap (λ l. merged ++ l) (take_drop n rest)

    pub front_is_table : IsTable R (merged ++ take n rest)
    front_is_table = true_from _ (sorted_front R (merged ++ take n rest) (drop n rest) (subst (λ l. T (is_sorted R l)) (sym joined) (from_true _ rising)))

    pub front_is_up_to : AreUpTo R row.0 merged → AreUpTo R row.0 (merged ++ take n rest)
    front_is_up_to reached =
        let fits : T (list_all (is_up_to R row.0) (take n rest)) = subst (λ k. T (list_all (is_up_to R row.0) (take k rest))) (sym count) (front_up_to R row.0 rest) in
        true_from _ (all_append (is_up_to R row.0) merged (take n rest) (from_true _ reached) fits)

    pub put_between : (new left : List (K × V)) → new ≡ put R row.0 row.1 (merged ++ take n rest) → left ≡ drop n rest → new ++ left ≡ put R row.0 row.1 (merged ++ rest)
    put_between new left is left_is =
        let above : T (below_all R row.0 (drop n rest)) = subst (λ k. T (below_all R row.0 (drop k rest))) (sym count) (below_rest row.0 rest (sorted_back R merged rest (from_true _ rising))) in
        (λ i. is i ++ left_is i) ∙ sym (put-append R row (merged ++ take n rest) (drop n rest) above) ∙ ap (put R row.0 row.1) joined

    pub put_is_up_to : AreUpTo R row.0 merged → (new : List (K × V)) → new ≡ put R row.0 row.1 (merged ++ take n rest) → AreUpTo R row.0 new
    put_is_up_to reached new is =
        subst (AreUpTo R row.0) (sym is) (true_from _ (all-put R (λ k. is_le (R k row.0)) row (merged ++ take n rest) (up_to_itself o row.0) (from_true _ (front_is_up_to reached))))

  -- if the last row is not above a key, all rows before it are below the key
  below_by_last : (k : K) (es : List (K × V)) (e : K × V) → T (is_sorted R (es ++ e ∷ [])) → is_gt (R e.0 k) ≡ false → T (list_all (λ x. is_lt (R x.0 k)) es)
  below_by_last k [] e h le = tt
  below_by_last k (x ∷ es) e h le = both _ _ (is_less _ (below_last x.0 es (first _ _ h))) (below_by_last k es e (second _ _ h) le)
    where
      through : (x : K) → R x e.0 ≡ Less → (r : Ordering) → R e.0 k ≡ r → is_gt r ≡ false → R x k ≡ Less
      through x p Less q g = o.trans x e.0 k p q
      through x p Equal q g = sym (alike_right o e.0 k x q) ∙ p
      through x p Greater q g = cc

      below_last : (x : K) (es : List (K × V)) → T (below_all R x (es ++ e ∷ [])) → R x k ≡ Less
      below_last x [] h = through x (less _ (first _ _ h)) (R e.0 k) refl le
      below_last x (y ∷ es) h = below_last x es (second _ _ h)

  -- a row is put behind all rows that are below it
  pub put_beyond : (row : K × V) (es rest : List (K × V)) → T (list_all (λ x. is_lt (R x.0 row.0)) es) → put R row.0 row.1 (es ++ rest) ≡ es ++ put R row.0 row.1 rest
  put_beyond row [] rest h = refl
  put_beyond row (e ∷ es) rest h =
      ap (λ r. by_order r (row ∷ e ∷ (es ++ rest)) ((e.0, row.1) ∷ (es ++ rest)) (e ∷ put R row.0 row.1 (es ++ rest))) (o.antisymm row.0 e.0 ∙ ap ordering_reverse (less _ (first _ _ h)))
      ∙ ap (λ l. e ∷ l) (put_beyond row es rest (second _ _ h))

  up_to_last : (k : K) (es : List (K × V)) (e : K × V) → T (list_all (is_up_to R k) (es ++ e ∷ [])) → is_gt (R e.0 k) ≡ false
  up_to_last k [] e h = not_above _ (first _ _ h)
  up_to_last k (x ∷ es) e h = up_to_last k es e (second _ _ h)

  pub put_first : (row : K × V) (old es : List (K × V)) → old ≡ es ++ [] → length es ≡ 0 → es ++ row ∷ [] ≡ put R row.0 row.1 old
  put_first row old [] is none = sym (ap (put R row.0 row.1) is)
  put_first row old (e ∷ es) is none = absurd (omega arith)

  -- A row put at the end, in the place of the last row or behind it.
  module _ (row : K × V) (old es : List (K × V)) (e : K × V) (is : old ≡ es ++ e ∷ []) (rising : IsTable R old) (reached : AreUpTo R row.0 old) where
    below_row : T (list_all (λ x. is_lt (R x.0 row.0)) es)
    below_row = below_by_last row.0 es e (subst (λ l. T (is_sorted R l)) is (from_true _ rising)) (up_to_last row.0 es e (subst (λ l. T (list_all (is_up_to R row.0) l)) is (from_true _ reached)))

    pub put_in_place : is_eq (R e.0 row.0) ≡ true → es ++ (e.0, row.1) ∷ [] ≡ put R row.0 row.1 old
    put_in_place tied =
        sym (ap (put R row.0 row.1) is ∙ put_beyond row es (e ∷ []) below_row
        ∙ ap (λ r. es ++ by_order r (row ∷ e ∷ []) ((e.0, row.1) ∷ []) (e ∷ row ∷ [])) (tied_back o e.0 row.0 (equal _ tied)))

    pub put_behind : is_eq (R e.0 row.0) ≡ false → (es ++ e ∷ []) ++ row ∷ [] ≡ put R row.0 row.1 old
    put_behind untied =
        let below : R e.0 row.0 ≡ Less = is_below _ (up_to_last row.0 es e (subst (λ l. T (list_all (is_up_to R row.0) l)) is (from_true _ reached))) untied in
        sym (ap (put R row.0 row.1) is ∙ put_beyond row es (e ∷ []) below_row
        ∙ ap (λ r. es ++ by_order r (row ∷ e ∷ []) ((e.0, row.1) ∷ []) (e ∷ row ∷ [])) (o.antisymm row.0 e.0 ∙ ap ordering_reverse below)
        ∙ sym (append_assoc es (e ∷ []) (row ∷ [])))

  -- One more row is merged: the rows so far are put into the table, and no later key is below theirs.
  module _ (rows : List (K × V)) (sorted : IsSortedByKey (λ e. e.0) R rows) (i : ℕ) (row : K × V) (inside : i < length rows) (at : row ≡ get_or rows i row) where
    pub put_more : (table before after : List (K × V)) → before ≡ put_all R (take i rows) table → after ≡ put R row.0 row.1 before → after ≡ put_all R (take (i + 1) rows) table
    put_more table before after so_far is =
        is ∙ ap (put R row.0 row.1) so_far
        ∙ sym (put_all-append R (take i rows) (row ∷ []) table)
        ∙ ap (λ l. put_all R l table) (ap (λ e. take i rows ++ e ∷ []) at ∙ sym (take_more rows i row inside))

    pub reached_more : (merged : List (K × V)) → AreUpTo R row.0 merged → AreReached R rows (i + 1) merged
    reached_more merged reached j d later within =
        let rise : is_lt (R (get_or rows j d).0 (get_or rows i d).0) ≡ false = sorted_far (λ x y. is_lt (R x.0 y.0)) (ranks_by o (λ e. e.0)) rows sorted i j d (omega arith) within in
        let here : row ≡ get_or rows i d = get_or_read rows i row inside at d in
        let le : is_gt (R row.0 (get_or rows j d).0) ≡ false = ap (λ e. is_gt (R e.0 (get_or rows j d).0)) here ∙ ap is_gt (o.antisymm (get_or rows i d).0 (get_or rows j d).0) ∙ turned_round _ ∙ rise in
        true_from _ (up_to_later row.0 (get_or rows j d).0 merged le (from_true _ reached))

  pub put_all_is_table : (rows es : List (K × V)) → IsTable R es → IsTable R (put_all R rows es)
  put_all_is_table rows es rising = true_from _ (is_sorted-put_all o rows es (from_true _ rising))

  -- sorted rows put into a table; both are lent
  pub put_all_lent : (rows sorted lent_rows es lent table : List (K × V)) → IsStableByKey (λ e. e.0) R rows sorted → lent_rows ≡ sorted → lent ≡ es → es ≡ table → IsTable R es
      → put_all R lent_rows lent ≡ put_all R rows table
  put_all_lent rows sorted lent_rows es lent table stable rows_are is seen rising =
      (λ i. put_all R (rows_are i) (is i)) ∙ put_all-sorted o rows sorted es stable (from_true _ rising) ∙ ap (put_all R rows) seen
