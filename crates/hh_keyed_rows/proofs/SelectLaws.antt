-- What a SELECT of all columns answers, as rows of an office's table in the order of its keys.
use Rattle.std.proofs.Common.{◌≡◌, inl, inr, Bool, true, false, cond, ◌&&◌, ◌++◌, List, [], ◌∷◌, map, filter, drop, Option, Some, None, is_some, Ordering, Less, Equal, Greater, is_eq, is_gt, is_lt, refl, sym, ap, subst, ◌∙◌}
use Rattle.std.specs.Prelude.{filter_map, T}
use Rattle.std.specs.List.{AllByRecursion, cons_option, flat_map}
use Rattle.std.specs.List.Sorted.{IsPermutation}
use Rattle.std.specs.Cmp.{IsStrictWeakOrder, IsTotalOrder}
use Rattle.std.specs.Ordering.{ordering_reverse}
use Rattle.std.specs.FinMap.{find, put, is_sorted}
use Rattle.std.specs.FinMap.Entries.{by_order, below_all}
use Rattle.std.proofs.lemmas.Bool.{and_parts, false_from_ne_true}
use Rattle.std.proofs.lemmas.Cmp.{on_total, tied_itself, upto}
use Rattle.std.proofs.lemmas.List.Kept.{IsSortedBy-filter}
use Rattle.std.proofs.lemmas.List.Sorted.{IsPermutation-refl, IsPermutation-cons, IsPermutation-trans, IsPermutation-sym, IsPermutation-middle, IsPermutation-map}
use Rattle.std.proofs.lemmas.Map.Lookups.{CmpEqualImpliesEq}
use Rattle.sqlite_value.specs.declared.value.Value.{Value}
use Rattle.sqlite_value.specs.Order.{Row, value_cmp}
use Rattle.sqlite_sql.specs.Query.{Query, Output, output, output_cmp}
use Rattle.sqlite_sql.proofs.QueryLemmas.{key_cmp_total}
use Rattle.sqlite_trees.specs.Tree.{rowid, IsTable, IsAscending}
use Rattle.sqlite_keyed.proofs.ListLemmas.{IsPermutation-filter, ascending-map, ascending_weaker, ascending-filter}
use Rattle.sqlite_keyed.proofs.SortLemmas.{sorted_unique}
use Rattle.sqlite_rules.specs.Lists.{Has}
use Rattle.sqlite_rules.proofs.ListLemmas.{all_has, all_from, has_filtered}
use Rattle.sqlite_trees.proofs.ListLemmas.{all-permutation}
use Rattle.hh_tables.proofs.TableLaws.{AreDistinct, find-in_key_order, is_sorted-in_key_order}
use Rattle.hh_tables.specs.Tables.{in_key_order}
use Rattle.hh_keyed_rows.specs.Codecs.{Codec, IsCodec}
use Rattle.hh_keyed_rows.specs.KeyedRows.{entry_in, stored_entry, table_in}
use Rattle.hh_keyed_rows.proofs.CodecLaws.{entry_only}
use Rattle.hh_keyed_rows.proofs.WriteLaws.{matches, matches_by, value_of, look, find-look}

-- ---- lists

pub selected : {X Y : Type 0} (test : X → Bool) (f : X → Y) (rows : List X) → flat_map (λ r. cond (test r) (f r ∷ []) []) rows ≡ map f (filter test rows)
selected test f [] = refl
selected test f (r ∷ rows) = go (test r) (selected test f rows)
  where
    go : (b : Bool) → flat_map (λ r. cond (test r) (f r ∷ []) []) rows ≡ map f (filter test rows)
        → (cond b (f r ∷ []) [] ++ flat_map (λ r. cond (test r) (f r ∷ []) []) rows) ≡ map f (cond b (r ∷ filter test rows) (filter test rows))
    go true more = ap (λ xs. f r ∷ xs) more
    go false more = more

pub map_map : {X Y Z : Type 0} (f : Y → Z) (g : X → Y) (xs : List X) → map f (map g xs) ≡ map (λ x. f (g x)) xs
map_map f g [] = refl
map_map f g (x ∷ xs) = ap (λ ys. f (g x) ∷ ys) (map_map f g xs)

pub has_permuted : {X : Type 0} (xs ys : List X) (x : X) → IsPermutation xs ys → Has ys x → Has xs x
has_permuted xs ys x same = all_has (Has xs) ys x (all-permutation (Has xs) xs ys same (all_from (Has xs) xs (λ e h. h)))

is_so : (b : Bool) → T b → b ≡ true
is_so true h = refl
is_so false h = absurd h

module _ {K V : Type 0} (R : K → K → Ordering) (total : IsTotalOrder R) where
  put_permutes : (k : K) (v : V) (es : List (K × V)) → find R k es ≡ None → IsPermutation ((k, v) ∷ es) (put R k v es)
  put_permutes k v [] none = IsPermutation-refl _
  put_permutes k v (e ∷ es) none = go (R k e.0) none (put_permutes k v es)
    where
      go : (o : Ordering) → cond (is_eq o) (Some e.1) (find R k es) ≡ None → (find R k es ≡ None → IsPermutation ((k, v) ∷ es) (put R k v es))
          → IsPermutation ((k, v) ∷ e ∷ es) (by_order o ((k, v) ∷ e ∷ es) ((e.0, v) ∷ es) (e ∷ put R k v es))
      go Less none more = IsPermutation-refl _
      go Equal none more = absurd (let e = none in cc)
      go Greater none more = IsPermutation-trans _ (e ∷ (k, v) ∷ es) _ (IsPermutation-middle ((k, v) ∷ []) e es) (IsPermutation-cons e _ _ (more none))

  below : (x : K) (es : List (K × V)) → below_all R x es ≡ true → AllByRecursion (λ e. R x e.0 ≡ Less) es
  below x [] h = tt
  below x (e ∷ es) h = go (R x e.0) refl h (below x es)
    where
      go : (o : Ordering) → R x e.0 ≡ o → (is_lt o && below_all R x es) ≡ true → (below_all R x es ≡ true → AllByRecursion (λ e. R x e.0 ≡ Less) es) → (R x e.0 ≡ Less) × AllByRecursion (λ e. R x e.0 ≡ Less) es
      go Less is h more = (is, more h)
      go Equal is h more = absurd (let e = h in cc)
      go Greater is h more = absurd (let e = h in cc)

  rises : (es : List (K × V)) → is_sorted R es ≡ true → IsAscending (λ a b. R a.0 b.0 ≡ Less) es
  rises [] h = tt
  rises (e ∷ es) h = let two = and_parts (below_all R e.0 es) (is_sorted R es) h in (below e.0 es two.0, rises es two.1)

  pub order_permutes : (es : List (K × V)) → AreDistinct R es → IsPermutation es (in_key_order R es)
  order_permutes [] once = IsPermutation-refl []
  order_permutes (e ∷ es) once =
      IsPermutation-trans _ (e ∷ in_key_order R es) _ (IsPermutation-cons e _ _ (order_permutes es once.1))
      (put_permutes e.0 e.1 (in_key_order R es) (find-in_key_order total es e.0 ∙ once.0))

  pub order_rises : (es : List (K × V)) → IsAscending (λ a b. R a.0 b.0 ≡ Less) (in_key_order R es)
  order_rises es = rises (in_key_order R es) (is_so _ (is_sorted-in_key_order total es))

-- ---- rows with entries

-- reading the results of a function on a list
map_read : {X Y Z : Type 0} (f : Y → Option Z) (g : X → Y) (xs : List X) → filter_map f (map g xs) ≡ filter_map (λ x. f (g x)) xs
map_read f g [] = refl
map_read f g (x ∷ xs) = ap (cons_option (f (g x))) (map_read f g xs)

those_read : {X Y : Type 0} (f : X → Option Y) (xs : List X) → filter_map f xs ≡ filter_map f (filter (λ x. is_some (f x)) xs)
those_read f [] = refl
those_read {X} {Y} f (x ∷ xs) = go (f x) refl (those_read f xs)
  where
    go : (o : Option Y) → f x ≡ o → filter_map f xs ≡ filter_map f (filter (λ x. is_some (f x)) xs)
        → cons_option o (filter_map f xs) ≡ filter_map f (cond (is_some o) (x ∷ filter (λ x. is_some (f x)) xs) (filter (λ x. is_some (f x)) xs))
    go None is more = more
    go (Some y) is more = ap (λ ys. y ∷ ys) more ∙ sym (ap (λ o. cons_option o (filter_map f (filter (λ x. is_some (f x)) xs))) is)

pub all_read : {X Y : Type 0} (f : X → Option Y) (xs : List X) (ys : List Y) → map f xs ≡ map (λ y. Some y) ys → filter_map f xs ≡ ys
all_read f [] [] is = refl
all_read f [] (y ∷ ys) is = absurd (cc is)
all_read f (x ∷ xs) [] is = absurd (cc is)
all_read f (x ∷ xs) (y ∷ ys) is =
    let first : f x ≡ Some y = cc is in
    ap (λ o. cons_option o (filter_map f xs)) first ∙ ap (λ zs. y ∷ zs) (all_read f xs ys (cc is))

back_read : {X Y : Type 0} (f : Y → Option X) (g : X → Y) (xs : List X) → AllByRecursion (λ x. f (g x) ≡ Some x) xs → filter_map f (map g xs) ≡ xs
back_read f g [] each = refl
back_read f g (x ∷ xs) each = ap (λ o. cons_option o (filter_map f (map g xs))) each.0 ∙ ap (λ ys. x ∷ ys) (back_read f g xs each.1)

-- a total order compares as a sort does
no_greater : (o : Ordering) → is_lt o ≡ false → is_gt (ordering_reverse o) ≡ false
no_greater Less h = h
no_greater Equal h = refl
no_greater Greater h = refl

no_less : (o : Ordering) → is_gt o ≡ false → is_lt (ordering_reverse o) ≡ false
no_less Less h = refl
no_less Equal h = refl
no_less Greater h = h

not_back : (o : Ordering) → is_lt o ≡ true → is_lt (ordering_reverse o) ≡ false
not_back Less h = refl
not_back Equal h = refl
not_back Greater h = absurd (let e = h in cc)

sorts_by : {X : Type 0} (cmp : X → X → Ordering) → IsTotalOrder cmp → IsStrictWeakOrder (λ x y. is_lt (cmp x y))
sorts_by cmp total = record {
  one_way = λ x y h. ap is_lt (total.antisymm y x) ∙ not_back (cmp x y) h;
  chain = λ x y z h k.
      let first : is_gt (cmp y x) ≡ false = ap is_gt (total.antisymm y x) ∙ no_greater (cmp x y) h in
      let second : is_gt (cmp z y) ≡ false = ap is_gt (total.antisymm z y) ∙ no_greater (cmp y z) k in
      ap is_lt (total.antisymm x z) ∙ no_less (cmp z x) (upto total z y x second first);
}

module _ {K V : Type 0} (R : K → K → Ordering) (total : IsTotalOrder R) (exact : CmpEqualImpliesEq R) (key : Codec K) (value : Codec V) (is_key : IsCodec key) (is_value : IsCodec value) where
  abbrev entry : Row → Option (K × V)
  entry = stored_entry key value

  -- the columns of a row with this entry
  abbrev pub written : K × V → Row
  written e = key.write e.0 ++ value.write e.1

  -- two rows with the same key are the same row
  abbrev pub IsOnce : List Row → Type 0
  IsOnce rows = (r s : Row) → Has rows r → Has rows s → (q : K) → matches R total exact entry q r ≡ true → matches R total exact entry q s ≡ true → value_cmp (rowid r) (rowid s) ≡ Equal

  look_none : (q : K) (rows : List Row) → ((s : Row) → Has rows s → matches R total exact entry q s ≡ false) → look R total exact entry q rows ≡ None
  look_none q [] h = refl
  look_none q (r ∷ rows) h = ap (λ b. cond b (value_of R total exact entry r) (look R total exact entry q rows)) (h r (inl refl)) ∙ look_none q rows (λ s k. h s (inr k))

  distinct : (rows : List Row) → IsTable rows → IsOnce rows → AreDistinct R (filter_map entry rows)
  distinct [] table once = tt
  distinct (r ∷ rows) table once = go (entry r) refl (distinct rows table.1 (λ a b h k. once a b (inr h) (inr k)))
    where
      go : (o : Option (K × V)) → entry r ≡ o → AreDistinct R (filter_map entry rows)
          → AreDistinct R (cons_option o (filter_map entry rows))
      go None is more = more
      go (Some e) is more = (
        find-look R total exact entry e.0 rows ∙ look_none e.0 rows (λ s h. false_from_ne_true _ (λ at.
            let here : matches R total exact entry e.0 r ≡ true = ap (matches_by R total exact entry e.0) is ∙ ap is_eq (tied_itself total e.0) in
            let tie = once r s (inl refl) (inr h) e.0 here at in
            let under = all_has _ rows s table.0 h in
            let f = sym tie ∙ under in cc)),
        more,
      )

  module _ (q : Query) (params : Row) (rows : List Row) (test : Row → Bool) (p : K → Bool) (order : K → Row)
      (tested : (id : Value) (e : K × V) → test (id ∷ written e) ≡ p e.0)
      (outputs : (id : Value) (e : K × V) → output q (params ∷ (id ∷ written e) ∷ []) ≡ (order e.0, written e))
      (shows : (r : Row) → Has rows r → (output q (params ∷ r ∷ [])).1 ≡ drop 1 r)
      (full : (r : Row) → Has rows r → (id : Value) × (r ≡ id ∷ drop 1 r))
      (follows : (a b : K × V) → R a.0 b.0 ≡ Less → output_cmp q (order a.0, written a) (order b.0, written b) ≡ Less)
      (table : IsTable rows) (once : IsOnce rows) where
    abbrev out : Row → Output
    out r = output q (params ∷ r ∷ [])

    abbrev shown : K × V → Output
    shown e = (order e.0, written e)

    -- what a row of the answer is read as
    abbrev read : Output → Option (K × V)
    read o = entry_in key value o.1

    abbrev is_read : Output → Bool
    is_read o = is_some (read o)

    read_out : (r : Row) → Has rows r → read (out r) ≡ entry r
    read_out r h = ap (entry_in key value) (shows r h) ∙ sym (ap entry (full r h).1)

    entry_row : (r : Row) (e : K × V) → Has rows r → entry r ≡ Some e → (id : Value) × (r ≡ id ∷ written e)
    entry_row r e h is =
        let it = full r h in
        (it.0, it.1 ∙ ap (λ cs. it.0 ∷ cs) (entry_only key value is_key is_value it.0 (drop 1 r) e (ap entry (sym it.1) ∙ is)))

    -- what is read from the rows' outputs is the outputs of their entries
    outs_read : (rs : List Row) → ((r : Row) → Has rs r → Has rows r) → filter is_read (map out rs) ≡ map shown (filter_map entry rs)
    outs_read [] of = refl
    outs_read (r ∷ rs) of = go (entry r) refl (outs_read rs (λ s h. of s (inr h)))
      where
        go : (o : Option (K × V)) → entry r ≡ o → filter is_read (map out rs) ≡ map shown (filter_map entry rs)
            → cond (is_read (out r)) (out r ∷ filter is_read (map out rs)) (filter is_read (map out rs)) ≡ map shown (cons_option o (filter_map entry rs))
        go None is more =
            ap (λ b. cond b (out r ∷ filter is_read (map out rs)) (filter is_read (map out rs))) (ap is_some (read_out r (of r (inl refl)) ∙ is)) ∙ more
        go (Some e) is more =
            let it = entry_row r e (of r (inl refl)) is in
            let here : out r ≡ shown e = ap out it.1 ∙ outputs it.0 e in
            ap (λ b. cond b (out r ∷ filter is_read (map out rs)) (filter is_read (map out rs))) (ap is_some (read_out r (of r (inl refl)) ∙ is))
            ∙ (λ i. here i ∷ more i)

    -- the output of an entry is read as the entry
    each_read : (rs : List Row) → ((r : Row) → Has rs r → Has rows r) → AllByRecursion (λ e. read (shown e) ≡ Some e) (filter_map entry rs)
    each_read [] of = tt
    each_read (r ∷ rs) of = go (entry r) refl (each_read rs (λ s h. of s (inr h)))
      where
        go : (o : Option (K × V)) → entry r ≡ o → AllByRecursion (λ e. read (shown e) ≡ Some e) (filter_map entry rs)
            → AllByRecursion (λ e. read (shown e) ≡ Some e) (cons_option o (filter_map entry rs))
        go None is more = more
        go (Some e) is more = (sym (ap entry (entry_row r e (of r (inl refl)) is).1) ∙ is, more)

    -- the rows that pass the test have the entries that pass it
    as_filtered : (rs : List Row) → ((r : Row) → Has rs r → Has rows r) → filter_map entry (filter test rs) ≡ filter (λ e. p e.0) (filter_map entry rs)
    as_filtered [] of = refl
    as_filtered (r ∷ rs) of = go (as_filtered rs (λ s h. of s (inr h))) (test r) refl (entry r) refl
      where
        go : filter_map entry (filter test rs) ≡ filter (λ e. p e.0) (filter_map entry rs) → (b : Bool) → test r ≡ b → (o : Option (K × V)) → entry r ≡ o
            → filter_map entry (cond b (r ∷ filter test rs) (filter test rs)) ≡ filter (λ e. p e.0) (cons_option o (filter_map entry rs))
        go more true at None is = ap (λ o. cons_option o (filter_map entry (filter test rs))) is ∙ more
        go more true at (Some e) is =
            let it = entry_row r e (of r (inl refl)) is in
            let picked : p e.0 ≡ true = sym (tested it.0 e) ∙ ap test (sym it.1) ∙ at in
            ap (λ o. cons_option o (filter_map entry (filter test rs))) is
            ∙ ap (λ es. e ∷ es) more ∙ sym (ap (λ b. cond b (e ∷ filter (λ e. p e.0) (filter_map entry rs)) (filter (λ e. p e.0) (filter_map entry rs))) picked)
        go more false at None is = more
        go more false at (Some e) is =
            let it = entry_row r e (of r (inl refl)) is in
            let passed : p e.0 ≡ false = sym (tested it.0 e) ∙ ap test (sym it.1) ∙ at in
            more ∙ sym (ap (λ b. cond b (e ∷ filter (λ e. p e.0) (filter_map entry rs)) (filter (λ e. p e.0) (filter_map entry rs))) passed)

    -- what is read from the answer is the entries with the keys asked for, in their order
    pub answers : (answer : List Row) (kept ordered : List Output)
        → kept ≡ map out (filter test rows) → IsPermutation kept ordered → Rattle.std.specs.Prelude.IsSorted (output_cmp q) ordered → answer ≡ map (λ o. o.1) ordered
        → filter_map (entry_in key value) answer ≡ filter (λ e. p e.0) (table_in R entry rows)
    answers answer kept ordered kept_is same sorted is =
        let picked : (r : Row) → Has (filter test rows) r → Has rows r = λ r h. (has_filtered test rows r h).0 in
        let es : List (K × V) = filter_map entry (filter test rows) in
        let wanted : List (K × V) = filter (λ e. p e.0) (table_in R entry rows) in
        let once_each = distinct rows table once in
        let permuted : IsPermutation es wanted =
        subst (λ l. IsPermutation l wanted) (sym (as_filtered rows (λ r h. h))) (IsPermutation-filter (λ e. p e.0) (filter_map entry rows) (in_key_order R (filter_map entry rows)) (order_permutes R total (filter_map entry rows) once_each)) in
        let moved : IsPermutation (map shown wanted) (filter is_read ordered) =
        IsPermutation-trans _ (filter is_read kept) _
        (subst (λ k. IsPermutation (map shown wanted) k) (sym (ap (filter is_read) kept_is ∙ outs_read (filter test rows) picked)) (IsPermutation-sym _ _ (IsPermutation-map shown _ _ permuted)))
        (IsPermutation-filter is_read _ _ same) in
        let up = ascending-map (λ x y. output_cmp q x y ≡ Less) shown wanted (ascending_weaker _ _ follows wanted (ascending-filter _ (λ e. p e.0) _ (order_rises R total (filter_map entry rows)))) in
        let ordering = on_total (λ o. o.0) (key_cmp_total (map (λ k. k.1) q.order) 0) in
        let placed = sorted_unique (output_cmp q) ordering (map shown wanted) (filter is_read ordered) up moved (IsSortedBy-filter _ (sorts_by (output_cmp q) ordering) is_read ordered sorted) in
        let each = all-permutation (λ e. read (shown e) ≡ Some e) es wanted permuted (each_read (filter test rows) picked) in
        ap (filter_map (entry_in key value)) is ∙ map_read (entry_in key value) (λ (o : Output). o.1) ordered ∙ those_read read ordered
        ∙ ap (filter_map read) placed ∙ back_read read shown wanted each
