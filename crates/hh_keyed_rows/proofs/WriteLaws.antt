-- What a table is after one row was written and replaced those with its key.
use Rattle.std.proofs.Common.{◌≡◌, Bool, true, false, cond, not, List, [], ◌∷◌, filter, Option, Some, None, Ordering, Less, Equal, Greater, is_eq, ℤ, refl, sym, ap, subst, ◌∙◌, inl, inr}
use Rattle.std.specs.Prelude.{filter_map, option_map}
use Rattle.std.specs.List.{cons_option}
use Rattle.std.specs.Ordering.{match_ordering}
use Rattle.std.specs.Cmp.{IsTotalOrder}
use Rattle.std.specs.FinMap.{find, put}
use Rattle.std.specs.FinMap.Entries.{find-put, is_sorted-put, same_entries}
use Rattle.std.proofs.lemmas.Bool.{cases_Bool, or_parts, not-true, true≢false}
use Rattle.std.proofs.lemmas.Cmp.{tied_itself}
use Rattle.std.proofs.lemmas.Map.Lookups.{CmpEqualImpliesEq}
use Rattle.sqlite_value.specs.Order.{Row, value_cmp}
use Rattle.sqlite_trees.specs.Tree.{rowid, has_rowid, put_row, without_rowid}
use Rattle.sqlite_rules.specs.Lists.{Has}
use Rattle.sqlite_rules.specs.Edit.{without_all, is_taken}
use Rattle.sqlite_rules.proofs.ListLemmas.{has_filtered}
use Rattle.sqlite_rules.proofs.TableLemmas.{without_all_has}
use Rattle.hh_tables.proofs.TableLaws.{find-in_key_order, is_sorted-in_key_order}
use Rattle.hh_keyed_rows.specs.KeyedRows.{table_in}

swap : {X : Type 0} (a b : Bool) (x y z : X) → (a ≡ true → b ≡ false) → cond b y (cond a x z) ≡ cond a x (cond b y z)
swap true true x y z h = absurd (true≢false (h refl))
swap true false x y z h = refl
swap false b x y z h = refl

tied : (o : Ordering) → is_eq o ≡ true → o ≡ Equal
tied Less h = absurd (true≢false (sym h))
tied Equal h = refl
tied Greater h = absurd (true≢false (sym h))

module _ {K V : Type 0} (R : K → K → Ordering) (total : IsTotalOrder R) (exact : CmpEqualImpliesEq R) (entry : Row → Option (K × V)) where
  -- whether a row has an entry with this key
  abbrev pub matches_by : K → Option (K × V) → Bool
  matches_by q None = false
  matches_by q (Some e) = is_eq (R q e.0)

  abbrev pub matches : K → Row → Bool
  matches q r = matches_by q (entry r)

  abbrev pub value_of : Row → Option V
  value_of r = option_map (λ e. e.1) (entry r)

  -- the value of the first row with this key
  abbrev pub look : K → List Row → Option V
  look q [] = None
  look q (r ∷ rows) = cond (matches q r) (value_of r) (look q rows)

  pub find-look : (q : K) (rows : List Row) → find R q (filter_map entry rows) ≡ look q rows
  find-look q [] = refl
  find-look q (r ∷ rows) = go (entry r) (find-look q rows)
    where
      go : (o : Option (K × V)) → find R q (filter_map entry rows) ≡ look q rows
          → find R q (cons_option o (filter_map entry rows)) ≡ cond (matches_by q o) (option_map (λ e. e.1) o) (look q rows)
      go None more = more
      go (Some e) more = ap (cond (is_eq (R q e.0)) (Some e.1)) more

  pub find-table_in : (q : K) (rows : List Row) → find R q (table_in R entry rows) ≡ look q rows
  find-table_in q rows = find-in_key_order total (filter_map entry rows) q ∙ find-look q rows

  same : (a b : K) → is_eq (R a b) ≡ true → a ≡ b
  same a b h = exact a b (tied (R a b) h)

  look-put : (q : K) (k : K) (v : V) (new : Row) (is : entry new ≡ Some (k, v)) (rows : List Row) → is_taken rows new ≡ false → ((r : Row) → Has rows r → is_eq (R q k) ≡ true → matches q r ≡ false)
      → look q (put_row new rows) ≡ cond (is_eq (R q k)) (Some v) (look q rows)
  look-put q k v new is [] fresh none = ap (λ o. cond (matches_by q o) (option_map (λ (e : K × V). e.1) o) None) is
  look-put q k v new is (r ∷ rows) fresh none =
      let apart = or_parts (is_eq (value_cmp (rowid r) (rowid new))) (is_taken rows new) fresh in
      go (value_cmp (rowid r) (rowid new)) apart.0 (look-put q k v new is rows apart.1 (λ x h. none x (inr h)))
    where
      go : (o : Ordering) → is_eq o ≡ false → look q (put_row new rows) ≡ cond (is_eq (R q k)) (Some v) (look q rows)
          → look q (match_ordering o (r ∷ put_row new rows) (new ∷ rows) (new ∷ r ∷ rows)) ≡ cond (is_eq (R q k)) (Some v) (look q (r ∷ rows))
      go Less h more = ap (cond (matches q r) (value_of r)) more ∙ swap (is_eq (R q k)) (matches q r) (Some v) (value_of r) (look q rows) (none r (inl refl))
      go Equal h more = absurd (true≢false h)
      go Greater h more = ap (λ o. cond (matches_by q o) (option_map (λ (e : K × V). e.1) o) (look q (r ∷ rows))) is

  look-filter : (q : K) (p : Row → Bool) (rows : List Row) → ((r : Row) → Has rows r → p r ≡ false → matches q r ≡ false) → look q (filter p rows) ≡ look q rows
  look-filter q p [] h = refl
  look-filter q p (r ∷ rows) h = go (p r) refl (look-filter q p rows (λ x k. h x (inr k)))
    where
      go : (b : Bool) → p r ≡ b → look q (filter p rows) ≡ look q rows → look q (cond b (r ∷ filter p rows) (filter p rows)) ≡ look q (r ∷ rows)
      go true is more = ap (cond (matches q r) (value_of r)) more
      go false is more = more ∙ sym (ap (λ b. cond b (value_of r) (look q rows)) (h r (inl refl) is))

  look-without : (q : K) (ids : List ℤ) (rows : List Row) → ((r : Row) (id : ℤ) → Has rows r → Has ids id → has_rowid id r ≡ true → matches q r ≡ false)
      → look q (without_all rows ids) ≡ look q rows
  look-without q [] rows h = refl
  look-without q (id ∷ ids) rows h =
      look-without q ids (without_rowid id rows) (λ r other k l. h r other (has_filtered _ rows r k).0 (inr l))
      ∙ look-filter q (λ r. not (has_rowid id r)) rows (λ r k lost. h r id k (inl refl) (not_false (has_rowid id r) lost))
    where
      not_false : (b : Bool) → not b ≡ false → b ≡ true
      not_false true e = refl
      not_false false e = absurd (true≢false e)

  lost : (ids : List ℤ) (rows : List Row) (r : Row) (id : ℤ) → Has (without_all rows ids) r → Has ids id → has_rowid id r ≡ true → ⊥
  lost [] rows r id h none has = none
  lost (other ∷ ids) rows r id h (inl here) has =
      let kept = (has_filtered (λ x. not (has_rowid other x)) rows r (without_all_has ids (without_rowid other rows) r h)).1 in
      true≢false (sym has ∙ ap (λ i. has_rowid i r) here ∙ not-true (has_rowid other r) kept)
  lost (other ∷ ids) rows r id h (inr later) has = lost ids (without_rowid other rows) r id h later has

  -- if a row has a key, it has any equal key
  match_same : (q k : K) (r : Row) → is_eq (R q k) ≡ true → matches q r ≡ true → matches k r ≡ true
  match_same q k r at is = subst (λ x. matches x r ≡ true) (same q k at) is

  -- The rowids are those of the rows with the key of the new row, and of rows that are no entries; the new rowid is free.
  pub table_in-replaced : (rows : List Row) (new : Row) (k : K) (v : V) → entry new ≡ Some (k, v) → (ids : List ℤ) → is_taken (without_all rows ids) new ≡ false
      → ((r : Row) (id : ℤ) → Has rows r → Has ids id → has_rowid id r ≡ true → (q : K) → matches q r ≡ true → q ≡ k)
      → ((r : Row) → Has rows r → matches k r ≡ true → (id : ℤ) × Has ids id × (has_rowid id r ≡ true))
      → table_in R entry (put_row new (without_all rows ids)) ≡ put R k v (table_in R entry rows)
  table_in-replaced rows new k v is ids fresh sound complete =
      same_entries R total exact _ _
      (is_sorted-in_key_order total (filter_map entry (put_row new (without_all rows ids))))
      (is_sorted-put R total k v (table_in R entry rows) (is_sorted-in_key_order total (filter_map entry rows)))
      (λ q.
      find-table_in q (put_row new (without_all rows ids))
      ∙ look-put q k v new is (without_all rows ids) fresh (none q)
      ∙ rest q (is_eq (R q k)) refl
      ∙ sym (find-put R total q k v (table_in R entry rows) ∙ ap (cond (is_eq (R q k)) (Some v)) (find-table_in q rows)))
    where
      none : (q : K) (r : Row) → Has (without_all rows ids) r → is_eq (R q k) ≡ true → matches q r ≡ false
      none q r h at = elim (cases_Bool (matches q r)) [
        | inl also ↦ absurd (let it = complete r (without_all_has ids rows r h) (match_same q k r at also) in lost ids rows r it.0 h it.1 it.2)
        | inr apart ↦ apart
      ]

      apart_at : (q : K) → is_eq (R q k) ≡ false → (r : Row) (id : ℤ) → Has rows r → Has ids id → has_rowid id r ≡ true → matches q r ≡ false
      apart_at q at r id h l has = elim (cases_Bool (matches q r)) [
        | inl also ↦ absurd (true≢false (sym (subst (λ x. is_eq (R x k) ≡ true) (sym (sound r id h l has q also)) (ap is_eq (tied_itself total k))) ∙ at))
        | inr apart ↦ apart
      ]

      rest : (q : K) (b : Bool) → is_eq (R q k) ≡ b → cond b (Some v) (look q (without_all rows ids)) ≡ cond b (Some v) (look q rows)
      rest q true at = refl
      rest q false at = look-without q ids rows (apart_at q at)
