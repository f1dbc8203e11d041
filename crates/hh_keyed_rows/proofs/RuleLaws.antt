-- What the rules of a schema say about the rows of a keyed table: how many columns they have, and that no key occurs twice.
use Rattle.std.proofs.Common.{◌≡◌, Bool, true, false, not, ◌&&◌, ◌||◌, ◌+◌, ℕ, zero, suc, List, [], ◌∷◌, ◌++◌, length, drop, map, None, Ordering, Less, Equal, Greater, is_eq, IsTrue, arith, refl, sym, ap, subst, ◌∙◌, inl, inr}
use Rattle.std.specs.Ordering.{is_ne}
use Rattle.std.specs.List.{list_all, list_any}
use Rattle.std.specs.Cmp.{IsTotalOrder}
use Rattle.std.proofs.lemmas.Bool.{cases_Bool, and_parts, and_from, true≢false}
use Rattle.std.proofs.lemmas.Map.Lookups.{CmpEqualImpliesEq}
use Rattle.sqlite_value.specs.declared.value.Value.{Value}
use Rattle.sqlite_value.specs.declared.value.Value.TheVariants.{Null, Int}
use Rattle.sqlite_value.specs.Keys.{plain}
use Rattle.sqlite_value.specs.Order.{Row, column, value_cmp}
use Rattle.sqlite_sql.specs.Ops.{binary, is_null}
use Rattle.sqlite_schema.specs.Rules.{agree, are_typed, are_present, clashes, differ}
use Rattle.sqlite_schema.specs.declared.schema.Column.{Column}
use Rattle.sqlite_schema.specs.declared.schema.Schema.{Schema}
use Rattle.sqlite_schema.specs.declared.schema.Table.{Table}
use Rattle.sqlite_trees.specs.Tree.{rowid}
use Rattle.sqlite_trees.specs.View.{is_int, IsShaped}
use Rattle.sqlite_trees.specs.declared.store.Shape.TheVariants as shape
use Rattle.sqlite_rules.specs.Edit.{id_in}
use Rattle.sqlite_rules.specs.Lists.{Has}
use Rattle.sqlite_rules.proofs.ListLemmas.{all_has, some_from}
use Rattle.sqlite_rules.proofs.TableLemmas.{int_is}
use Rattle.hh_keyed_rows.specs.Codecs.{Codec, IsCodec, places_from}
use Rattle.hh_keyed_rows.specs.KeyedRows.{stored_entry}
use Rattle.hh_keyed_rows.proofs.WriteLaws.{matches}
use Rattle.hh_keyed_rows.proofs.PlaceLaws.{agree_there, column_at, drop_next, is_Equal, truth_of}
use Rattle.hh_keyed_rows.proofs.ReplaceLaws.{matched}

-- ---- how many columns

column_past : (row : Row) (at : ℕ) → drop at row ≡ [] → column row at ≡ Null
column_past [] zero is = refl
column_past [] (suc at) is = refl
column_past (x ∷ row) zero is = absurd (let e : ◌≡◌ {A = Row} (x ∷ row) [] = is in cc)
column_past (x ∷ row) (suc at) is = column_past row at is

-- the place after a place, written in two ways
next : (at : ℕ) → at + 1 ≡ suc at
next at = omega arith

absent : (n : Bool) (v : Value) → n ≡ true → v ≡ Null → (false || (not n || not (is_null v))) ≡ true → ⊥
absent n v p q h = true≢false (sym h ∙ (λ i. false || (not (p i) || not (is_null (q i)))))

module _ (row : Row) where
  -- a row that has a value in each of these columns, and no more
  pub typed_length : (at : ℕ) (cs : List Column) → list_all (λ c. c.not_null) cs ≡ true → are_typed None at cs (drop (suc at) row) ≡ true → are_present None at cs row ≡ true
      → length (drop (suc at) row) ≡ length cs
  typed_length at [] all typed there = go (drop (suc at) row) typed
    where
      go : (vs : Row) → are_typed None at [] vs ≡ true → length vs ≡ 0
      go [] h = refl
      go (v ∷ vs) h = absurd (true≢false (sym h))
  typed_length at (c ∷ cs) all typed there =
      go (typed_length (suc at) cs (and_parts c.not_null (list_all (λ c. c.not_null) cs) all).1) (drop (suc at) row) refl typed
    where
      go : (are_typed None (suc at) cs (drop (suc (suc at)) row) ≡ true → are_present None (suc at) cs row ≡ true → length (drop (suc (suc at)) row) ≡ length cs)
          → (vs : Row) → drop (suc at) row ≡ vs → are_typed None at (c ∷ cs) vs ≡ true → length vs ≡ suc (length cs)
      go later [] is h = absurd (absent c.not_null (column row (at + 1)) (and_parts c.not_null (list_all (λ c. c.not_null) cs) all).0 (ap (column row) (next at) ∙ column_past row (suc at) is) (and_parts _ _ there).0)
      go later (v ∷ vs) is h =
          let rest : drop (suc (suc at)) row ≡ vs = drop_next row (suc at) v vs is in
          ap suc (sym (ap length rest) ∙ later (subst (λ (l : Row). are_typed None (suc at) cs l ≡ true) (sym rest) (subst (λ n. are_typed None n cs vs ≡ true) (next at) (and_parts _ _ h).1)) (subst (λ n. are_present None n cs row ≡ true) (next at) (and_parts _ _ there).1))

  -- all its columns from a place on
  pub all_columns : (at count : ℕ) → length (drop at row) ≡ count → map (column row) (places_from at count) ≡ drop at row
  all_columns at zero long = go (drop at row) long
    where
      go : (vs : Row) → length vs ≡ 0 → [] ≡ vs
      go [] h = refl
      go (v ∷ vs) h = absurd (cc h)
  all_columns at (suc count) long = go (all_columns (suc at) count) (drop at row) refl long
    where
      go : (length (drop (suc at) row) ≡ count → map (column row) (places_from (suc at) count) ≡ drop (suc at) row) → (vs : Row) → drop at row ≡ vs → length vs ≡ suc count
          → column row at ∷ map (column row) (places_from (suc at) count) ≡ drop at row
      go later [] is h = absurd (cc h)
      go later (v ∷ vs) is h =
          let rest : drop (suc at) row ≡ vs = drop_next row at v vs is in
          let first : column row at ≡ v = column_at row at v vs is in
          let more : map (column row) (places_from (suc at) count) ≡ vs = later (ap length rest ∙ cc h) ∙ rest in
          (λ i. first i ∷ more i) ∙ sym is

-- a row with columns has a rowid
pub has_rowid : (row : Row) (n : ℕ) → length (drop 1 row) ≡ suc n → (id : Value) × (row ≡ id ∷ drop 1 row)
has_rowid [] n h = absurd (cc h)
has_rowid (id ∷ columns) n h = (id, refl)

-- a row with these columns has no others
abbrev pub HasColumns : Row → ℕ → Row → Type 0
HasColumns row at [] = Unit {0}
HasColumns row at (v ∷ vs) = (column row at ≡ v) × HasColumns row (suc at) vs

pub columns_are : (row : Row) (at : ℕ) (vs : Row) → length (drop at row) ≡ length vs → HasColumns row at vs → drop at row ≡ vs
columns_are row at [] long has = go (drop at row) long
  where
    go : (ws : Row) → length ws ≡ 0 → ws ≡ []
    go [] h = refl
    go (w ∷ ws) h = absurd (cc h)
columns_are row at (v ∷ vs) long has = go (λ l. columns_are row (suc at) vs l has.1) (drop at row) refl long
  where
    go : (length (drop (suc at) row) ≡ length vs → drop (suc at) row ≡ vs) → (ws : Row) → drop at row ≡ ws → length ws ≡ suc (length vs) → ws ≡ v ∷ vs
    go later [] is h = absurd (cc h)
    go later (w ∷ ws) is h =
        let rest : drop (suc at) row ≡ ws = drop_next row at w ws is in
        let first : w ≡ v = sym (column_at row at w ws is) ∙ has.0 in
        let more : ws ≡ vs = sym rest ∙ later (ap length rest ∙ cc h) in
        λ i. first i ∷ more i

-- ---- no key occurs twice

not_tied : (o : Ordering) → is_eq o ≡ false → is_ne o ≡ true
not_tied Less h = refl
not_tied Equal h = absurd (true≢false h)
not_tied Greater h = refl

differ_there : (v w : Value) → v ≡ Int (id_in v) → w ≡ Int (id_in w) → is_eq (value_cmp v w) ≡ false → differ v w ≡ true
unfolding binary
differ_there v w p q apart =
    ap (λ x. differ x w) p ∙ ap (λ x. differ (Int (id_in v)) x) q ∙ truth_of (is_ne (value_cmp (Int (id_in v)) (Int (id_in w))))
    ∙ not_tied _ (ap (λ x. is_eq (value_cmp (Int (id_in v)) x)) (sym q) ∙ ap (λ x. is_eq (value_cmp x w)) (sym p) ∙ apart)

module _ (schema : Schema) (table : Table) {K V : Type 0} (R : K → K → Ordering) (total : IsTotalOrder R) (exact : CmpEqualImpliesEq R)
    (key : Codec K) (value : Codec V) (is_key : IsCodec key) (is_value : IsCodec value)
    (indexed : (r new : Row) → list_any (Rattle.sqlite_rules.specs.Keys.shares None table new r) schema.indexes ≡ agree plain (places_from 1 key.width) r (places_from 1 key.width) new)
    (rows : List Row) (shaped : IsShaped shape.Table rows) (unique : (r : Row) → Has rows r → clashes plain (places_from 1 key.width) rows r ≡ false) where
  int_of : (r : Row) → Has rows r → rowid r ≡ Int (id_in (rowid r))
  int_of r h = int_is (rowid r) (let b : IsTrue (is_int (rowid r)) = all_has _ rows r shaped.1 h in b)

  pub once : (r s : Row) → Has rows r → Has rows s → (q : K) → matches R total exact (stored_entry key value) q r ≡ true → matches R total exact (stored_entry key value) q s ≡ true → value_cmp (rowid r) (rowid s) ≡ Equal
  once r s hr hs q at also =
      let m = matched schema table R total exact key value is_key is_value indexed q r at in
      let n = matched schema table R total exact key value is_key is_value indexed q s also in
      let first : drop 1 r ≡ key.write q ++ value.write m.2.1 = ap (drop 1) m.3 ∙ m.4 ∙ ap (λ k. key.write k ++ value.write m.2.1) (sym m.5) in
      let second : drop 1 s ≡ key.write q ++ value.write n.2.1 = ap (drop 1) n.3 ∙ n.4 ∙ ap (λ k. key.write k ++ value.write n.2.1) (sym n.5) in
      let agrees = subst (λ w. agree plain (places_from 1 w) r (places_from 1 w) s ≡ true) (is_key.wide q) (agree_there 1 (key.write q) r s (value.write m.2.1) (value.write n.2.1) first second (is_key.plain q)) in
      elim (cases_Bool (is_eq (value_cmp (rowid r) (rowid s)))) [
        | inl tie ↦ is_Equal _ tie
        | inr other ↦ absurd (true≢false (sym (some_from (λ o. agree plain (places_from 1 key.width) o (places_from 1 key.width) s && differ (rowid o) (rowid s)) rows r hr (and_from _ _ agrees (differ_there (rowid r) (rowid s) (int_of r hr) (int_of s hs) other))) ∙ unique s hs))
      ]
