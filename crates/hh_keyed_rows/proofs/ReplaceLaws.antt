-- The table of an office after INSERT OR REPLACE of one row, for any table whose unique index is on its key.
use Rattle.std.proofs.Common.{◌≡◌, not, inl, inr, true, false, ◌&&◌, ℤ, List, [], ◌∷◌, ◌++◌, length, drop, Option, Some, None, Ordering, Equal, IsTrue, is_eq, refl, sym, ap, subst, ◌∙◌}
use Rattle.std.specs.List.{list_any}
use Rattle.std.specs.Cmp.{IsTotalOrder}
use Rattle.std.specs.FinMap.{put}
use Rattle.std.proofs.lemmas.Bool.{or_cases, or_right, and_parts, true≢false, false_from_ne_true}
use Rattle.std.proofs.lemmas.Cmp.{tied_itself}
use Rattle.std.proofs.lemmas.Map.Lookups.{CmpEqualImpliesEq}
use Rattle.sqlite_value.specs.declared.value.Value.{Value}
use Rattle.sqlite_value.specs.declared.value.Value.TheVariants.{Int}
use Rattle.sqlite_value.specs.declared.keys.Collation.TheVariants.{Binary}
use Rattle.sqlite_value.specs.Keys.{plain, first_key}
use Rattle.sqlite_value.specs.Order.{Row, value_cmp}
use Rattle.sqlite_value.proofs.OrderLemmas.{value_cmp_total, value_cmp-Int}
use Rattle.sqlite_trees.specs.Tree.{Trees, rowid, has_rowid, without_rowid}
use Rattle.sqlite_trees.specs.View.{is_int, IsShaped}
use Rattle.sqlite_trees.specs.declared.store.Shape.TheVariants as shape
use Rattle.sqlite_trees.proofs.TreeLemmas.{IsShaped-filter, IsShaped-put_row}
use Rattle.sqlite_schema.specs.Rules.{equal, agree}
use Rattle.sqlite_schema.specs.declared.schema.Table.{Table}
use Rattle.sqlite_schema.specs.declared.schema.Schema.{Schema}
use Rattle.sqlite_rules.specs.Lists.{Has}
use Rattle.sqlite_rules.specs.Keys.{shares}
use Rattle.sqlite_rules.specs.Calls.{ids_of}
use Rattle.sqlite_rules.specs.Edit.{id_in, next_rowid, without_all, is_taken}
use Rattle.sqlite_rules.specs.declared.error.Rowids.TheVariants.{Chosen}
use Rattle.sqlite_rules.proofs.ListLemmas.{all_has, some_has, some_from}
use Rattle.sqlite_rules.proofs.ProbeLemmas.{has_mapped, mapped_has}
use Rattle.sqlite_rules.proofs.TableLemmas.{int_is, without_all_has}
use Rattle.sqlite_rules.proofs.PlaceLemmas.{tied_same, next_is_free}
use Rattle.hh_keyed_rows.specs.Codecs.{Codec, IsCodec, places_from}
use Rattle.hh_keyed_rows.specs.KeyedRows.{stored_entry, table_in}
use Rattle.hh_keyed_rows.specs.Puts.{stored_in, PutsRow}
use Rattle.hh_keyed_rows.proofs.CodecLaws.{entry_written, entry_only}
use Rattle.hh_keyed_rows.proofs.WriteLaws.{matches, matches_by, table_in-replaced}
use Rattle.hh_keyed_rows.proofs.PlaceLaws.{agree_same, agree_there, equal_ints, is_Equal}

-- ---- which rows are replaced

module _ (schema : Schema) (table : Table) {K V : Type 0} (R : K → K → Ordering) (total : IsTotalOrder R) (exact : CmpEqualImpliesEq R) (entry : Row → Option (K × V)) where
  -- the unique indexes of the table distinguish its rows by their keys
  abbrev pub TellsApart : List Row → Row → K → Type 0
  TellsApart rows new k = (r : Row) → Has rows r
      → (list_any (shares None table new r) schema.indexes ≡ true → (q : K) → matches R total exact entry q r ≡ true → q ≡ k)
      × (matches R total exact entry k r ≡ true → list_any (shares None table new r) schema.indexes ≡ true)

  module _ (old new : Trees) (columns : Row) (k : K) (v : V) (is : entry (stored_in (old table.tree) columns) ≡ Some (k, v)) (shaped : IsShaped shape.Table (old table.tree))
      (tells : TellsApart (old table.tree) (stored_in (old table.tree) columns) k) (puts : PutsRow schema table old columns new) where
    abbrev rows : List Row
    rows = old table.tree

    abbrev row : Row
    row = stored_in rows columns

    abbrev ids : List ℤ
    ids = ids_of puts.found

    taken : is_taken rows row ≡ false
    taken = next_is_free Chosen rows columns shaped.0 shaped.1

    free : is_taken (without_all rows ids) row ≡ false
    free = false_from_ne_true _ (λ is.
        let r = some_has (λ r. is_eq (value_cmp (rowid r) (rowid row))) (without_all rows ids) is in
        true≢false (sym (some_from (λ r. is_eq (value_cmp (rowid r) (rowid row))) rows r.0 (without_all_has ids rows r.0 r.1) r.2) ∙ taken))

    int_of : (r : Row) → Has rows r → rowid r ≡ Int (id_in (rowid r))
    int_of r h = int_is (rowid r) (let b : IsTrue (is_int (rowid r)) = all_has _ rows r shaped.1 h in b)

    other_rowid : (r : Row) → Has rows r → (true && agree plain (0 ∷ []) r (0 ∷ []) row) ≡ true → ⊥
    unfolding first_key
    other_rowid r h same =
        let known = int_of r h in
        let agreed = (and_parts (equal Binary (rowid r) (Int (next_rowid rows))) true same).0 in
        let tie : is_eq (value_cmp (rowid r) (Int (next_rowid rows))) ≡ true = ap (λ v. is_eq (value_cmp v (Int (next_rowid rows)))) known ∙ ap is_eq (value_cmp-Int (id_in (rowid r)) (next_rowid rows)) ∙ sym (equal_ints (id_in (rowid r)) (next_rowid rows)) ∙ ap (λ v. equal Binary v (Int (next_rowid rows))) (sym known) ∙ agreed in
        true≢false (sym (some_from (λ x. is_eq (value_cmp (rowid x) (Int (next_rowid rows)))) rows r h tie) ∙ taken)

    sound : (r : Row) (id : ℤ) → Has rows r → Has ids id → has_rowid id r ≡ true → (q : K) → matches R total exact entry q r ≡ true → q ≡ k
    sound r id h l has q at =
        let x = has_mapped (λ r. id_in (rowid r)) puts.found id l in
        let from = puts.conflicts.sound x.0 x.1 in
        let named : Int id ≡ rowid from.0 = ap Int (x.2 ∙ ap (λ v. id_in (rowid v)) from.3) ∙ sym (int_of from.0 from.1) in
        let tie : value_cmp (rowid r) (rowid from.0) ≡ Equal = ap (value_cmp (rowid r)) (sym named) ∙ is_Equal _ has in
        let same = tied_same rows r from.0 shaped.0 h from.1 tie in
        let shared : list_any (shares None table row from.0) schema.indexes ≡ true = elim (or_cases _ _ from.2) [ inl first ↦ absurd (other_rowid from.0 from.1 first) | inr second ↦ second ] in
        (tells from.0 from.1).0 shared q (subst (λ r. matches R total exact entry q r ≡ true) same at)

    complete : (r : Row) → Has rows r → matches R total exact entry k r ≡ true → (id : ℤ) × Has ids id × (has_rowid id r ≡ true)
    complete r h at =
        let found = puts.conflicts.complete r h (or_right _ _ ((tells r h).1 at)) in
        (id_in (rowid r), mapped_has (λ r. id_in (rowid r)) puts.found (rowid r ∷ []) found, ap is_eq (ap (value_cmp (rowid r)) (sym (int_of r h)) ∙ tied_itself value_cmp_total (rowid r)))

    pub table_in-put : table_in R entry (new table.tree) ≡ put R k v (table_in R entry (old table.tree))
    table_in-put = ap (table_in R entry) puts.rows ∙ table_in-replaced R total exact entry rows row k v is ids free sound complete

-- ---- for codecs

module _ (schema : Schema) (table : Table) {K V : Type 0} (R : K → K → Ordering) (total : IsTotalOrder R) (exact : CmpEqualImpliesEq R)
    (key : Codec K) (value : Codec V) (is_key : IsCodec key) (is_value : IsCodec value)
    (indexed : (r new : Row) → list_any (shares None table new r) schema.indexes ≡ agree plain (places_from 1 key.width) r (places_from 1 key.width) new) where
  abbrev entry : Row → Option (K × V)
  entry = stored_entry key value

  pub matched : (q : K) (r : Row) → matches R total exact entry q r ≡ true → (id : Value) × (columns : Row) × (e : K × V) × (r ≡ id ∷ columns) × (columns ≡ key.write e.0 ++ value.write e.1) × (q ≡ e.0)
  matched q [] at = absurd (true≢false (sym at))
  matched q (id ∷ columns) at = by_entry (entry (id ∷ columns)) refl at
    where
      by_entry : (o : Option (K × V)) → entry (id ∷ columns) ≡ o → matches_by R total exact entry q o ≡ true
          → (i : Value) × (cs : Row) × (e : K × V) × (id ∷ columns ≡ i ∷ cs) × (cs ≡ key.write e.0 ++ value.write e.1) × (q ≡ e.0)
      by_entry None is at = absurd (true≢false (sym at))
      by_entry (Some e) is at = (id, columns, e, refl, entry_only key value is_key is_value id columns e is, exact q e.0 (is_Equal _ at))

  tells : (rows : List Row) (k : K) (v : V) → TellsApart schema table R total exact entry rows (stored_in rows (key.write k ++ value.write v)) k
  tells rows k v r h =
      let new : Row = stored_in rows (key.write k ++ value.write v) in (
        (λ shared q at.
            let m = matched q r at in
            let agrees : agree plain (places_from 1 key.width) r (places_from 1 key.width) new ≡ true = sym (indexed r new) ∙ shared in
            let lengths : key.width ≡ length (key.write m.2.0) = sym (is_key.wide m.2.0) in
            let columns : drop 1 r ≡ key.write m.2.0 ++ value.write m.2.1 = ap (drop 1) m.3 ∙ m.4 in
            let here : agree plain (places_from 1 (length (key.write m.2.0))) r (places_from 1 (length (key.write m.2.0))) new ≡ true = subst (λ n. agree plain (places_from 1 n) r (places_from 1 n) new ≡ true) lengths agrees in
            let written : key.write m.2.0 ≡ key.write k = agree_same 1 (key.write m.2.0) (key.write k) r new (value.write m.2.1) (value.write v) columns refl (is_key.wide m.2.0 ∙ sym (is_key.wide k)) (is_key.plain m.2.0) (is_key.plain k) here in
            m.5 ∙ is_key.apart m.2.0 k written),
        (λ at.
            let m = matched k r at in
            let columns : drop 1 r ≡ key.write k ++ value.write m.2.1 = ap (drop 1) m.3 ∙ m.4 ∙ ap (λ q. key.write q ++ value.write m.2.1) (sym m.5) in
            let there = agree_there 1 (key.write k) r new (value.write m.2.1) (value.write v) columns refl (is_key.plain k) in
            indexed r new ∙ subst (λ n. agree plain (places_from 1 n) r (places_from 1 n) new ≡ true) (is_key.wide k) there),
      )

  -- the row is under its key, where it replaces the one there
  pub put_in_table : (old new : Trees) (k : K) (v : V) → key.fits k ≡ true → value.fits v ≡ true → IsShaped shape.Table (old table.tree)
      → PutsRow schema table old (key.write k ++ value.write v) new → table_in R entry (new table.tree) ≡ put R k v (table_in R entry (old table.tree))
  put_in_table old new k v fit_key fit_value shaped puts =
      let written = entry_written key value is_key is_value (Int (next_rowid (old table.tree))) k v fit_key fit_value in
      let told = tells (old table.tree) k v in table_in-put schema table R total exact entry old new (key.write k ++ value.write v) k v written shaped told puts

-- ---- the shape of a table does not change

shaped_without : (ids : List ℤ) (rows : List Row) → IsShaped shape.Table rows → IsShaped shape.Table (without_all rows ids)
shaped_without [] old h = h
shaped_without (id ∷ ids) old h =
    shaped_without ids (without_rowid id old) (IsShaped-filter shape.Table (λ r. not (has_rowid id r)) old h)

pub shaped_put : (schema : Schema) (table : Table) (old new : Trees) (columns : Row) → IsShaped shape.Table (old table.tree) → PutsRow schema table old columns new → IsShaped shape.Table (new table.tree)
shaped_put schema table old new columns shaped puts =
    subst (IsShaped shape.Table) (sym puts.rows) (IsShaped-put_row (stored_in (old table.tree) columns) (without_all (old table.tree) (ids_of puts.found)) refl (shaped_without (ids_of puts.found) (old table.tree) shaped))
