-- Several rows that one statement writes: the terms of their values, and what the rows make of a table.
use Rattle.std.proofs.Common.{◌≡◌, ◌+◌, ◌-◌, ◌*◌, ◌/◌, ℕ, zero, suc, List, [], ◌∷◌, ◌++◌, append-nil, length, length-append, map, drop, take, arith, refl, sym, ap, subst, ◌∙◌}
use Rattle.std.specs.List.{flat_map}
use Rattle.std.proofs.Math.Nat.{add_comm, mul-div_cancel, suc-mul, zero-mul}
use Rattle.std.proofs.Math.Seq.{drop-append_seam, take-append_seam}
use Rattle.sqlite_value.specs.declared.value.Value.TheVariants.{Null}
use Rattle.sqlite_value.specs.Order.{Row, column}
use Rattle.sqlite_trees.specs.Tree.{put_row}
use Rattle.sqlite_sql.specs.Term.{Term, eval_all, lit}
use Rattle.sqlite_schema.specs.declared.schema.Table.{Table}
use Rattle.sqlite_rules.specs.Cast.{cast_all, cast_row}
use Rattle.sqlite_rules.specs.Edit.{numbered, put_all}
use Rattle.sqlite_rules.specs.declared.error.Rowids.TheVariants.{Chosen}
use Rattle.sqlite.specs.Effect.{value_rows}
use Rattle.sqlite.specs.Rows.{stamped}
use Rattle.hh_keyed_rows.specs.Puts.{stored_in}
use Rattle.hh_keyed_rows.proofs.PlaceLaws.{column_at, drop_next}
use Rattle.hh_keyed_rows.proofs.PutLaws.{cast_null}
use Rattle.hh_sqltables.specs.Terms.{group_terms, parameters}

-- ---- the terms of the values

length_parameters : (from count : ℕ) → length (parameters from count) ≡ count
length_parameters from zero = refl
length_parameters from (suc count) = ap suc (length_parameters (suc from) count)

length_group : (width from count : ℕ) → length (group_terms width from count) ≡ count * suc width
length_group width from zero = sym (zero-mul (suc width))
length_group width from (suc count) =
    length-append (lit Null ∷ parameters from width) (group_terms width (from + width) count)
    ∙ (λ i. suc (length_parameters from width i) + length_group width (from + width) count i)
    ∙ add_comm (suc width) (count * suc width)
    ∙ sym (suc-mul count (suc width))

pub group_count : (width from count : ℕ) → length (group_terms width from count) / suc width ≡ count
group_count width from count = ap (λ n. n / suc width) (length_group width from count) ∙ mul-div_cancel count (omega arith)

-- the parameters from number `from` on are these columns
eval_parameters : (params : Row) (from : ℕ) (columns rest : Row) → drop from params ≡ columns ++ rest → eval_all (parameters from (length columns)) (params ∷ []) ≡ columns
eval_parameters params from [] rest is = refl
eval_parameters params from (v ∷ columns) rest is =
    let first : column params from ≡ v = column_at params from v (columns ++ rest) is in
    let more = eval_parameters params (suc from) columns rest (drop_next params from v (columns ++ rest) is) in
    λ i. first i ∷ more i

drop_columns : (params : Row) (from : ℕ) (columns rest : Row) → drop from params ≡ columns ++ rest → drop (from + length columns) params ≡ rest
drop_columns params from [] rest is = ap (λ n. drop n params) (let e : from + 0 ≡ from = omega arith in e) ∙ is
drop_columns params from (v ∷ columns) rest is =
    ap (λ n. drop n params) (let e : from + suc (length columns) ≡ suc from + length columns = omega arith in e)
    ∙ drop_columns params (suc from) columns rest (drop_next params from v (columns ++ rest) is)

row_of_terms : (from width : ℕ) (more : List Term) → take (suc width) ((lit Null ∷ parameters from width) ++ more) ≡ lit Null ∷ parameters from width
row_of_terms from width more =
    ap (λ n. take (suc n) ((lit Null ∷ parameters from width) ++ more)) (sym (length_parameters from width)) ∙ ap (λ ts. lit Null ∷ ts) (take-append_seam (parameters from width) more)

terms_behind : (from width : ℕ) (more : List Term) → drop (suc width) ((lit Null ∷ parameters from width) ++ more) ≡ more
terms_behind from width more = ap (λ n. drop (suc n) ((lit Null ∷ parameters from width) ++ more)) (sym (length_parameters from width)) ∙ drop-append_seam (parameters from width) more

module _ {X : Type 0} (columns : X → Row) where
  -- the rows as a statement writes them: each has a rowid that is still to be chosen
  abbrev pub unnumbered : List X → List Row
  unnumbered = map (λ x. Null ∷ columns x)

  module _ (width : ℕ) (wide : (x : X) → length (columns x) ≡ width) where
    -- the values of the terms, if the parameters from number `from` on are the columns of the rows
    values_from : (params : Row) (from : ℕ) (xs : List X) → drop from params ≡ flat_map columns xs
        → value_rows params (suc width) (length xs) (group_terms width from (length xs)) ≡ unnumbered xs
    values_from params from [] is = refl
    values_from params from (x ∷ xs) is =
        let more = group_terms width (from + width) (length xs) in
        let front : eval_all (parameters from width) (params ∷ []) ≡ columns x =
        subst (λ n. eval_all (parameters from n) (params ∷ []) ≡ columns x) (wide x) (eval_parameters params from (columns x) (flat_map columns xs) is) in
        let first : eval_all (take (suc width) ((lit Null ∷ parameters from width) ++ more)) (params ∷ []) ≡ Null ∷ columns x =
        ap (λ ts. eval_all ts (params ∷ [])) (row_of_terms from width more) ∙ ap (λ r. Null ∷ r) front in
        let behind : drop (from + width) params ≡ flat_map columns xs = subst (λ n. drop (from + n) params ≡ flat_map columns xs) (wide x) (drop_columns params from (columns x) (flat_map columns xs) is) in
        let rest : value_rows params (suc width) (length xs) (drop (suc width) ((lit Null ∷ parameters from width) ++ more)) ≡ unnumbered xs =
        ap (value_rows params (suc width) (length xs)) (terms_behind from width more) ∙ values_from params (from + width) xs behind in
        λ i. first i ∷ rest i

    -- a table without a default that reads the time
    pub group_values : (table : Table) → table.stamps.terms ≡ [] → (count : ℕ) (xs : List X) → length xs ≡ count
        → value_rows (stamped table (flat_map columns xs)) (suc width) (length (group_terms width 0 count) / suc width) (group_terms width 0 count) ≡ unnumbered xs
    group_values table bare count xs long =
        let params = flat_map columns xs in
        let given : stamped table params ≡ params = ap (λ ts. params ++ eval_all ts (drop (length params - length table.stamps.formats) params ∷ [])) bare ∙ append-nil params in
        ap (λ n. value_rows (stamped table params) (suc width) n (group_terms width 0 count)) (group_count width 0 count)
        ∙ ap (λ ps. value_rows ps (suc width) count (group_terms width 0 count)) given
        ∙ subst (λ n. value_rows params (suc width) n (group_terms width 0 n) ≡ unnumbered xs) long (values_from params 0 xs refl)

  -- ---- the rows with their rowids

  -- the rows of a table after these rows are written, one after the other
  abbrev pub put_each : List X → List Row → List Row
  put_each [] rows = rows
  put_each (x ∷ xs) rows = put_each xs (put_row (stored_in rows (columns x)) rows)

  pub numbered_each : (xs : List X) (rows : List Row) → put_all rows (numbered Chosen rows (unnumbered xs)) ≡ put_each xs rows
  numbered_each [] rows = refl
  numbered_each (x ∷ xs) rows = numbered_each xs (put_row (stored_in rows (columns x)) rows)

  pub cast_each : (table : Table) → ((x : X) → cast_all table.columns (columns x) ≡ columns x) → (xs : List X) → map (λ s. cast_row table (drop 0 s)) (unnumbered xs) ≡ unnumbered xs
  cast_each table kept [] = refl
  cast_each table kept (x ∷ xs) =
      let first : cast_row table (Null ∷ columns x) ≡ Null ∷ columns x = λ i. cast_null i ∷ kept x i in
      let rest = cast_each table kept xs in
      λ i. first i ∷ rest i
