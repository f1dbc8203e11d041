-- The reallocations of the units in the Settlement Periods that rows name; and a part that has them serves for the rows.
use Rattle.std.proofs.Common.{◌≡◌, ℕ, zero, suc, ◌+◌, ◌<◌, List, [], ◌∷◌, ◌++◌, length, take, get_or, refl, sym, ap, subst, ◌∙◌, Bool, true, false, cond, Ordering, append_assoc}
use Rattle.std.specs.Prelude.{filter, T}
use Rattle.std.specs.BTreeMap.{is_at}
use Rattle.std.specs.BTreeSet.{BTreeSet, Updates, contains}
use Rattle.std.specs.Cmp.{IsTotalOrder, Equal-is}
use Rattle.std.specs.FinMap.{put, is_sorted}
use Rattle.std.specs.FinMap.Entries.{below_all, by_order}
use Rattle.std.specs.List.{All, list_any}
use Rattle.std.specs.Ordering.{eq_by_cmp, is_lt, ordering_reverse}
use Rattle.std.specs.declared.cmp.Ordering.TheVariants.{Greater}
use Rattle.std.proofs.lemmas.Bool.{or_left, or_right}
use Rattle.std.proofs.lemmas.List.{append-nil}
use Rattle.std.proofs.lemmas.Map.Lookups.{exact_bytes}
use Rattle.std.proofs.lemmas.List.Folds.{list_any_at}
use Rattle.std.proofs.lemmas.List.Elements.{All-more, All-weaker, filter_more}
use Rattle.hh_tables.specs.Tables.{IsTable, Table, put_all}
use Rattle.hh_tables.proofs.FilterLaws.{filter_within}
use Rattle.hh_tables.proofs.MergeLaws.{from_true, put_all-append, put_all_is_table}
use Rattle.hh_tables.proofs.RowLaws.{both, first, less, second, sorted-filter}
use Rattle.hh_names.specs.declared.values.Reallocation.{Reallocation}
use Rattle.hh_names.specs.Accounts.{bytes_cmp}
use Rattle.hh_rows.specs.Keys.{reallocation_key_cmp, unit_period_cmp}
use Rattle.hh_rows.specs.declared.keys.ReallocationKey.{ReallocationKey}
use Rattle.hh_rows.specs.declared.keys.UnitPeriod.{UnitPeriod}
use Rattle.hh_rows.specs.declared.rows.Row.{Row}
use Rattle.hh_rows.specs.declared.rows.Row.TheVariants as row
use Rattle.hh_rows.proofs.KeyLaws.{exact_unit_periods, reallocation_key_total}
use Rattle.hh_rules.specs.History.{Leads, Registered}
use Rattle.hh_rules.specs.RegisterView.{AgreesOn, RegisterView, ServesFor, holding_leads, holding_reallocation, reallocations_at, reallocations_of, tables_in}
use Rattle.hh_kept_rows.specs.Parts.{leads_for, names_unit, whole_of}
use Rattle.hh_kept_rows.specs.declared.named_units.NamedUnits.{NamedUnits}
use Rattle.hh_kept_rows.specs.steps.Parts.{AgreesOnNames, Grows, IsNamedIn, IsPartOf, KeepsNames, is_named_in, with_reallocations}
use Rattle.hh_kept_rows.proofs.PartLaws.{names_grown}

module _ {K V : Type 0} (R : K → K → Ordering) where
  below-take : (k : K) (es : Table K V) (i : ℕ) → T (below_all R k es) → T (below_all R k (take i es))
  below-take k es zero h = tt
  below-take k [] (suc i) h = tt
  below-take k (e ∷ es) (suc i) h = both _ _ (first _ _ h) (below-take k es i (second _ _ h))

  sorted-take : (es : Table K V) (i : ℕ) → T (is_sorted R es) → T (is_sorted R (take i es))
  sorted-take es zero h = tt
  sorted-take [] (suc i) h = tt
  sorted-take (e ∷ es) (suc i) h = both _ _ (below-take e.0 es i (first _ _ h)) (sorted-take es i (second _ _ h))

module _ {K V : Type 0} {R : K → K → Ordering} (o : IsTotalOrder R) where
  below_within : (k : K) (front : Table K V) (e : K × V) (rest : Table K V) → T (below_all R k (front ++ e ∷ rest)) → T (is_lt (R k e.0))
  below_within k [] e rest h = first _ _ h
  below_within k (x ∷ front) e rest h = below_within k front e rest (second _ _ h)

  -- an entry above all others is put at the end
  put_behind_all : (front : Table K V) (e : K × V) (rest : Table K V) → T (is_sorted R (front ++ e ∷ rest)) → put R e.0 e.1 front ≡ front ++ e ∷ []
  put_behind_all [] e rest h = refl
  put_behind_all (x ∷ front) e rest h =
      let above : R e.0 x.0 ≡ Greater = o.antisymm e.0 x.0 ∙ ap ordering_reverse (less _ (below_within x.0 front e rest (first _ _ h))) in
      ap (λ r. by_order r ((e.0, e.1) ∷ x ∷ front) ((x.0, e.1) ∷ front) (x ∷ put R e.0 e.1 front)) above
      ∙ ap (λ es. x ∷ es) (put_behind_all front e rest (second _ _ h))

  -- entries above all others, in the order of their keys, are put at the end
  put_all_behind : (es front : Table K V) → T (is_sorted R (front ++ es)) → put_all R es front ≡ front ++ es
  put_all_behind [] front h = sym (append-nil front)
  put_all_behind (e ∷ es) front h =
      ap (put_all R es) (put_behind_all front e es h)
      ∙ put_all_behind es (front ++ e ∷ []) (subst (λ l. T (is_sorted R l)) (sym (append_assoc front (e ∷ []) es)) h)
      ∙ append_assoc front (e ∷ []) es

-- if a row names a unit, all registrations are held
pub leads_held : (rows : List Row) (k : ℕ) (d : Row) → k < length rows → (whole held : Leads) → names_unit (get_or rows k d) ≡ true → leads_for rows whole held ≡ whole
leads_held rows k d below whole held names = ap (λ b. cond b whole held) (list_any_at names_unit rows k d below names)

module _ (whole : Registered) (rising : IsTable reallocation_key_cmp whole.reallocations) (named : NamedUnits) where
  -- the reallocations whose unit and Settlement Period are named
  abbrev held : Table ReallocationKey Reallocation
  held = filter (is_named_in named) whole.reallocations

  -- putting them into an empty table gives them
  put_held : put_all reallocation_key_cmp held [] ≡ held
  put_held = put_all_behind reallocation_key_total held [] (sorted-filter reallocation_key_cmp (is_named_in named) whole.reallocations (from_true _ rising))

  -- and so does putting the first of them
  pub put_so_far : (i : ℕ) → put_all reallocation_key_cmp (filter (is_named_in named) (take i whole.reallocations)) [] ≡ filter (is_named_in named) (take i whole.reallocations)
  put_so_far i =
      put_all_behind reallocation_key_total (filter (is_named_in named) (take i whole.reallocations)) []
      (sorted-filter reallocation_key_cmp (is_named_in named) (take i whole.reallocations) (sorted-take reallocation_key_cmp whole.reallocations i (from_true _ rising)))

  held_at : (at : UnitPeriod) → contains unit_period_cmp named.periods at ≡ true
      → filter (λ e. eq_by_cmp unit_period_cmp e.0.unit_period at) held ≡ reallocations_at whole at
  held_at at is_named =
      filter_within (λ e. eq_by_cmp unit_period_cmp e.0.unit_period at) (is_named_in named)
      (λ e here. or_left (contains unit_period_cmp named.periods e.0.unit_period) (contains bytes_cmp named.units e.0.unit_period.unit)
      (ap (contains unit_period_cmp named.periods) (exact_unit_periods e.0.unit_period at ((Equal-is (unit_period_cmp e.0.unit_period at)).0 here)) ∙ is_named)) whole.reallocations

  held_of : (unit : List ℕ) → contains bytes_cmp named.units unit ≡ true
      → filter (λ e. eq_by_cmp bytes_cmp e.0.unit_period.unit unit) held ≡ reallocations_of whole unit
  held_of unit is_named =
      filter_within (λ e. eq_by_cmp bytes_cmp e.0.unit_period.unit unit) (is_named_in named)
      (λ e here. or_right (contains unit_period_cmp named.periods e.0.unit_period) (contains bytes_cmp named.units e.0.unit_period.unit)
      (ap (contains bytes_cmp named.units) (exact_bytes e.0.unit_period.unit unit ((Equal-is (bytes_cmp e.0.unit_period.unit unit)).0 here)) ∙ is_named)) whole.reallocations

  -- with what a row names, these reallocations and the registrations, the part has all that the row is judged by
  agrees_with_held : (part : RegisterView) (leads : Leads) (r : Row) → AgreesOnNames whole (tables_in part) r → IsNamedIn named r → (names_unit r ≡ true → leads ≡ whole.leads)
      → AgreesOn whole (tables_in (holding_leads (with_reallocations held part) leads)) r
  agrees_with_held part leads (row.Party r) names is_named has = names
  agrees_with_held part leads (row.Unit r) (party, unit) is_named has = (party, unit, held_of r.unit is_named, has refl)
  agrees_with_held part leads (row.Meter r) (unit, reading) is_named has = (unit, reading, has refl)
  agrees_with_held part leads (row.Price r) names is_named has = names
  agrees_with_held part leads (row.Contract r) names is_named has = names
  agrees_with_held part leads (row.Reallocation r) (party, unit) is_named has = (party, unit, held_at r.key.unit_period is_named, has refl)

  -- so it serves for the rows
  pub serves_with_held : (lead_minutes : ℕ) (rows : List Row) (part new last : RegisterView) → IsPartOf (whole_of lead_minutes whole) part → All (AgreesOnNames whole (tables_in part)) rows → All (IsNamedIn named) rows
      → new ≡ with_reallocations (put_all reallocation_key_cmp held (tables_in part).reallocations) part → last ≡ holding_leads new (leads_for rows whole.leads (tables_in new).leads)
      → ServesFor rows (whole_of lead_minutes whole) last
  serves_with_held lead_minutes rows part new last is names are_named became holds =
      let rows_are : put_all reallocation_key_cmp held (tables_in part).reallocations ≡ held = ap (put_all reallocation_key_cmp held) is.reallocations ∙ put_held in
      let leads : Leads = leads_for rows whole.leads (tables_in part).leads in
      subst (ServesFor rows (whole_of lead_minutes whole)) (sym (holds ∙ ap (λ r. holding_leads r (leads_for rows whole.leads (tables_in r).leads)) (became ∙ ap (λ es. with_reallocations es part) rows_are))) (record {
        rising = rising;
        part_rising = subst (IsTable reallocation_key_cmp) put_held (put_all_is_table reallocation_key_total held [] refl);
        lead_minutes = is.lead_minutes;
        parties = is.party_count;
        units = is.unit_count;
        agrees = λ k d below. agrees_with_held part leads _ (names k d below) (are_named k d below) (leads_held rows k d below whole.leads (tables_in part).leads);
      })

-- what is named stays named
stays_named : (old new : NamedUnits) → KeepsNames old new → (r : Row) → IsNamedIn old r → IsNamedIn new r
stays_named old new more (row.Party r) h = h
stays_named old new more (row.Unit r) h = more.units r.unit h
stays_named old new more (row.Meter r) h = h
stays_named old new more (row.Price r) h = h
stays_named old new more (row.Contract r) h = h
stays_named old new more (row.Reallocation r) h = more.periods r.key.unit_period h

-- one more row is named
pub named_more : (rows : List Row) (i : ℕ) (r : Row) → i < length rows → r ≡ get_or rows i r → (old new : NamedUnits) → All (IsNamedIn old) (take i rows)
    → KeepsNames old new → IsNamedIn new r → All (IsNamedIn new) (take (i + 1) rows)
named_more rows i r inside is old new so_far more own =
    All-more (IsNamedIn new) rows i r inside (All-weaker (IsNamedIn old) (IsNamedIn new) (stays_named old new more) (take i rows) so_far) (subst (IsNamedIn new) is own)

-- one more reallocation, which is held if its unit and Settlement Period are named
pub held_more : (named : NamedUnits) (es : Table ReallocationKey Reallocation) (i : ℕ) (e : ReallocationKey × Reallocation) → i < length es → e ≡ get_or es i e → (before : Table ReallocationKey Reallocation)
    → put_all reallocation_key_cmp (filter (is_named_in named) (take (i + 1) es)) before
    ≡ cond (is_named_in named e) (put reallocation_key_cmp e.0 e.1 (put_all reallocation_key_cmp (filter (is_named_in named) (take i es)) before)) (put_all reallocation_key_cmp (filter (is_named_in named) (take i es)) before)
held_more named es i e inside is before =
    ap (λ l. put_all reallocation_key_cmp l before) (filter_more (is_named_in named) es i e inside ∙ ap (λ x. filter (is_named_in named) (take i es) ++ cond (is_named_in named x) (x ∷ []) []) (sym is))
    ∙ elim (is_named_in named e) as (λ b. put_all reallocation_key_cmp (filter (is_named_in named) (take i es) ++ cond b (e ∷ []) []) before
    ≡ cond b (put reallocation_key_cmp e.0 e.1 (put_all reallocation_key_cmp (filter (is_named_in named) (take i es)) before)) (put_all reallocation_key_cmp (filter (is_named_in named) (take i es)) before)) [
      | true ↦ put_all-append reallocation_key_cmp (filter (is_named_in named) (take i es)) (e ∷ []) before
      | false ↦ ap (λ l. put_all reallocation_key_cmp l before) (append-nil (filter (is_named_in named) (take i es)))
    ]

-- putting a name into a set leaves the other names in it
pub still_named : {K : Type 0} (R : K → K → Ordering) (old new : BTreeSet K) (key : K) → Updates R old new key true → (at : K) → contains R old at ≡ true → contains R new at ≡ true
still_named R old new key updates at h =
    updates.0 at ∙ elim (is_at (R key) at) as (λ b. cond b true (contains R old at) ≡ true) [ true ↦ refl | false ↦ h ]

-- both agree on one more row
pub names_more : (whole : Registered) (rows : List Row) (i : ℕ) (r : Row) → i < length rows → r ≡ get_or rows i r → (old new : RegisterView) → Grows whole old new
    → All (AgreesOnNames whole (tables_in old)) (take i rows) → AgreesOnNames whole (tables_in new) r → All (AgreesOnNames whole (tables_in new)) (take (i + 1) rows)
names_more whole rows i r inside is old new grows so_far own =
    All-more (AgreesOnNames whole (tables_in new)) rows i r inside
    (All-weaker (AgreesOnNames whole (tables_in old)) (AgreesOnNames whole (tables_in new)) (names_grown whole old new grows) (take i rows) so_far)
    (subst (AgreesOnNames whole (tables_in new)) is own)

module _ (named : NamedUnits) where
  -- the part with the reallocations that are named
  abbrev with_named : Table ReallocationKey Reallocation → RegisterView → RegisterView
  with_named es part = with_reallocations (put_all reallocation_key_cmp (filter (is_named_in named) es) (tables_in part).reallocations) part

  module _ (es lent : Table ReallocationKey Reallocation) (same : lent ≡ es) (i : ℕ) (e : ReallocationKey × Reallocation) (inside : i < length lent) (is : e ≡ get_or lent i e) (first old new : RegisterView) (so_far : old ≡ with_named (take i es) first) where
    one_more : put_all reallocation_key_cmp (filter (is_named_in named) (take (i + 1) es)) (tables_in first).reallocations
        ≡ cond (is_named_in named e) (put reallocation_key_cmp e.0 e.1 (put_all reallocation_key_cmp (filter (is_named_in named) (take i es)) (tables_in first).reallocations))
        (put_all reallocation_key_cmp (filter (is_named_in named) (take i es)) (tables_in first).reallocations)
    one_more = held_more named es i e (subst (λ l. i < length l) same inside) (subst (λ l. e ≡ get_or l i e) same is) (tables_in first).reallocations

    pub holds_more : is_named_in named e ≡ true → new ≡ holding_reallocation old e.0 e.1 → new ≡ with_named (take (i + 1) es) first
    holds_more here became =
        became ∙ ap (λ part. holding_reallocation part e.0 e.1) so_far
        ∙ sym (ap (λ rows. with_reallocations rows first) (one_more ∙ ap (λ b. cond b (put reallocation_key_cmp e.0 e.1 (put_all reallocation_key_cmp (filter (is_named_in named) (take i es)) (tables_in first).reallocations))
        (put_all reallocation_key_cmp (filter (is_named_in named) (take i es)) (tables_in first).reallocations)) here))

    pub skips_more : is_named_in named e ≡ false → new ≡ old → new ≡ with_named (take (i + 1) es) first
    skips_more elsewhere became =
        became ∙ so_far
        ∙ sym (ap (λ rows. with_reallocations rows first) (one_more ∙ ap (λ b. cond b (put reallocation_key_cmp e.0 e.1 (put_all reallocation_key_cmp (filter (is_named_in named) (take i es)) (tables_in first).reallocations))
        (put_all reallocation_key_cmp (filter (is_named_in named) (take i es)) (tables_in first).reallocations)) elsewhere))
