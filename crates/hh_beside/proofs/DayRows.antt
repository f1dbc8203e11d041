-- A Settlement Period that no row in time touches, on a date that no succession holds, keeps its price, and would be settled from the
-- same as before with the same accounts.
use Rattle.std.proofs.Common.{◌≡◌, ℕ, ◌+◌, List, [], ◌∷◌, ◌++◌, map, refl, sym, ap, subst, ◌∙◌, Bool, true, false, cond, Option, Some, None, Ordering, append_assoc}
use Rattle.std.specs.Prelude.{ℤ, ◌&&◌, filter, filter_map, is_some, option_map, unwrap_or, T}
use Rattle.std.specs.Cmp.{IsTotalOrder, eq_by_cmp_equiv}
use Rattle.std.specs.FinMap.{find, put, is_sorted}
use Rattle.std.specs.FinMap.Entries.{by_order, find-put}
use Rattle.std.specs.List.{AllByRecursion, cons_option}
use Rattle.std.specs.Ordering.{eq_by_cmp, is_eq}
use Rattle.std.specs.declared.cmp.Ordering.TheVariants.{Less, Equal, Greater}
use Rattle.std.proofs.lemmas.Bool.{or_parts}
use Rattle.std.proofs.lemmas.List.{append-nil}
use Rattle.std.proofs.lemmas.Option.{same_Some}
use Rattle.hh_tables.specs.Tables.{Table}
use Rattle.hh_tables.proofs.MergeLaws.{from_true}
use Rattle.hh_tables.proofs.RowLaws.{below_less, first, second}
use Rattle.hh_tables.proofs.TableLaws.{false_is_not_true}
use Rattle.hh_names.specs.declared.account.Account.{Account}
use Rattle.hh_names.specs.declared.values.Reading.{Reading}
use Rattle.hh_names.specs.Accounts.{bytes_cmp}
use Rattle.hh_names.proofs.AccountLaws.{bytes_total}
use Rattle.std.proofs.lemmas.Map.Lookups.{exact_bytes}
use Rattle.hh_rows.specs.DateRanges.{Range, holds}
use Rattle.hh_rows.specs.Keys.{contract_key_cmp, settlement_period_cmp, unit_period_cmp}
use Rattle.hh_rows.specs.RowKinds.{IsRow}
use Rattle.hh_rows.specs.declared.keys.ContractKey.{ContractKey}
use Rattle.hh_rows.specs.declared.keys.ReallocationKey.{ReallocationKey}
use Rattle.hh_rows.specs.declared.keys.UnitPeriod.{UnitPeriod}
use Rattle.hh_rows.specs.declared.rows.ContractRow.{ContractRow}
use Rattle.hh_rows.specs.declared.rows.MeterRow.{MeterRow}
use Rattle.hh_rows.specs.declared.rows.PriceRow.{PriceRow}
use Rattle.hh_rows.specs.declared.rows.ReallocationRow.{ReallocationRow}
use Rattle.hh_rows.specs.declared.rows.Row.{Row}
use Rattle.hh_rows.specs.declared.rows.Row.TheVariants as row
use Rattle.hh_rows.specs.declared.rows.UnitRegistration.{UnitRegistration}
use Rattle.hh_rows.specs.declared.rows.UnitRow.{UnitRow}
use Rattle.hh_rows.specs.declared.settlement_period.SettlementPeriod.{SettlementPeriod}
use Rattle.hh_rows.proofs.KeyLaws.{exact_contract_keys, exact_reallocation_keys, contract_key_total, reallocation_key_total, settlement_period_total, unit_period_total}
use Rattle.hh_registrations.specs.Registrations.{Leads, RegistrationsView, is_succession, last_registration, leads_with_row, registered_lead_on, succession_dates, succession_range, succession_ranges, widened}
use Rattle.hh_rules.specs.Effects.{put_in_time, with_row}
use Rattle.hh_rules.specs.FileRows.{first_fault, refusal_after, timely_rows}
use Rattle.hh_rules.specs.History.{History, Registered, registered_in}
use Rattle.hh_rules.specs.Lateness.{Accepted, Timetable, accepted_at, is_before_deadline, is_in_time}
use Rattle.hh_rules.specs.Leads.{lead_on, registered_units}
use Rattle.hh_rules.specs.Refusals.{is_some_that}
use Rattle.hh_rules.specs.RegisterView.{reallocations_at}
use Rattle.hh_rules.proofs.HistoryLaws.{looks_back}
use Rattle.hh_calc.specs.declared.data.Subsidiary.{Subsidiary}
use Rattle.hh_calc.specs.Terms.{UnitDataView, unit_data}
use Rattle.hh_states.specs.PeriodSettlement.{price_of, reading_of, row_in_force, rows_in_force, subsidiaries_of, unit_at, unit_with, units_on}
use Rattle.hh_states.specs.Soundness.{AreConsistent, IsUnitEffective}
use Rattle.hh_successions.specs.RegistrationHistory.{is_succession_on, registrations_in}
use Rattle.hh_successions.proofs.LookBackLaws.{row_by_row}
use Rattle.hh_successions.proofs.MarkLaws.{marks_stay}
use Rattle.hh_successions.proofs.SuccessionLaws.{successions_alone_move_leads}
use Rattle.hh_state_laws.proofs.AcceptedLaws.{told}
use Rattle.hh_state_laws.proofs.ApartLaws.{all-filter, all-weaken, below_lacks, not_found, second_part, sorted_distinct}
use Rattle.hh_state_laws.proofs.ConsistentLaws.{Stands, row_widens, stands_consistent, stands_with}
use Rattle.hh_state_laws.proofs.EffectiveLaws.{wider_holds}
use Rattle.hh_state_laws.proofs.PutLaws.{stays-put_new}
use Rattle.hh_state_laws.proofs.ReadyLaws.{each_found}
use Rattle.hh_states.specs.Beside.{is_among, terms_for}
use Rattle.hh_beside.specs.Keeping.{is_held, touched_by}

-- ---- tables after a row is put

-- the value made of what is found under a key, if anything is found
abbrev made : {K V B : Type 0} → K → (K × V → Option B) → Option V → Option B
made k g None = None
made k g (Some u) = g (k, u)

module _ {K V : Type 0} {R : K → K → Ordering} (o : IsTotalOrder R) where
  -- the key of each entry is found
  each_there : (es : List (K × V)) → AllByRecursion (λ e. is_some (find R e.0 es) ≡ true) es
  each_there [] = tt
  each_there (e ∷ es) = (
    ap (λ b. is_some (cond b (Some e.1) (find R e.0 es))) ((eq_by_cmp_equiv o).refl e.0),
    all-weaken (λ f. is_some (find R f.0 es) ≡ true) (λ f. is_some (find R f.0 (e ∷ es)) ≡ true) (λ f. or_first (eq_by_cmp R f.0 e.0) e.1 (find R f.0 es)) es (each_there es),
  )
    where
      or_first : (b : Bool) (v : V) (found : Option V) → is_some found ≡ true → is_some (cond b (Some v) found) ≡ true
      or_first true v found there = refl
      or_first false v found there = there

  module _ (exact : (x y : K) → R x y ≡ Equal → x ≡ y) (k : K) (v : V) where
    -- putting a row whose key doesn't pass changes nothing in the entries whose keys pass
    pub passing-put : (passes : K → Bool) → passes k ≡ false → (es : List (K × V)) → filter (λ e. passes e.0) (put R k v es) ≡ filter (λ e. passes e.0) es
    passing-put passes off [] = ap (λ b. cond b ((k, v) ∷ []) []) off
    passing-put passes off (e ∷ es) =
        let later : List (K × V) = filter (λ f. passes f.0) es in
        elim (R k e.0) as (λ r. R k e.0 ≡ r → filter (λ f. passes f.0) (by_order r ((k, v) ∷ e ∷ es) ((e.0, v) ∷ es) (e ∷ put R k v es)) ≡ filter (λ f. passes f.0) (e ∷ es)) [
          | Less ↦ λ is. ap (λ b. cond b ((k, v) ∷ filter (λ f. passes f.0) (e ∷ es)) (filter (λ f. passes f.0) (e ∷ es))) off
          | Equal ↦ λ is.
              let own : passes e.0 ≡ false = ap passes (sym (exact k e.0 is)) ∙ off in
              ap (λ b. cond b ((e.0, v) ∷ later) later) own ∙ sym (ap (λ b. cond b (e ∷ later) later) own)
          | Greater ↦ λ is. ap (λ more. cond (passes e.0) (e ∷ more) more) (passing-put passes off es)
        ] refl

    -- if the same is made of a row as of its key's row before, putting it changes nothing in what is made of all rows
    made-put : {B : Type 0} (g : K × V → Option B) (es : List (K × V)) → T (is_sorted R es) → g (k, v) ≡ made k g (find R k es) → filter_map g (put R k v es) ≡ filter_map g es
    made-put g [] up same = ap (λ b. cons_option b []) same
    made-put g (e ∷ es) up same =
        elim (R k e.0) as (λ r. R k e.0 ≡ r → g (k, v) ≡ made k g (cond (is_eq r) (Some e.1) (find R k es))
        → filter_map g (by_order r ((k, v) ∷ e ∷ es) ((e.0, v) ∷ es) (e ∷ put R k v es)) ≡ filter_map g (e ∷ es)) [
          | Less ↦ λ is as_before.
              let none : find R k es ≡ None = not_found R k es (below_lacks R k es (below_less o k e.0 es is (first _ _ up))) in
              ap (λ b. cons_option b (filter_map g (e ∷ es))) (as_before ∙ ap (made k g) none)
          | Equal ↦ λ is as_before. ap (λ b. cons_option b (filter_map g es)) (subst (λ x. g (x, v) ≡ g (x, e.1)) (exact k e.0 is) as_before)
          | Greater ↦ λ is as_before. ap (cons_option (g e)) (made-put g es (second _ _ up) as_before)
        ] refl same

module _ {X Y : Type 0} where
  -- mapping the elements that pass
  made_of_passing : (f : X → Option Y) (test : X → Bool) (xs : List X) → filter_map f (filter test xs) ≡ filter_map (λ x. cond (test x) (f x) None) xs
  made_of_passing f test [] = refl
  made_of_passing f test (x ∷ xs) =
      elim (test x) as (λ b. filter_map f (cond b (x ∷ filter test xs) (filter test xs)) ≡ cons_option (cond b (f x) None) (filter_map (λ y. cond (test y) (f y) None) xs)) [
        | true ↦ ap (cons_option (f x)) (made_of_passing f test xs)
        | false ↦ made_of_passing f test xs
      ]

  -- if two maps give the same for each element, they give the same list
  made_the_same : (f g : X → Option Y) (xs : List X) → AllByRecursion (λ x. f x ≡ g x) xs → filter_map f xs ≡ filter_map g xs
  made_the_same f g [] same = refl
  made_the_same f g (x ∷ xs) same = λ i. cons_option (same.0 i) (made_the_same f g xs same.1 i)

-- None is None, whether a test passes or not
nothing_if : {B : Type 0} (nothing : Option B) (b : Bool) → cond b nothing nothing ≡ nothing
nothing_if nothing true = refl
nothing_if nothing false = refl

-- ---- a Settlement Period that stays

-- two Registered have the same for a Settlement Period: its price, and what it is settled from except the accounts
pub record IsPeriodSame (at : SettlementPeriod) (old new : Registered) : Type 0 where
  pub price : price_of new at ≡ price_of old at
  pub units : filter_map (unit_at new at) (units_on new at.date) ≡ filter_map (unit_at old at) (units_on old at.date)
  pub contracts : rows_in_force new at ≡ rows_in_force old at

-- so with the same accounts it would be settled from the same
pub same_terms : (at : SettlementPeriod) (old new : Registered) → IsPeriodSame at old new → (accounts : List Account) → terms_for accounts new at ≡ terms_for accounts old at
same_terms at old new same accounts = rw same.price (rw same.units (rw same.contracts refl))

-- the Settlement Period that a row touches, if it touches one, is not this one
abbrev pub Misses : SettlementPeriod → Option SettlementPeriod → Type 0
Misses at None = Unit {0}
Misses at (Some p) = eq_by_cmp settlement_period_cmp p at ≡ false

-- an accepted row leaves a Settlement Period that it doesn't touch as it is
module _ (tables : Registered) (consistent : AreConsistent tables) (at : SettlementPeriod) where
  -- the case that nothing changes
  same : IsPeriodSame at tables tables
  same = record { price = refl; units = refl; contracts = refl }

  -- two Settlement Periods that differ differ in either order
  turned : (p : SettlementPeriod) → eq_by_cmp settlement_period_cmp p at ≡ false → eq_by_cmp settlement_period_cmp at p ≡ false
  turned p apart = (eq_by_cmp_equiv settlement_period_total).symm at p ∙ apart

  -- a reading's row of another Settlement Period
  with_meter : (r : MeterRow) → eq_by_cmp settlement_period_cmp r.key.at at ≡ false → IsPeriodSame at tables (with_row true (row.Meter r) tables)
  with_meter r apart = record {
    price = refl;
    units = λ i. filter_map (λ e. option_map (unit_with tables at e) (reading_stays e.0 i)) (units_on tables at.date);
    contracts = refl;
  }
    where
      reading_stays : (unit : List ℕ) → find unit_period_cmp (record { unit = unit; at = at }) (put unit_period_cmp r.key r.reading tables.meters) ≡ reading_of tables (record { unit = unit; at = at })
      reading_stays unit =
          let key : UnitPeriod = record { unit = unit; at = at } in
          find-put unit_period_cmp unit_period_total key r.key r.reading tables.meters
          ∙ ap (λ b. cond b (Some r.reading) (find unit_period_cmp key tables.meters)) (second_part (bytes_cmp unit r.key.unit) (settlement_period_cmp at r.key.at) (turned r.key.at apart))

  -- a price's row of another Settlement Period
  with_price : (r : PriceRow) → eq_by_cmp settlement_period_cmp r.at at ≡ false → IsPeriodSame at tables (with_row true (row.Price r) tables)
  with_price r apart = record {
    price = find-put settlement_period_cmp settlement_period_total at r.at r.price tables.prices
        ∙ ap (λ b. cond b (Some r.price) (find settlement_period_cmp at tables.prices)) (turned r.at apart);
    units = refl;
    contracts = refl;
  }

  -- a contract's row that is late or of another Settlement Period: the references of contracts in force stay fixed
  module _ (in_time : Bool) (r : ContractRow) where
    abbrev new : Registered
    new = with_row in_time (row.Contract r) tables

    abbrev of_period : Table ContractKey ℤ → Table ContractKey ℤ
    of_period = filter (λ e. eq_by_cmp settlement_period_cmp e.0.at at)

    volumes_stay : (timely : Bool) → (timely ≡ true → eq_by_cmp settlement_period_cmp r.key.at at ≡ false)
        → of_period (put_in_time contract_key_cmp timely (Some (r.key, r.contract.volume)) tables.contracts) ≡ of_period tables.contracts
    volumes_stay true misses =
        passing-put contract_key_total exact_contract_keys r.key r.contract.volume (λ (k : ContractKey). eq_by_cmp settlement_period_cmp k.at at) (misses refl) tables.contracts
    volumes_stay false misses = refl

    reference_stays : (e : ContractKey × ℤ) → is_some (find contract_key_cmp e.0 tables.contracts) ≡ true → row_in_force new e ≡ row_in_force tables e
    reference_stays e there =
        let has = consistent.contracts e.0 there in
        ap (option_map (λ c. record { key = e.0; contract = record { counterparties = c; volume = e.1 } }))
        (stays-put_new bytes_total r.key.reference r.contract.counterparties tables.references e.0.reference has.counterparties has.fixed ∙ sym has.fixed)

    with_contract : (in_time ≡ true → eq_by_cmp settlement_period_cmp r.key.at at ≡ false) → IsPeriodSame at tables new
    with_contract apart = record {
      price = refl;
      units = refl;
      contracts = ap (filter_map (row_in_force new)) (volumes_stay in_time apart)
          ∙ made_the_same (row_in_force new) (row_in_force tables) (of_period tables.contracts)
          (all-weaken (λ e. is_some (find contract_key_cmp e.0 tables.contracts) ≡ true) (λ e. row_in_force new e ≡ row_in_force tables e) reference_stays (of_period tables.contracts)
          (all-filter (λ e. is_some (find contract_key_cmp e.0 tables.contracts) ≡ true) (λ e. eq_by_cmp settlement_period_cmp e.0.at at) tables.contracts (each_there contract_key_total tables.contracts)));
    }

  -- a reallocation's row that is late or of another Settlement Period
  with_reallocation : (in_time : Bool) (r : ReallocationRow) → (in_time ≡ true → eq_by_cmp settlement_period_cmp r.key.unit_period.at at ≡ false) → IsPeriodSame at tables (with_row in_time (row.Reallocation r) tables)
  with_reallocation false r apart = record { price = refl; units = refl; contracts = refl }
  with_reallocation true r apart = record {
    price = refl;
    units = λ i.
        filter_map (λ e. option_map (λ reading. unit_data e.0 (lead_on tables e.0 e.1 at.date) e.1.interconnector reading (map {B = Subsidiary} (λ f. record { account = f.0.account; reallocation = f.1 }) (reallocations_stay e.0 i)))
        (reading_of tables (record { unit = e.0; at = at }))) (units_on tables at.date);
    contracts = refl;
  }
    where
      reallocations_stay : (unit : List ℕ) → reallocations_at (with_row true (row.Reallocation r) tables) (record { unit = unit; at = at }) ≡ reallocations_at tables (record { unit = unit; at = at })
      reallocations_stay unit =
          let key : UnitPeriod = record { unit = unit; at = at } in
          passing-put reallocation_key_total exact_reallocation_keys r.key r.reallocation (λ (k : ReallocationKey). eq_by_cmp unit_period_cmp k.unit_period key)
          (second_part (bytes_cmp r.key.unit_period.unit unit) (settlement_period_cmp r.key.unit_period.at at) (apart refl)) tables.reallocations

-- a unit's row that is no succession on the date: a unit with a reading is led on the date, and its lead account and mark stay
module _ (at : SettlementPeriod) (timetable : Timetable) (history : History) (stands : Stands timetable history) (moment : ℤ) (r : UnitRow)
    (accepted : refusal_after timetable history (accepted_at moment (row.Unit r)) ≡ None)
    (none : (unit : List ℕ) → is_succession_on (registrations_in history) (row.Unit r) unit at.date ≡ false) where
  abbrev before_row : Registered
  before_row = registered_in timetable history

  abbrev after_row : Registered
  after_row = with_row true (row.Unit r) before_row

  -- what is registered of the unit then
  abbrev own : UnitRegistration
  own = widened (find bytes_cmp r.unit before_row.units) r.registration

  fits : AreConsistent before_row
  fits = stands_consistent timetable history stands

  -- one row more is what the row makes of what was registered
  one_row : registrations_in (history ++ accepted_at moment (row.Unit r) ∷ []) ≡ registered_units after_row
  one_row = row_by_row history (accepted_at moment (row.Unit r))

  lead_stays : (unit : List ℕ) → is_some (registered_lead_on (registered_units before_row) unit at.date) ≡ true
      → registered_lead_on (registered_units after_row) unit at.date ≡ registered_lead_on (registered_units before_row) unit at.date
  lead_stays unit led =
      ap (λ (x : RegistrationsView). registered_lead_on x unit at.date) (sym one_row)
      ∙ successions_alone_move_leads timetable history (accepted_at moment (row.Unit r)) stands.accepted accepted unit at.date (none unit) led

  -- the lead account of a unit of the date, by any of its registrations
  same_lead : (unit : List ℕ) (u v : UnitRegistration) → IsUnitEffective before_row unit at.date → lead_on after_row unit v at.date ≡ lead_on before_row unit u at.date
  same_lead unit u v effective =
      let led = fits.leads unit at.date effective in
      ap (λ o. unwrap_or o v.lead) (lead_stays unit (ap is_some led.leads) ∙ led.leads) ∙ sym (ap (λ o. unwrap_or o u.lead) led.leads)

  same_mark : (u : UnitRegistration) → find bytes_cmp r.unit before_row.units ≡ Some u → own.interconnector ≡ u.interconnector
  same_mark u found = same_Some own.interconnector u.interconnector
      (sym (ap (option_map (λ (x : UnitRegistration). x.interconnector))
      (find-put bytes_cmp bytes_total r.unit r.unit own before_row.units ∙ ap (λ b. cond b (Some own) (find bytes_cmp r.unit before_row.units)) ((eq_by_cmp_equiv bytes_total).refl r.unit)))
      ∙ ap (λ (x : RegistrationsView). option_map (λ u. u.interconnector) (find bytes_cmp r.unit x.units)) (sym one_row)
      ∙ marks_stay timetable history (accepted_at moment (row.Unit r)) stands.accepted accepted r.unit u found)

  -- what any unit is settled from, if its range has the date
  abbrev of_date : Registered → List ℕ × UnitRegistration → Option UnitDataView
  of_date tables e = cond (holds e.1.range at.date) (unit_at tables at e) None

  -- the same as before, for each unit that was there
  each_as_before : AllByRecursion (λ e. of_date after_row e ≡ of_date before_row e) before_row.units
  each_as_before =
      all-weaken (λ e. find bytes_cmp e.0 before_row.units ≡ Some e.1) (λ e. of_date after_row e ≡ of_date before_row e) as_before before_row.units
      (each_found bytes_total before_row.units (sorted_distinct bytes_cmp before_row.units (from_true _ fits.rising.units)))
    where
      as_before : (e : List ℕ × UnitRegistration) → find bytes_cmp e.0 before_row.units ≡ Some e.1 → of_date after_row e ≡ of_date before_row e
      as_before e found =
          let key : UnitPeriod = record { unit = e.0; at = at } in
          elim (holds e.1.range at.date) as (λ b. holds e.1.range at.date ≡ b → cond b (unit_at after_row at e) None ≡ cond b (unit_at before_row at e) None) [
            | true ↦ λ held i. option_map (λ reading. unit_data e.0 (same_lead e.0 e.1 e.1 (record { registration = e.1; registered = found; holding = held }) i) e.1.interconnector reading (subsidiaries_of before_row key))
                (reading_of before_row key)
            | false ↦ λ off. refl
          ] refl

  -- nothing is made of a unit without a reading
  nothing_made : (o : Option UnitRegistration) → reading_of before_row (record { unit = r.unit; at = at }) ≡ None → made r.unit (of_date after_row) o ≡ None
  nothing_made None is = refl
  nothing_made (Some u) is = ap (λ o. cond (holds u.range at.date) (option_map (unit_with after_row at (r.unit, u)) o) None) is ∙ nothing_if None (holds u.range at.date)

  -- the row's own unit: only an effective unit can have a reading
  own_as_before : of_date after_row (r.unit, own) ≡ made r.unit (of_date after_row) (find bytes_cmp r.unit before_row.units)
  own_as_before = by_reading (reading_of before_row (record { unit = r.unit; at = at })) refl
    where
      by_reading : (o : Option Reading) → reading_of before_row (record { unit = r.unit; at = at }) ≡ o → of_date after_row (r.unit, own) ≡ made r.unit (of_date after_row) (find bytes_cmp r.unit before_row.units)
      by_reading None is = nothing_made (Some own) is ∙ sym (nothing_made (find bytes_cmp r.unit before_row.units) is)
      by_reading (Some reading) is =
          let key : UnitPeriod = record { unit = r.unit; at = at } in
          let effective = fits.meters key (ap is_some is) in
          let u : UnitRegistration = effective.registration in
          let held : holds own.range at.date ≡ true = wider_holds u.range own.range at.date (row_widens before_row r accepted u effective.registered) effective.holding in
          let lead : lead_on after_row r.unit own at.date ≡ lead_on after_row r.unit u at.date = same_lead r.unit u own effective ∙ sym (same_lead r.unit u u effective) in
          ap (λ b. cond b (unit_at after_row at (r.unit, own)) None) held
          ∙ (λ i. option_map (λ reading. unit_data r.unit (lead i) (same_mark u effective.registered i) reading (subsidiaries_of before_row key)) (reading_of before_row key))
          ∙ sym (ap (λ b. cond b (unit_at after_row at (r.unit, u)) None) effective.holding)
          ∙ sym (ap (made r.unit (of_date after_row)) effective.registered)

  with_unit : IsPeriodSame at before_row after_row
  with_unit = record {
    price = refl;
    units = made_of_passing (unit_at after_row at) (λ e. holds e.1.range at.date) after_row.units
        ∙ made-put bytes_total exact_bytes r.unit own (of_date after_row) before_row.units (from_true _ fits.rising.units) own_as_before
        ∙ made_the_same (of_date after_row) (of_date before_row) before_row.units each_as_before
        ∙ sym (made_of_passing (unit_at before_row at) (λ e. holds e.1.range at.date) before_row.units);
    contracts = refl;
  }

-- the row is no succession that holds the date
abbrev pub IsOff : ℕ → Row → Leads → Type 0
IsOff date r leads = is_some_that (λ range. holds range date) (succession_range r leads) ≡ false

-- so it is a succession on the date of no unit
no_succession : (r : UnitRow) (registered : RegistrationsView) (date : ℕ) → IsOff date (row.Unit r) registered.leads → (unit : List ℕ) → is_succession_on registered (row.Unit r) unit date ≡ false
no_succession r registered date off unit =
    elim (last_registration registered.leads r.unit) as (λ o. is_some_that (λ (range : Range). holds range date) (succession_dates r.registration o) ≡ false
    → ((eq_by_cmp bytes_cmp unit r.unit && holds r.registration.range date) && is_some_that (λ last. is_succession last r.registration) o) ≡ false) [
      | None ↦ λ not_held. and_nothing (eq_by_cmp bytes_cmp unit r.unit && holds r.registration.range date)
      | Some last ↦ by_kind (is_succession last r.registration)
    ] off
  where
    and_nothing : (b : Bool) → (b && false) ≡ false
    and_nothing true = refl
    and_nothing false = refl

    by_kind : (b : Bool) → is_some_that (λ (range : Range). holds range date) (cond b (Some r.registration.range) None) ≡ false
        → ((eq_by_cmp bytes_cmp unit r.unit && holds r.registration.range date) && b) ≡ false
    by_kind true not_held = ap (λ h. (eq_by_cmp bytes_cmp unit r.unit && h) && true) not_held ∙ ap (λ b. b && true) (and_nothing (eq_by_cmp bytes_cmp unit r.unit))
    by_kind false not_held = and_nothing (eq_by_cmp bytes_cmp unit r.unit && holds r.registration.range date)

-- an accepted row of any kind leaves a period as it is if no row in time touches it, and it is no succession on the period's date
row_stays : (at : SettlementPeriod) (timetable : Timetable) (history : History) (stands : Stands timetable history) (moment : ℤ) (r : Row)
    → refusal_after timetable history (accepted_at moment r) ≡ None
    → (is_in_time timetable (accepted_at moment r) ≡ true → Misses at (touched_by r)) → IsOff at.date r (registered_in timetable history).leads
    → IsPeriodSame at (registered_in timetable history) (with_row (is_in_time timetable (accepted_at moment r)) r (registered_in timetable history))
row_stays at timetable history stands moment (row.Party r) accepted misses off = record { price = refl; units = refl; contracts = refl }
row_stays at timetable history stands moment (row.Unit r) accepted misses off =
    with_unit at timetable history stands moment r accepted (no_succession r (registrations_in history) at.date off)
row_stays at timetable history stands moment (row.Meter r) accepted misses off = with_meter (registered_in timetable history) (stands_consistent timetable history stands) at r (misses refl)
row_stays at timetable history stands moment (row.Price r) accepted misses off = with_price (registered_in timetable history) (stands_consistent timetable history stands) at r (misses refl)
row_stays at timetable history stands moment (row.Contract r) accepted misses off =
    with_contract (registered_in timetable history) (stands_consistent timetable history stands) at (is_before_deadline timetable moment r.key.at) r misses
row_stays at timetable history stands moment (row.Reallocation r) accepted misses off =
    with_reallocation (registered_in timetable history) (stands_consistent timetable history stands) at (is_before_deadline timetable moment r.key.unit_period.at) r misses

-- a period that stays the same twice stays the same
stays_twice : (at : SettlementPeriod) (a b c : Registered) → IsPeriodSame at a b → IsPeriodSame at b c → IsPeriodSame at a c
stays_twice at a b c here there = record { price = there.price ∙ here.price; units = there.units ∙ here.units; contracts = there.contracts ∙ here.contracts }

-- a period that is not among some and one more is not that one, and not among the some
not_among : (at : SettlementPeriod) (o : Option SettlementPeriod) (ps : List SettlementPeriod) → is_among (cons_option o ps) at ≡ false → Misses at o × (is_among ps at ≡ false)
not_among at None ps none = (tt, none)
not_among at (Some p) ps none = or_parts (eq_by_cmp settlement_period_cmp p at) (is_among ps at) none

-- if the rows in time don't touch a period, the first row doesn't, and the rest don't
misses_each : (at : SettlementPeriod) (timetable : Timetable) (a : Accepted) (rows : History) → is_among (filter_map touched_by (timely_rows timetable (a ∷ rows))) at ≡ false
    → (is_in_time timetable a ≡ true → Misses at (touched_by a.row)) × (is_among (filter_map touched_by (timely_rows timetable rows)) at ≡ false)
misses_each at timetable a rows none =
    let later : History = filter (is_in_time timetable) rows in
    elim (is_in_time timetable a) as (λ t. is_in_time timetable a ≡ t → is_among (filter_map touched_by (map (λ (b : Accepted). b.row) (cond t (a ∷ later) later))) at ≡ false
    → (is_in_time timetable a ≡ true → Misses at (touched_by a.row)) × (is_among (filter_map touched_by (timely_rows timetable rows)) at ≡ false)) [
      | true ↦ λ timely untouched. let parts = not_among at (touched_by a.row) (filter_map touched_by (timely_rows timetable rows)) untouched in (λ _. parts.0, parts.1)
      | false ↦ λ late untouched. (λ timely. absurd (false_is_not_true (sym late ∙ timely)), untouched)
    ] refl none

-- a late row changes no registrations, and is no succession
late_leaves : (timetable : Timetable) (moment : ℤ) (r : Row) (leads : Leads) → is_in_time timetable (accepted_at moment r) ≡ false
    → (leads_with_row r leads ≡ leads) × (succession_range r leads ≡ None)
late_leaves timetable moment (row.Unit r) leads late = absurd (false_is_not_true (sym late))
late_leaves timetable moment (row.Party r) leads late = (refl, refl)
late_leaves timetable moment (row.Meter r) leads late = (refl, refl)
late_leaves timetable moment (row.Price r) leads late = (refl, refl)
late_leaves timetable moment (row.Contract r) leads late = (refl, refl)
late_leaves timetable moment (row.Reallocation r) leads late = (refl, refl)

-- if the date is in no range, it is not in the first, and not in the rest
not_held : (date : ℕ) (o : Option Range) (ranges : List Range) → is_held (cons_option o ranges) date ≡ false → (is_some_that (λ range. holds range date) o ≡ false) × (is_held ranges date ≡ false)
not_held date None ranges off = (refl, off)
not_held date (Some range) ranges off = or_parts (holds range date) (is_held ranges date) off

-- if no succession in time holds the date, the first row is none, and none of the rest is
off_each : (date : ℕ) (timetable : Timetable) (a : Accepted) (rows : History) (leads : Leads) → is_held (succession_ranges (timely_rows timetable (a ∷ rows)) leads) date ≡ false
    → IsOff date a.row leads × (is_held (succession_ranges (timely_rows timetable rows) (leads_with_row a.row leads)) date ≡ false)
off_each date timetable a rows leads off =
    let later : History = filter (is_in_time timetable) rows in
    elim (is_in_time timetable a) as (λ t. is_in_time timetable a ≡ t → is_held (succession_ranges (map (λ (b : Accepted). b.row) (cond t (a ∷ later) later)) leads) date ≡ false
    → IsOff date a.row leads × (is_held (succession_ranges (timely_rows timetable rows) (leads_with_row a.row leads)) date ≡ false)) [
      | true ↦ λ timely all_off. not_held date (succession_range a.row leads) (succession_ranges (timely_rows timetable rows) (leads_with_row a.row leads)) all_off
      | false ↦ λ late all_off.
          let left = late_leaves timetable a.moment a.row leads late in
          (ap (is_some_that (λ (range : Range). holds range date)) left.1, ap (λ ls. is_held (succession_ranges (timely_rows timetable rows) ls) date) left.0 ∙ all_off)
    ] refl off

-- rows that are all accepted leave a period as it is if those of them in time don't touch it, and no succession holds its date
pub rows_stay : (at : SettlementPeriod) (timetable : Timetable) (rows history : History) (n : ℕ) → AllByRecursion (λ a. IsRow a.row) rows → first_fault timetable history n rows ≡ None
    → Stands timetable history → is_among (filter_map touched_by (timely_rows timetable rows)) at ≡ false
    → is_held (succession_ranges (timely_rows timetable rows) (registered_in timetable history).leads) at.date ≡ false
    → IsPeriodSame at (registered_in timetable history) (registered_in timetable (history ++ rows))
rows_stay at timetable [] history n valued none stands untouched off =
    subst (λ h. IsPeriodSame at (registered_in timetable history) (registered_in timetable h)) (sym (append-nil history)) (record { price = refl; units = refl; contracts = refl })
rows_stay at timetable (a ∷ rows) history n valued none stands untouched off =
    let old : Registered = registered_in timetable history in
    let misses = misses_each at timetable a rows untouched in
    let offs = off_each at.date timetable a rows old.leads off in
    elim (refusal_after timetable history a) as (λ o. refusal_after timetable history a ≡ o → told n o (first_fault timetable (history ++ a ∷ []) (n + 1) rows) ≡ None
    → IsPeriodSame at old (registered_in timetable (history ++ a ∷ rows))) [
      | Some why ↦ λ is refused. cc
      | None ↦ λ is later.
          let here : IsPeriodSame at old (registered_in timetable (history ++ a ∷ [])) =
          subst (IsPeriodSame at old) (sym (looks_back timetable history a)) (row_stays at timetable history stands a.moment a.row is misses.0 offs.0) in
          let there : IsPeriodSame at (registered_in timetable (history ++ a ∷ [])) (registered_in timetable ((history ++ a ∷ []) ++ rows)) =
          rows_stay at timetable rows (history ++ a ∷ []) (n + 1) valued.1 later (stands_with timetable history a stands valued.0 is) misses.1
          (ap (λ (tables : Registered). is_held (succession_ranges (timely_rows timetable rows) tables.leads) at.date) (looks_back timetable history a) ∙ offs.1) in
          subst (λ h. IsPeriodSame at old (registered_in timetable h)) (append_assoc history (a ∷ []) rows)
          (stays_twice at old (registered_in timetable (history ++ a ∷ [])) (registered_in timetable ((history ++ a ∷ []) ++ rows)) here there)
    ] refl none
