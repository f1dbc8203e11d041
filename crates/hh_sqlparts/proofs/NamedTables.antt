-- Tables of rows that are read by names from a whole table. Under the keys of the rows of a file, from which the names come, they have what
-- the whole has.
use Rattle.std.proofs.Common.{◌≡◌, ℕ, List, [], true, cond, refl, sym, ap, subst, ◌∙◌, Option, Some, None, Ordering}
use Rattle.std.specs.Prelude.{ℤ, filter, option_map, T}
use Rattle.std.specs.BTreeMap.{is_at}
use Rattle.std.specs.Cmp.{IsTotalOrder, Equal-is}
use Rattle.std.specs.FinMap.{find, is_sorted}
use Rattle.std.specs.List.{All, flat_map, list_any}
use Rattle.std.specs.Option.{IfSome}
use Rattle.std.specs.Ordering.{eq_by_cmp, is_eq, nat_cmp, on, then_cmp}
use Rattle.std.proofs.lemmas.List.Elements.{All-weaker}
use Rattle.std.proofs.lemmas.Map.Lookups.{exact_bytes}
use Rattle.hh_tables.specs.Tables.{IsTable, Table, put_all}
use Rattle.hh_tables.proofs.MergeLaws.{from_true, put_all_is_table}
use Rattle.hh_names.specs.Accounts.{bytes_cmp}
use Rattle.hh_names.specs.declared.values.Counterparties.{Counterparties}
use Rattle.hh_names.specs.declared.values.Reading.{Reading}
use Rattle.hh_names.specs.declared.values.Reallocation.{Reallocation}
use Rattle.hh_names.proofs.AccountLaws.{bytes_total}
use Rattle.hh_rows.specs.declared.keys.ContractKey.{ContractKey}
use Rattle.hh_rows.specs.declared.keys.ReallocationKey.{ReallocationKey}
use Rattle.hh_rows.specs.declared.keys.UnitPeriod.{UnitPeriod}
use Rattle.hh_rows.specs.declared.settlement_period.SettlementPeriod.{SettlementPeriod}
use Rattle.hh_rows.specs.declared.rows.Row.{Row}
use Rattle.hh_rows.specs.Keys.{contract_key_cmp, reallocation_key_cmp, settlement_period_cmp, unit_period_cmp}
use Rattle.hh_rows.proofs.KeyLaws.{contract_key_total, exact_reallocation_keys, exact_settlement_periods, exact_unit_periods, reallocation_key_total, settlement_period_total, unit_period_total}
use Rattle.hh_rules.specs.Positions.{position_key_cmp}
use Rattle.hh_rules.specs.declared.positions.Position.{Position}
use Rattle.hh_rules.specs.declared.positions.PositionKey.{PositionKey}
use Rattle.hh_kept_rows.proofs.PositionKeys.{position_key_total}
use Rattle.hh_sqlrows.specs.OfficeTables.{is_of_unit_on}
use Rattle.hh_sqlrows.specs.declared.unit_date.UnitDate.{UnitDate}
use Rattle.hh_sqlparts.specs.steps.Named.{FindsNamed, IsAmong, date_of, entry_under, price_key_of, prices_of, reading_key_of, readings_of, reallocations_of, reference_of, unit_day, unit_day_of, unit_of, volume_key_of}
use Rattle.hh_sqlparts.proofs.NamedRows.{HasReallocations, IsOf, entry_found, entry_is, find_named, same_tested, tested_are, tested_found}

-- order by unit, then by date
abbrev pub unit_day_cmp : UnitDate → UnitDate → Ordering
unit_day_cmp = then_cmp (on (λ n. n.unit) bytes_cmp) (on (λ n. n.date) nat_cmp)

-- what follows from a row's key, given the name of that key
by_name : {K N : Type 0} (name : K → N) (P : N → Type 0) (Q : K → Type 0) → ((k : K) → P (name k) → Q k) → (o : Option K) → IfSome (option_map name o) P → IfSome o Q
by_name name P Q follows None h = h
by_name name P Q follows (Some k) h = follows k h

own_name : {K : Type 0} (o : Option K) → o ≡ option_map (λ k. k) o
own_name None = refl
own_name (Some k) = refl

-- ---- what is found of a unit's rows

pub reading_found : (whole : Table UnitPeriod Reading) (n : UnitDate) (k : UnitPeriod) → find unit_period_cmp k (readings_of whole n) ≡ cond (is_of_unit_on n.unit n.date k) (find unit_period_cmp k whole) None
reading_found whole n = tested_found unit_period_cmp exact_unit_periods whole (is_of_unit_on n.unit n.date)

pub reallocation_found : (whole : Table ReallocationKey Reallocation) (unit : List ℕ) (k : ReallocationKey)
    → find reallocation_key_cmp k (reallocations_of whole unit) ≡ cond (is_eq (bytes_cmp k.unit_period.unit unit)) (find reallocation_key_cmp k whole) None
reallocation_found whole unit = tested_found reallocation_key_cmp exact_reallocation_keys whole (λ k. is_eq (bytes_cmp k.unit_period.unit unit))

-- If two tables have the same under the keys of a unit in a Settlement Period, they have the same reallocations of it.
pub same_reallocated : (whole part : Table ReallocationKey Reallocation) → T (is_sorted reallocation_key_cmp whole) → T (is_sorted reallocation_key_cmp part) → (at : UnitPeriod)
    → ((k : ReallocationKey) → k.unit_period ≡ at → find reallocation_key_cmp k part ≡ find reallocation_key_cmp k whole)
    → filter (λ e. eq_by_cmp unit_period_cmp e.0.unit_period at) part ≡ filter (λ e. eq_by_cmp unit_period_cmp e.0.unit_period at) whole
same_reallocated whole part rising ordered at alike =
    same_tested reallocation_key_cmp reallocation_key_total whole rising exact_reallocation_keys (λ k. eq_by_cmp unit_period_cmp k.unit_period at) part ordered
    (λ k here. alike k (exact_unit_periods k.unit_period at ((Equal-is (unit_period_cmp k.unit_period at)).0 here)))

-- ---- tables that are read by the names of rows

-- with the rows that the names of rows select, a table has what the whole has under the keys of the rows
module _ {K V N : Type 0} (R : K → K → Ordering) (o : IsTotalOrder R) (whole : Table K V) (C : N → N → Ordering) (name : K → N) (selects : N → Table K V)
    (are : (n : N) → All (IsOf R whole) (selects n)) (finds : (n : N) (k : K) → find R k (selects n) ≡ cond (is_eq (C (name k) n)) (find R k whole) None) where
  finds_by_names : (names : List N) (k : K) → list_any (is_at (C (name k))) names ≡ true → find R k (put_all R (flat_map selects names) []) ≡ find R k whole
  finds_by_names = find_named R o whole selects (λ n k. is_eq (C (name k) n)) are finds

  finds_of_rows : (key : Row → Option K) (name_of : Row → Option N) → ((r : Row) → name_of r ≡ option_map name (key r)) → (rows : List Row) (names : List N) → All (IsAmong C name_of names) rows
      → (found part : Table K V) → found ≡ flat_map selects names → part ≡ put_all R found [] → FindsNamed R key rows whole part
  finds_of_rows key name_of same rows names among found part is became =
      subst (FindsNamed R key rows whole) (sym (became ∙ ap (λ es. put_all R es []) is))
      (All-weaker (IsAmong C name_of names) (λ r. IfSome (key r) (λ k. find R k (put_all R (flat_map selects names) []) ≡ find R k whole))
      (λ r here. by_name name (λ n. list_any (is_at (C n)) names ≡ true) (λ k. find R k (put_all R (flat_map selects names) []) ≡ find R k whole) (finds_by_names names) (key r)
      (subst (λ x. IfSome x (λ n. list_any (is_at (C n)) names ≡ true)) (same r) here)) rows among)

module _ (rows : List Row) where
  pub references_named : (whole : Table (List ℕ) Counterparties) (names : List (List ℕ)) → All (IsAmong bytes_cmp reference_of names) rows → (found part : Table (List ℕ) Counterparties)
      → found ≡ flat_map (entry_under bytes_cmp whole) names → part ≡ put_all bytes_cmp found []
      → FindsNamed bytes_cmp reference_of rows whole part
  references_named whole =
      finds_of_rows bytes_cmp bytes_total whole bytes_cmp (λ k. k) (entry_under bytes_cmp whole) (entry_is bytes_cmp bytes_total whole) (entry_found bytes_cmp bytes_total whole)
      reference_of reference_of (λ r. own_name (reference_of r)) rows

  pub contracts_named : (whole : Table ContractKey ℤ) (names : List ContractKey) → All (IsAmong contract_key_cmp volume_key_of names) rows → (found part : Table ContractKey ℤ)
      → found ≡ flat_map (entry_under contract_key_cmp whole) names → part ≡ put_all contract_key_cmp found []
      → FindsNamed contract_key_cmp volume_key_of rows whole part
  contracts_named whole =
      finds_of_rows contract_key_cmp contract_key_total whole contract_key_cmp (λ k. k) (entry_under contract_key_cmp whole)
      (entry_is contract_key_cmp contract_key_total whole) (entry_found contract_key_cmp contract_key_total whole)
      volume_key_of volume_key_of (λ r. own_name (volume_key_of r)) rows

  pub positions_named : (key : Row → Option PositionKey) (whole : Table PositionKey Position) (names : List PositionKey) → All (IsAmong position_key_cmp key names) rows → (found part : Table PositionKey Position)
      → found ≡ flat_map (entry_under position_key_cmp whole) names → part ≡ put_all position_key_cmp found []
      → FindsNamed position_key_cmp key rows whole part
  positions_named key whole =
      finds_of_rows position_key_cmp position_key_total whole position_key_cmp (λ k. k) (entry_under position_key_cmp whole)
      (entry_is position_key_cmp position_key_total whole) (entry_found position_key_cmp position_key_total whole)
      key key (λ r. own_name (key r)) rows

  pub meters_named : (whole : Table UnitPeriod Reading) → T (is_sorted unit_period_cmp whole) → (names : List UnitDate) → All (IsAmong unit_day_cmp unit_day_of names) rows → (found part : Table UnitPeriod Reading)
      → found ≡ flat_map (readings_of whole) names → part ≡ put_all unit_period_cmp found []
      → FindsNamed unit_period_cmp reading_key_of rows whole part
  meters_named whole order =
      finds_of_rows unit_period_cmp unit_period_total whole unit_day_cmp unit_day (readings_of whole)
      (λ n. tested_are unit_period_cmp unit_period_total whole order (λ e. is_of_unit_on n.unit n.date e.0)) (reading_found whole)
      reading_key_of unit_day_of (λ r. refl) rows

  pub prices_named : (whole : Table SettlementPeriod ℤ) → T (is_sorted settlement_period_cmp whole) → (names : List ℕ) → All (IsAmong nat_cmp date_of names) rows → (found part : Table SettlementPeriod ℤ)
      → found ≡ flat_map (prices_of whole) names → part ≡ put_all settlement_period_cmp found []
      → FindsNamed settlement_period_cmp price_key_of rows whole part
  prices_named whole order =
      finds_of_rows settlement_period_cmp settlement_period_total whole nat_cmp (λ at. at.date) (prices_of whole)
      (λ n. tested_are settlement_period_cmp settlement_period_total whole order (λ e. is_eq (nat_cmp e.0.date n)))
      (λ n. tested_found settlement_period_cmp exact_settlement_periods whole (λ at. is_eq (nat_cmp at.date n)))
      price_key_of date_of (λ r. refl) rows

  -- the reallocations of a unit that is named
  module _ (whole : Table ReallocationKey Reallocation) (order : T (is_sorted reallocation_key_cmp whole)) (names : List (List ℕ)) where
    abbrev selected : Table ReallocationKey Reallocation
    selected = put_all reallocation_key_cmp (flat_map (reallocations_of whole) names) []

    finds_reallocated : (k : ReallocationKey) → list_any (is_at (bytes_cmp k.unit_period.unit)) names ≡ true → find reallocation_key_cmp k selected ≡ find reallocation_key_cmp k whole
    finds_reallocated k =
        finds_by_names reallocation_key_cmp reallocation_key_total whole bytes_cmp (λ (key : ReallocationKey). key.unit_period.unit) (reallocations_of whole)
        (λ n. tested_are reallocation_key_cmp reallocation_key_total whole order (λ e. is_eq (bytes_cmp e.0.unit_period.unit n))) (reallocation_found whole) names k

    selected_rises : IsTable reallocation_key_cmp selected
    selected_rises = put_all_is_table reallocation_key_total (flat_map (reallocations_of whole) names) [] refl

    reallocated_alike : (unit : List ℕ) → list_any (is_at (bytes_cmp unit)) names ≡ true → reallocations_of selected unit ≡ reallocations_of whole unit
    reallocated_alike unit named =
        same_tested reallocation_key_cmp reallocation_key_total whole order exact_reallocation_keys (λ k. is_eq (bytes_cmp k.unit_period.unit unit)) selected (from_true _ selected_rises)
        (λ k here. finds_reallocated k (subst (λ u. list_any (is_at (bytes_cmp u)) names ≡ true) (sym (exact_bytes k.unit_period.unit unit ((Equal-is (bytes_cmp k.unit_period.unit unit)).0 here))) named))

    of_unit : (o : Option (List ℕ)) → IfSome o (λ n. list_any (is_at (bytes_cmp n)) names ≡ true) → IfSome o (λ unit. reallocations_of selected unit ≡ reallocations_of whole unit)
    of_unit None h = h
    of_unit (Some unit) h = reallocated_alike unit h

    pub reallocations_named : All (IsAmong bytes_cmp unit_of names) rows → (found part : Table ReallocationKey Reallocation)
        → found ≡ flat_map (reallocations_of whole) names → part ≡ put_all reallocation_key_cmp found []
        → HasReallocations rows whole part
    reallocations_named among found part is became =
        subst (HasReallocations rows whole) (sym (became ∙ ap (λ es. put_all reallocation_key_cmp es []) is)) (
          selected_rises,
          All-weaker (IsAmong bytes_cmp unit_of names) (λ r. IfSome (unit_of r) (λ unit. reallocations_of selected unit ≡ reallocations_of whole unit))
              (λ r here. of_unit (unit_of r) here) rows among,
        )
