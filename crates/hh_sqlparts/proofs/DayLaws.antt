-- What is read for a Settlement Day has the rows of its date.
use Rattle.std.proofs.Common.{◌≡◌, ◌∙◌, ℕ, ◌<◌, List, [], ◌∷◌, get_or, length, Bool, true, false, cond, map, refl, sym, ap}
use Rattle.std.specs.Prelude.{◌&&◌, ◌||◌, ℤ, filter, T}
use Rattle.std.specs.Cmp.{Equal-is, IsTotalOrder, eq_by_cmp_equiv, nat_cmp_total, on_total, then_total, tied_itself}
use Rattle.std.specs.Cmp.Lexicographic.{same_text}
use Rattle.std.specs.FinMap.{find, is_sorted}
use Rattle.std.specs.FinMap.Entries.{is_sorted-where_key}
use Rattle.std.specs.List.{dedup, flat_map, list_any}
use Rattle.std.specs.Ordering.{eq_by_cmp, is_eq, nat_cmp}
use Rattle.std.specs.Str.{bytes_eq}
use Rattle.std.proofs.lemmas.Cmp.{nat_list_eq_equiv}
use Rattle.std.proofs.lemmas.List.Folds.{list_any_at}
use Rattle.std.proofs.lemmas.List.Kept.{Contains-dedup}
use Rattle.std.proofs.lemmas.Map.Lookups.{exact_bytes}
use Rattle.std.proofs.lemmas.Map.Views.{Contains-from_any, list_any-from_Contains}
use Rattle.hh_names.specs.Accounts.{bytes_cmp}
use Rattle.hh_names.proofs.AccountLaws.{bytes_total}
use Rattle.hh_rows.proofs.KeyLaws.{contract_key_total, exact_contract_keys, exact_settlement_periods}
use Rattle.hh_rows.specs.Keys.{contract_key_cmp, reallocation_key_cmp, settlement_period_cmp, unit_period_cmp}
use Rattle.hh_rows.specs.declared.keys.ContractKey.{ContractKey}
use Rattle.hh_rows.specs.declared.keys.UnitPeriod.{UnitPeriod}
use Rattle.hh_rows.specs.declared.rows.UnitRegistration.{UnitRegistration}
use Rattle.hh_rows.specs.declared.settlement_period.SettlementPeriod.{SettlementPeriod}
use Rattle.hh_rules.specs.History.{Registered, nothing_registered}
use Rattle.hh_states.specs.PeriodSettlement.{units_on}
use Rattle.hh_kept_rows.specs.DayRows.{AgreesOnUnitAt, HasContractsOn, HasRowsOn}
use Rattle.hh_sqlrows.specs.OfficeTables.{is_of_unit_on, unit_date_cmp}
use Rattle.hh_sqlrows.specs.declared.unit_date.UnitDate.{UnitDate}
use Rattle.hh_sqlparts.specs.steps.DayParts.{contracts_on, ids_on, on_date, references_in, with_day_contracts, with_registered, with_rows_of_units}
use Rattle.hh_sqlparts.specs.steps.Named.{entry_under, readings_of, reallocations_of}
use Rattle.hh_sqlparts.proofs.NamedRows.{entry_found, find_kept_by, same_tested, tested_kept}
use Rattle.hh_sqlparts.proofs.NamedTables.{reading_found, reallocation_found, same_reallocated}

-- ---- what a test finds in the values of a list, and in the filtered list

any_mapped : {X Y : Type 0} (test : Y → Bool) (value : X → Y) (xs : List X) → list_any test (map value xs) ≡ list_any (λ x. test (value x)) xs
any_mapped test value [] = refl
any_mapped test value (x ∷ xs) = ap (λ b. test (value x) || b) (any_mapped test value xs)

any_kept : {X : Type 0} (test keeps : X → Bool) (xs : List X) → list_any test (filter keeps xs) ≡ list_any (λ x. keeps x && test x) xs
any_kept test keeps [] = refl
any_kept test keeps (x ∷ xs) = elim (keeps x) as (λ b. list_any test (cond b (x ∷ filter keeps xs) (filter keeps xs)) ≡ ((b && test x) || list_any (λ y. keeps y && test y) xs)) [
  | true ↦ ap (λ b. test x || b) (any_kept test keeps xs)
  | false ↦ any_kept test keeps xs
]

-- ---- contracts

-- a date equals itself
is_on : (a date : ℕ) → a ≡ date → is_eq (nat_cmp a date) ≡ true
is_on a date on = ap (λ d. is_eq (nat_cmp d date)) on ∙ ap is_eq (tied_itself nat_cmp_total date)

same_period : (a b : SettlementPeriod) → eq_by_cmp settlement_period_cmp a b ≡ true → a ≡ b
same_period a b same = exact_settlement_periods a b ((Equal-is (settlement_period_cmp a b)).0 same)

-- if neighbours that are the same are listed once, a reference that was listed still is
among_distinct : (references : List (List ℕ)) (reference : List ℕ) → list_any (eq_by_cmp bytes_cmp reference) references ≡ true → list_any (eq_by_cmp bytes_cmp reference) (dedup bytes_eq references) ≡ true
among_distinct references reference among =
    list_any-from_Contains (eq_by_cmp_equiv bytes_total) reference (dedup bytes_eq references)
    (Contains-dedup nat_list_eq_equiv (λ x y same. same_text x y (sym same)) references reference
    (Contains-from_any (λ x y same. exact_bytes x y ((Equal-is (bytes_cmp x y)).0 same)) reference references among))

module _ (date : ℕ) (whole part : Registered) where
  -- the reference of a contract of the date is among those of the contracts
  reference_among : (i : ℕ) (d : ContractKey × ℤ) → i < length whole.contracts → (get_or whole.contracts i d).0.at.date ≡ date
      → list_any (eq_by_cmp bytes_cmp (get_or whole.contracts i d).0.reference) (references_in (contracts_on date whole)) ≡ true
  reference_among i d inside on =
      let is_own = eq_by_cmp bytes_cmp (get_or whole.contracts i d).0.reference in
      among_distinct (map (λ (e : ContractKey × ℤ). e.0.reference) (contracts_on date whole)) (get_or whole.contracts i d).0.reference
      (any_mapped is_own (λ (e : ContractKey × ℤ). e.0.reference) (contracts_on date whole)
      ∙ any_kept (λ (e : ContractKey × ℤ). is_own e.0.reference) (λ e. is_eq (nat_cmp e.0.at.date date)) whole.contracts
      ∙ list_any_at (λ (e : ContractKey × ℤ). is_eq (nat_cmp e.0.at.date date) && is_own e.0.reference) whole.contracts i d inside
      (ap (λ b. b && is_own (get_or whole.contracts i d).0.reference) (is_on (get_or whole.contracts i d).0.at.date date on) ∙ (eq_by_cmp_equiv bytes_total).refl (get_or whole.contracts i d).0.reference))

  -- what was read of a date's contracts has the contracts of the date
  has_contracts : T (is_sorted contract_key_cmp whole.contracts) → part.contracts ≡ contracts_on date whole → part.references ≡ flat_map (entry_under bytes_cmp whole.references) (references_in (contracts_on date whole))
      → HasContractsOn date whole part
  has_contracts rises contracts references = record {
    volumes = λ at on. ap (filter (λ e. eq_by_cmp settlement_period_cmp e.0.at at)) contracts
        ∙ same_tested contract_key_cmp contract_key_total whole.contracts rises exact_contract_keys (λ k. eq_by_cmp settlement_period_cmp k.at at)
        (contracts_on date whole) (is_sorted-where_key contract_key_cmp (λ k. is_eq (nat_cmp k.at.date date)) whole.contracts rises)
        (λ k same. tested_kept contract_key_cmp exact_contract_keys whole.contracts (λ k. is_eq (nat_cmp k.at.date date)) k (is_on k.at.date date (ap (λ at. at.date) (same_period k.at at same) ∙ on)));
    references = λ i d inside on. ap (find bytes_cmp (get_or whole.contracts i d).0.reference) references
        ∙ find_kept_by bytes_cmp whole.references (entry_under bytes_cmp whole.references) (λ n k. eq_by_cmp bytes_cmp k n) (entry_found bytes_cmp bytes_total whole.references)
        (references_in (contracts_on date whole)) (get_or whole.contracts i d).0.reference (reference_among i d inside on);
  }

-- ---- units

unit_date_total : IsTotalOrder unit_date_cmp
unit_date_total = then_total (on_total (λ p. p.0) bytes_total) (on_total (λ p. p.1) nat_cmp_total)

module _ (date : ℕ) (whole part : Registered) (meters : part.meters ≡ flat_map (readings_of whole.meters) (map (on_date date) (ids_on date whole.units)))
    (reallocations : part.reallocations ≡ flat_map (reallocations_of whole.reallocations) (ids_on date whole.units))
    (rises : T (is_sorted reallocation_key_cmp whole.reallocations)) (part_rises : T (is_sorted reallocation_key_cmp part.reallocations)) where
  -- what was read of the units that are effective on a date agrees on each of them
  unit_agrees : (at : SettlementPeriod) → at.date ≡ date → (i : ℕ) (d : List ℕ × UnitRegistration) → i < length (units_on whole date) → AgreesOnUnitAt whole part (get_or (units_on whole date) i d).0 at
  unit_agrees at on i d inside =
      let unit = (get_or (units_on whole date) i d).0 in
      let key : UnitPeriod = record { unit = unit; at = at } in
      record {
        reading = ap (find unit_period_cmp key) meters
            ∙ find_kept_by unit_period_cmp whole.meters (readings_of whole.meters) (λ n k. is_of_unit_on n.unit n.date k) (reading_found whole.meters) (map (on_date date) (ids_on date whole.units)) key
            (any_mapped (λ (n : UnitDate). is_of_unit_on n.unit n.date key) (on_date date) (ids_on date whole.units)
            ∙ any_mapped (λ id. is_of_unit_on id date key) (λ (e : List ℕ × UnitRegistration). e.0) (units_on whole date)
            ∙ list_any_at (λ (e : List ℕ × UnitRegistration). is_of_unit_on e.0 date key) (units_on whole date) i d inside
            (ap (λ day. is_of_unit_on unit day key) (sym on) ∙ ap is_eq (tied_itself unit_date_total (unit, at.date))));
        reallocations = same_reallocated whole.reallocations part.reallocations rises part_rises key
            (λ k is. ap (find reallocation_key_cmp k) reallocations
            ∙ find_kept_by reallocation_key_cmp whole.reallocations (reallocations_of whole.reallocations) (λ n k. is_eq (bytes_cmp k.unit_period.unit n)) (reallocation_found whole.reallocations) (ids_on date whole.units) k
            (ap (λ (p : UnitPeriod). list_any (eq_by_cmp bytes_cmp p.unit) (ids_on date whole.units)) is
            ∙ any_mapped (eq_by_cmp bytes_cmp unit) (λ (e : List ℕ × UnitRegistration). e.0) (units_on whole date)
            ∙ list_any_at (λ (e : List ℕ × UnitRegistration). eq_by_cmp bytes_cmp unit e.0) (units_on whole date) i d inside ((eq_by_cmp_equiv bytes_total).refl unit)));
      }

-- the contracts that are read for a date are those of the date
pub contracts_of_day_part : (date : ℕ) (whole : Registered) → T (is_sorted contract_key_cmp whole.contracts) → HasContractsOn date whole (with_day_contracts date whole nothing_registered)
contracts_of_day_part date whole rises = has_contracts date whole (with_day_contracts date whole nothing_registered) rises refl refl

-- the part from which a date is settled
abbrev pub day_part : ℕ → Registered → Registered
day_part date whole =
    with_rows_of_units date whole (with_registered date whole (with_day_contracts date whole nothing_registered))

-- the part that is read for a date has the rows of the date
pub rows_of_day_part : (date : ℕ) (whole : Registered) → T (is_sorted contract_key_cmp whole.contracts) → T (is_sorted reallocation_key_cmp whole.reallocations)
    → T (is_sorted reallocation_key_cmp (day_part date whole).reallocations) → HasRowsOn date whole (day_part date whole)
rows_of_day_part date whole contracts_rise rises part_rises = record {
  parties = refl;
  units = refl;
  leads = refl;
  prices = λ at on. tested_kept settlement_period_cmp exact_settlement_periods whole.prices (λ q. is_eq (nat_cmp q.date date)) at (is_on at.date date on);
  of_units = unit_agrees date whole (day_part date whole) refl refl rises part_rises;
  contracts = has_contracts date whole (day_part date whole) contracts_rise refl refl;
}
