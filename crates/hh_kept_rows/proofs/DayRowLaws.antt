-- A Settlement Day settled by its own rows: what is found among all rows is found among those of the date.
use Rattle.std.proofs.Common.{◌≡◌, ℕ, List, [], ◌∷◌, ◌++◌, map, refl, sym, ap, subst, ◌∙◌, Bool, true, false, cond, Option, Some}
use Rattle.std.specs.Prelude.{ℤ, pos, filter, filter_map, find, is_none, option_map, unwrap_or, All}
use Rattle.std.specs.Cmp.{Equal-is}
use Rattle.std.specs.FinMap.{find as entry_at}
use Rattle.std.specs.List.{AllByRecursion, cons_option, flat_map}
use Rattle.std.specs.Ordering.{eq_by_cmp}
use Rattle.std.proofs.lemmas.List.Elements.{recursion_from_All}
use Rattle.hh_names.specs.declared.values.Reading.{Reading}
use Rattle.hh_names.specs.PartyAccounts.{both_accounts}
use Rattle.hh_names.specs.Accounts.{bytes_cmp}
use Rattle.hh_rows.proofs.KeyLaws.{exact_settlement_periods}
use Rattle.hh_rows.specs.DateRanges.{holds}
use Rattle.hh_rows.specs.Keys.{settlement_period_cmp}
use Rattle.hh_rows.specs.declared.keys.ContractKey.{ContractKey}
use Rattle.hh_rows.specs.declared.keys.UnitPeriod.{UnitPeriod}
use Rattle.hh_rows.specs.declared.rows.UnitRegistration.{UnitRegistration}
use Rattle.hh_rows.specs.declared.settlement_period.SettlementPeriod.{SettlementPeriod}
use Rattle.hh_rules.specs.History.{Registered}
use Rattle.hh_registrations.specs.Registrations.{registered_lead_on}
use Rattle.hh_rules.specs.RegisterView.{AgreesOn}
use Rattle.hh_rows.specs.declared.rows.Row.{Row}
use Rattle.hh_rows.specs.declared.rows.Row.TheVariants as row
use Rattle.hh_calc.specs.Terms.{Rows, unit_data, period_data}
use Rattle.hh_states.specs.DaySettlement.{from_one_to, missing_meter, missing_price, periods_on, unit_periods_at}
use Rattle.hh_states.specs.PeriodSettlement.{accounts_on, price_of, reading_of, row_in_force, rows_in_force, terms_at, unit_at, units_on}
use Rattle.hh_states.specs.Reads.{names_account}
use Rattle.hh_kept_rows.specs.DayRows.{AgreesOnUnitAt, ContractsByTheirRows, HasContractsOn, HasRowsOn, PartsOfParts, volumes_at}

-- two tests that agree on each element find the same
find_alike : {X : Type 0} (f g : X → Bool) (xs : List X) → AllByRecursion (λ x. f x ≡ g x) xs → find f xs ≡ find g xs
find_alike f g [] h = refl
find_alike f g (x ∷ xs) h = (λ i. cond (h.0 i) (Some x) (find_alike f g xs h.1 i))

-- two functions that agree on each element give the same
filter_map_alike : {X Y : Type 0} (f g : X → Option Y) (xs : List X) → AllByRecursion (λ x. f x ≡ g x) xs → filter_map f xs ≡ filter_map g xs
filter_map_alike f g [] h = refl
filter_map_alike f g (x ∷ xs) h = (λ i. cons_option (h.0 i) (filter_map_alike f g xs h.1 i))

flat_map_alike : {X Y : Type 0} (f g : X → List Y) (xs : List X) → AllByRecursion (λ x. f x ≡ g x) xs → flat_map f xs ≡ flat_map g xs
flat_map_alike f g [] h = refl
flat_map_alike f g (x ∷ xs) h = (λ i. h.0 i ++ flat_map_alike f g xs h.1 i)

all_append : {X : Type 0} (P : X → Type 0) (xs ys : List X) → AllByRecursion P xs → AllByRecursion P ys → AllByRecursion P (xs ++ ys)
all_append P [] ys h k = k
all_append P (x ∷ xs) ys h k = (h.0, all_append P xs ys h.1 k)

all_map : {X Y : Type 0} (P : Y → Type 0) (f : X → Y) (xs : List X) → AllByRecursion (λ x. P (f x)) xs → AllByRecursion P (map f xs)
all_map P f [] h = tt
all_map P f (x ∷ xs) h = (h.0, all_map P f xs h.1)

all_weaker : {X : Type 0} (P Q : X → Type 0) → ((x : X) → P x → Q x) → (xs : List X) → AllByRecursion P xs → AllByRecursion Q xs
all_weaker P Q weaker [] h = tt
all_weaker P Q weaker (x ∷ xs) h = (weaker x h.0, all_weaker P Q weaker xs h.1)

-- if the elements that pass a test have a property, so have those that pass a stronger test
all_filter : {X : Type 0} (P : X → Type 0) (test : X → Bool) (xs : List X) → AllByRecursion (λ x. test x ≡ true → P x) xs → AllByRecursion P (filter test xs)
all_filter P test [] h = tt
all_filter P test (x ∷ xs) h = elim (test x) as (λ b. test x ≡ b → AllByRecursion P (cond b (x ∷ filter test xs) (filter test xs))) [
  | true ↦ λ passes. (h.0 passes, all_filter P test xs h.1)
  | false ↦ λ fails. all_filter P test xs h.1
] refl

-- Settlement Periods that are the same have the same date
same_date : (a b : SettlementPeriod) → eq_by_cmp settlement_period_cmp a b ≡ true → a.date ≡ b.date
same_date a b same = ap (λ (p : SettlementPeriod). p.date) (exact_settlement_periods a b ((Equal-is (settlement_period_cmp a b)).0 same))

module _ (date : ℕ) (whole part : Registered) (has : HasContractsOn date whole part) (at : SettlementPeriod) (on : at.date ≡ date) where
  row_alike : (e : ContractKey × ℤ) → (e.0.at.date ≡ date → entry_at bytes_cmp e.0.reference part.references ≡ entry_at bytes_cmp e.0.reference whole.references)
      → eq_by_cmp settlement_period_cmp e.0.at at ≡ true → row_in_force part e ≡ row_in_force whole e
  row_alike e alike here =
      ap (option_map (λ c. record { key = e.0; contract = record { counterparties = c; volume = e.1 } })) (alike (same_date e.0.at at here ∙ on))

  pub rows_alike : rows_in_force part at ≡ rows_in_force whole at
  rows_alike =
      ap (filter_map (row_in_force part)) (has.volumes at on)
      ∙ filter_map_alike (row_in_force part) (row_in_force whole) (volumes_at whole at)
      (all_filter (λ e. row_in_force part e ≡ row_in_force whole e) (λ e. eq_by_cmp settlement_period_cmp e.0.at at) whole.contracts
      (all_weaker (λ e. e.0.at.date ≡ date → entry_at bytes_cmp e.0.reference part.references ≡ entry_at bytes_cmp e.0.reference whole.references)
      (λ e. eq_by_cmp settlement_period_cmp e.0.at at ≡ true → row_in_force part e ≡ row_in_force whole e) row_alike whole.contracts (recursion_from_All _ whole.contracts has.references)))

-- each of these Settlement Periods of a date is of that date
each_on : (date : ℕ) (numbers : List ℕ) → AllByRecursion (λ (at : SettlementPeriod). at.date ≡ date) (map (λ p. record { date = date; period = p }) numbers)
each_on date [] = tt
each_on date (p ∷ numbers) = (refl, each_on date numbers)

pub contracts_alike : ContractsByTheirRows
contracts_alike date whole part has account =
    ap (filter (names_account account))
    (flat_map_alike (rows_in_force part) (rows_in_force whole) (periods_on date 50)
    (all_weaker (λ (at : SettlementPeriod). at.date ≡ date) (λ at. rows_in_force part at ≡ rows_in_force whole at) (rows_alike date whole part has) (periods_on date 50) (each_on date (from_one_to 50))))

module _ (date : ℕ) (whole part : Registered) (has : HasRowsOn date whole part) where
  lack_alike : (periods : List SettlementPeriod) → AllByRecursion (λ at. at.date ≡ date) periods → missing_price part periods ≡ missing_price whole periods
  lack_alike periods on =
      find_alike (λ at. is_none (price_of part at)) (λ at. is_none (price_of whole at)) periods
      (all_weaker (λ at. at.date ≡ date) (λ at. is_none (price_of part at) ≡ is_none (price_of whole at)) (λ at is. ap is_none (has.prices at is)) periods on)

  module _ (at : SettlementPeriod) (on : at.date ≡ date) where
    -- if both agree on each unit of the date, they agree on each unit of the period
    units_agree : AllByRecursion (λ u. AgreesOnUnitAt whole part u.0 at) (units_on whole at.date)
    units_agree = subst (λ d. AllByRecursion (λ u. AgreesOnUnitAt whole part u.0 at) (units_on whole d)) (sym on) (recursion_from_All _ (units_on whole date) (has.of_units at on))

    here : List ℕ × UnitRegistration → UnitPeriod
    here u = record { unit = u.0; at = at }

    keys_alike : AllByRecursion (λ key. is_none (reading_of part key) ≡ is_none (reading_of whole key)) (unit_periods_at whole at)
    keys_alike =
        all_map (λ key. is_none (reading_of part key) ≡ is_none (reading_of whole key)) (λ u. record { unit = u.0; at = at }) (units_on whole at.date)
        (all_weaker (λ u. AgreesOnUnitAt whole part u.0 at) (λ u. is_none (reading_of part (record { unit = u.0; at = at })) ≡ is_none (reading_of whole (record { unit = u.0; at = at })))
        (λ u agrees. ap is_none agrees.reading) (units_on whole at.date) units_agree)

    unit_alike : (u : List ℕ × UnitRegistration) → AgreesOnUnitAt whole part u.0 at → unit_at part at u ≡ unit_at whole at u
    unit_alike u agrees =
        λ i. option_map (λ (reading : Reading). unit_data u.0 (unwrap_or (registered_lead_on (record { units = has.units i; leads = has.leads i }) u.0 at.date) u.1.lead) u.1.interconnector reading (map (λ e. record { account = e.0.account; reallocation = e.1 }) (agrees.reallocations i))) (agrees.reading i)

    pub terms_alike : terms_at part at ≡ terms_at whole at
    terms_alike =
        (λ i. period_data (flat_map (λ e. both_accounts e.0) (filter (λ e. holds e.1.range at.date) (has.parties i))) (filter_map (unit_at part at) (filter (λ e. holds e.1.range at.date) (has.units i)))
        (Rows (map (λ r. r.contract) (rows_alike date whole part has.contracts at on i))) (unwrap_or (has.prices at on i) (pos 0)))
        ∙ ap (λ units. period_data (accounts_on whole at.date) units (Rows (map (λ r. r.contract) (rows_in_force whole at))) (unwrap_or (price_of whole at) (pos 0)))
        (filter_map_alike (unit_at part at) (unit_at whole at) (units_on whole at.date)
        (all_weaker (λ u. AgreesOnUnitAt whole part u.0 at) (λ u. unit_at part at u ≡ unit_at whole at u) unit_alike (units_on whole at.date) units_agree))

  keys_alike_in : (periods : List SettlementPeriod) → AllByRecursion (λ at. at.date ≡ date) periods
      → AllByRecursion (λ key. is_none (reading_of part key) ≡ is_none (reading_of whole key)) (flat_map (unit_periods_at whole) periods)
  keys_alike_in [] on = tt
  keys_alike_in (at ∷ periods) on = all_append _ (unit_periods_at whole at) (flat_map (unit_periods_at whole) periods) (keys_alike at on.0) (keys_alike_in periods on.1)

  meters_alike : (periods : List SettlementPeriod) → AllByRecursion (λ at. at.date ≡ date) periods → missing_meter part periods ≡ missing_meter whole periods
  meters_alike periods on =
      (λ i. find (λ key. is_none (reading_of part key)) (flat_map (λ at. map (λ e. record { unit = e.0; at = at }) (filter (λ e. holds e.1.range at.date) (has.units i))) periods))
      ∙ find_alike (λ key. is_none (reading_of part key)) (λ key. is_none (reading_of whole key)) (flat_map (unit_periods_at whole) periods) (keys_alike_in periods on)

-- the Settlement Periods of a date are settled from the part as from the whole, and the same is missing for them
pub record SettlesAlike (date : ℕ) (whole part : Registered) : Type 0 where
  pub missing_price : (periods : List SettlementPeriod) → All (λ at. at.date ≡ date) periods
      → missing_price part periods ≡ missing_price whole periods
  pub missing_meter : (periods : List SettlementPeriod) → All (λ at. at.date ≡ date) periods
      → missing_meter part periods ≡ missing_meter whole periods
  pub terms : (at : SettlementPeriod) → at.date ≡ date → terms_at part at ≡ terms_at whole at

pub settled_alike : (date : ℕ) (whole part : Registered) → HasRowsOn date whole part → SettlesAlike date whole part
settled_alike date whole part has = record {
  missing_price = λ periods on. lack_alike date whole part has periods (recursion_from_All _ periods on);
  missing_meter = λ periods on. meters_alike date whole part has periods (recursion_from_All _ periods on);
  terms = terms_alike date whole part has;
}

-- if the first agrees with the second and the second with the third, the first agrees with the third
agrees_through : (whole middle part : Registered) (r : Row) → AgreesOn whole middle r → AgreesOn middle part r → AgreesOn whole part r
agrees_through whole middle part (row.Party r) a b = b ∙ a
agrees_through whole middle part (row.Unit r) (party, unit, rows, leads) (party', unit', rows', leads') = (party' ∙ party, unit' ∙ unit, rows' ∙ rows, leads' ∙ leads)
agrees_through whole middle part (row.Meter r) (unit, reading, leads) (unit', reading', leads') = (unit' ∙ unit, reading' ∙ reading, leads' ∙ leads)
agrees_through whole middle part (row.Price r) a b = b ∙ a
agrees_through whole middle part (row.Contract r) (seller, buyer, reference, volume) (seller', buyer', reference', volume') =
    (seller' ∙ seller, buyer' ∙ buyer, reference' ∙ reference, volume' ∙ volume)
agrees_through whole middle part (row.Reallocation r) (party, unit, rows, leads) (party', unit', rows', leads') = (party' ∙ party, unit' ∙ unit, rows' ∙ rows, leads' ∙ leads)

pub parts_of_parts : PartsOfParts
parts_of_parts rows whole middle part a b = record {
  rising = a.rising;
  part_rising = b.part_rising;
  lead_minutes = b.lead_minutes ∙ a.lead_minutes;
  parties = b.parties ∙ a.parties;
  units = b.units ∙ a.units;
  agrees = λ k d below. agrees_through whole.standing.tables middle.standing.tables part.standing.tables _ (a.agrees k d below) (b.agrees k d below);
}
