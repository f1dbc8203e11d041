-- What is registered and in force is consistent in each state that the machine reaches, and was when each run was ordered.
use Rattle.std.proofs.Common.{◌≡◌, ◌≢◌, ◌≤◌, ℕ, List, [], ◌∷◌, ◌++◌, length, take, refl, sym, ap, subst, ◌∙◌, Bool, true, false, Option, Some, None, arith}
use Rattle.std.specs.Prelude.{ℤ, pos, ◌+ℤ◌, ◌≤ℤ◌, ◌&&◌, nat_lt, not, int_lt, is_none, is_some, filter, option_map, option_to_list, unwrap_or, IsSome}
use Rattle.std.specs.FinMap.{find, is_sorted}
use Rattle.std.specs.Ordering.{eq_by_cmp}
use Rattle.std.proofs.lemmas.Bool.{and_parts, ltb-false, not-false, not-true, or_parts}
use Rattle.std.proofs.lemmas.List.{append-nil}
use Rattle.std.proofs.lemmas.Option.{same_Some}
use Rattle.std.proofs.lemmas.Int.{ints}
use Rattle.std.specs.List.{AllByRecursion}
use Rattle.hh_num.specs.Quantities.{hundred_percent}
use Rattle.hh_tables.specs.Ends.{last_of}
use Rattle.hh_tables.proofs.MergeLaws.{from_true, true_from}
use Rattle.hh_tables.proofs.TableLaws.{false_is_not_true}
use Rattle.hh_names.specs.declared.account.Account.{Account}
use Rattle.hh_names.specs.declared.values.Counterparties.{Counterparties}
use Rattle.hh_names.specs.declared.values.Reallocation.{Reallocation}
use Rattle.hh_names.specs.Accounts.{bytes_cmp, is_same_account}
use Rattle.hh_names.specs.Faults.{first_met}
use Rattle.hh_names.proofs.AccountLaws.{bytes_total}
use Rattle.hh_rows.specs.DateRanges.{holds, is_inside}
use Rattle.hh_rows.specs.Keys.{contract_key_cmp, reallocation_key_cmp, unit_period_cmp}
use Rattle.hh_rows.specs.RowKinds.{IsRow}
use Rattle.hh_rows.specs.declared.keys.ContractKey.{ContractKey}
use Rattle.hh_rows.specs.declared.keys.ReallocationKey.{ReallocationKey}
use Rattle.hh_rows.specs.declared.keys.UnitPeriod.{UnitPeriod}
use Rattle.hh_rows.specs.declared.rows.ContractRow.{ContractRow}
use Rattle.hh_rows.specs.declared.rows.MeterRow.{MeterRow}
use Rattle.hh_rows.specs.declared.rows.PartyRegistration.{PartyRegistration}
use Rattle.hh_rows.specs.declared.rows.PartyRow.{PartyRow}
use Rattle.hh_rows.specs.declared.rows.PriceRow.{PriceRow}
use Rattle.hh_rows.specs.declared.rows.ReallocationRow.{ReallocationRow}
use Rattle.hh_rows.specs.declared.rows.Row.{Row}
use Rattle.hh_rows.specs.declared.rows.Row.TheVariants as row
use Rattle.hh_rows.specs.declared.rows.UnitRegistration.{UnitRegistration}
use Rattle.hh_rows.specs.declared.rows.UnitRow.{UnitRow}
use Rattle.hh_rows.proofs.KeyLaws.{contract_key_total, exact_contract_keys, exact_reallocation_keys, exact_unit_periods, reallocation_key_total, settlement_period_total, unit_period_total}
use Rattle.hh_rules.specs.declared.timing.Timing.{Timing}
use Rattle.hh_rules.specs.Effects.{with_row}
use Rattle.hh_rules.specs.Entries.{contract_entry, meter_entry, party_entry, price_entry, reallocation_entry, reference_entry, unit_entry}
use Rattle.hh_rules.specs.FileRows.{refusal_after}
use Rattle.hh_rules.specs.History.{History, Registered, entries_of, nothing_registered, registered_in, units_with_row}
use Rattle.hh_rules.specs.Lateness.{Accepted, Timetable, accepted_at, comes_in_time, is_before_deadline, is_in_time, is_there, lacks_period, timing_by, timing_of}
use Rattle.hh_rules.specs.Leads.{registered_units}
use Rattle.hh_rules.specs.Percents.{percent_at, percent_of_others}
use Rattle.hh_rules.specs.Refusals.{contract_refusals, is_party_off, is_shrunk, is_some_that, is_unit_off, last_lead, meter_refusals, most_parties, most_units, party_refusals, reallocation_refusals, refusals_of, unit_refusals, whole_standing}
use Rattle.hh_time.specs.Days.{Midnights}
use Rattle.hh_registrations.specs.Registrations.{registered_lead_on, widened}
use Rattle.hh_rules.proofs.HistoryLaws.{entries_of-append, looks_back, unit_row-rises}
use Rattle.hh_successions.specs.RegistrationHistory.{IsAcceptedBy, last_row_holding, no_rows, one_more}
use Rattle.hh_successions.specs.RowRules.{office_rule}
use Rattle.hh_successions.proofs.LeadLaws.{UnitRows}
use Rattle.hh_successions.proofs.LookBackLaws.{NoneMet, leads_look_back, none_met, not_passed, units_look_back}
use Rattle.hh_successions.proofs.SubsidiaryLaws.{led_by_another_account}
use Rattle.hh_states.specs.Soundness.{AreConsistent, AreTables, ConsistentStates, HasCounterparties, IsLed, IsToSubsidiary, IsUnitEffective}
use Rattle.hh_states.specs.Steps.{IsReached, timetable_at}
use Rattle.hh_states.specs.Runs.{Run, seen_by}
use Rattle.hh_states.specs.States.{State}
use Rattle.hh_state_laws.proofs.AcceptedLaws.{reached_holds, runs_hold}
use Rattle.hh_state_laws.proofs.ApartLaws.{all-append, all-weaken, all_passing, holds_of_last}
use Rattle.hh_state_laws.proofs.EffectiveLaws.{IsInsideLead, IsOfEffective, Keeps, KeepsParty, KeepsUnit, counterparties_stay, fixed_by_row, inside_itself, inside_lead, lead_stays, party_effective, party_stays, reallocation_stays, same_parties, same_units, two_accounts, unit_effective, unit_stays, wider_holds, widened_keeps}
use Rattle.hh_state_laws.proofs.PutLaws.{keys-put, keys-put_in_time, length-put_within, percents-put_in_time, stays-put, stays-put_new, table-put_entry, table-put_in_time, table-put_new}

-- the sum of percentages of a row in time is within the limit that it is tested for
within_limit : (in_time : Bool) (most sum : ℤ) → (in_time && int_lt most sum) ≡ false → in_time ≡ true → sum ≤ℤ most
within_limit true most sum e t = grind (arith, ints)
within_limit false most sum e t = cc

-- if the date has the period, the timing tells whether the row comes in time
in_time_by : (has_period in_time : Bool) → lacks_period (timing_by has_period in_time) ≡ false → comes_in_time (timing_by has_period in_time) ≡ in_time
in_time_by true true e = refl
in_time_by true false e = refl
in_time_by false in_time e = cc

-- an accepted row of a known unit keeps the unit's dates
pub row_widens : (tables : Registered) (r : UnitRow) → first_met (unit_refusals (whole_standing tables) r) ≡ None → (u : UnitRegistration) → find bytes_cmp r.unit tables.units ≡ Some u
    → KeepsUnit u (widened (find bytes_cmp r.unit tables.units) r.registration)
row_widens tables r accepted u found =
    let unmet : NoneMet (unit_refusals (whole_standing tables) r) = none_met (unit_refusals (whole_standing tables) r) accepted in
    let within : is_shrunk u (last_lead tables.leads r.unit u) r.registration ≡ false =
    not_passed (λ (x : UnitRegistration). is_shrunk x (last_lead tables.leads r.unit x) r.registration) (find bytes_cmp r.unit tables.units) u unmet.1.1.0 found in
    subst (λ o. KeepsUnit u (widened o r.registration)) (sym found)
    (widened_keeps u r.registration (ltb-false r.registration.range.to u.range.to (or_parts (nat_lt r.registration.range.to u.range.to) _ within).0))

-- What accepted rows keep of all that is registered and in force. It leaves out who leads a unit. Instead each row of units lies inside
-- its lead party's range.
pub record AreSteady (tables : Registered) (rows : UnitRows) : Type 0 where
  pub rising : AreTables tables
  pub parties : length tables.parties ≤ most_parties
  pub units : length tables.units ≤ most_units
  pub inside : AllByRecursion (λ e. IsInsideLead tables e.1) rows
  pub contracts : (key : ContractKey) → IsSome (find contract_key_cmp key tables.contracts) → HasCounterparties tables key
  pub reallocations : (key : ReallocationKey) → IsSome (find reallocation_key_cmp key tables.reallocations) → IsOfEffective tables key
  pub percents : (at : UnitPeriod) → percent_at tables.reallocations at ≤ℤ hundred_percent
  pub meters : (key : UnitPeriod) → IsSome (find unit_period_cmp key tables.meters) → IsUnitEffective tables key.unit key.at.date

-- after an accepted row they are still steady
module _ (tables : Registered) (rows : UnitRows) (before : AreSteady tables rows) (in_time : Bool) where
  -- rows of units stay inside their lead parties
  rows_inside : (new : Registered) → Keeps tables new → AllByRecursion (λ e. IsInsideLead new e.1) rows
  rows_inside new keeps = all-weaken (λ (e : List ℕ × UnitRegistration). IsInsideLead tables e.1) (λ e. IsInsideLead new e.1) (λ e was. lead_stays tables new keeps e.1 was) rows before.inside

  -- the keys of each table still rise
  still_rising : (r : Row) → AreTables (with_row in_time r tables)
  still_rising r = record {
    parties = table-put_entry bytes_total (party_entry r) tables.parties before.rising.parties;
    units = true_from (is_sorted bytes_cmp (units_with_row r tables.units)) (unit_row-rises r tables.units (from_true (is_sorted bytes_cmp tables.units) before.rising.units));
    references = table-put_new bytes_total (reference_entry r) tables.references before.rising.references;
    meters = table-put_entry unit_period_total (meter_entry r) tables.meters before.rising.meters;
    prices = table-put_entry settlement_period_total (price_entry r) tables.prices before.rising.prices;
    contracts = table-put_in_time contract_key_total in_time (contract_entry r) tables.contracts before.rising.contracts;
    reallocations = table-put_in_time reallocation_key_total in_time (reallocation_entry r) tables.reallocations before.rising.reallocations;
  }

  -- a party's row that shrinks no range and has room
  with_party : (r : PartyRow) → first_met (party_refusals (whole_standing tables) r) ≡ None → AreSteady (with_row in_time (row.Party r) tables) rows
  with_party r accepted =
      let new : Registered = with_row in_time (row.Party r) tables in
      let unmet : NoneMet (party_refusals (whole_standing tables) r) = none_met (party_refusals (whole_standing tables) r) accepted in
      let keeps : Keeps tables new = record {
        parties = stays-put bytes_total KeepsParty r.party r.registration tables.parties (λ p. inside_itself p.range)
            (λ p found. not-false (is_inside p.range r.registration.range) (not_passed (λ (x : PartyRegistration). not (is_inside x.range r.registration.range)) (find bytes_cmp r.party tables.parties) p unmet.0 found));
        units = same_units tables;
        references = λ reference c found. found;
      } in
      record {
        rising = still_rising (row.Party r);
        parties = length-put_within bytes_total most_parties r.party r.registration tables.parties before.rising.parties before.parties unmet.1.0;
        units = before.units;
        inside = rows_inside new keeps;
        contracts = λ key there. counterparties_stay tables new keeps key (before.contracts key there);
        reallocations = λ key there. reallocation_stays tables new keeps key (before.reallocations key there);
        percents = before.percents;
        meters = λ key there. unit_stays tables new keeps key.unit key.at.date (before.meters key there);
      }

  -- a unit's row that lies inside its lead party's range, ends no earlier than the unit and has room
  with_unit : (r : UnitRow) → first_met (unit_refusals (whole_standing tables) r) ≡ None → AreSteady (with_row in_time (row.Unit r) tables) (rows ++ (r.unit, r.registration) ∷ [])
  with_unit r accepted =
      let new : Registered = with_row in_time (row.Unit r) tables in
      let known : Option UnitRegistration = find bytes_cmp r.unit tables.units in
      let unmet : NoneMet (unit_refusals (whole_standing tables) r) = none_met (unit_refusals (whole_standing tables) r) accepted in
      let keeps : Keeps tables new = record {
        parties = same_parties tables;
        units = stays-put bytes_total KeepsUnit r.unit (widened known r.registration) tables.units (λ u. inside_itself u.range)
            (row_widens tables r accepted);
        references = λ reference c found. found;
      } in
      record {
        rising = still_rising (row.Unit r);
        parties = before.parties;
        units = length-put_within bytes_total most_units r.unit (widened known r.registration) tables.units before.rising.units before.units unmet.1.1.1.1.1.0;
        inside = all-append (λ (e : List ℕ × UnitRegistration). IsInsideLead new e.1) rows ((r.unit, r.registration) ∷ []) (rows_inside new keeps)
            (lead_stays tables new keeps r.registration (inside_lead tables r.registration unmet.0 unmet.1.0), tt);
        contracts = λ key there. counterparties_stay tables new keeps key (before.contracts key there);
        reallocations = λ key there. reallocation_stays tables new keeps key (before.reallocations key there);
        percents = before.percents;
        meters = λ key there. unit_stays tables new keeps key.unit key.at.date (before.meters key there);
      }

  -- a reading's row, whose unit is effective
  with_meter : (timing : Timing) (r : MeterRow) → first_met (meter_refusals (whole_standing tables) timing r) ≡ None → AreSteady (with_row in_time (row.Meter r) tables) rows
  with_meter timing r accepted =
      let new : Registered = with_row in_time (row.Meter r) tables in
      let unmet : NoneMet (meter_refusals (whole_standing tables) timing r) = none_met (meter_refusals (whole_standing tables) timing r) accepted in
      let keeps : Keeps tables new = record { parties = same_parties tables; units = same_units tables; references = λ reference c found. found } in
      record {
        rising = still_rising (row.Meter r);
        parties = before.parties;
        units = before.units;
        inside = rows_inside new keeps;
        contracts = λ key there. counterparties_stay tables new keeps key (before.contracts key there);
        reallocations = λ key there. reallocation_stays tables new keeps key (before.reallocations key there);
        percents = before.percents;
        meters = keys-put unit_period_total exact_unit_periods (λ key. IsUnitEffective new key.unit key.at.date) r.key r.reading tables.meters
            (unit_stays tables new keeps r.key.unit r.key.at.date (unit_effective tables r.key.unit r.key.at.date unmet.0 unmet.1.0))
            (λ key there. unit_stays tables new keeps key.unit key.at.date (before.meters key there));
      }

  -- a price's row
  with_price : (r : PriceRow) → AreSteady (with_row in_time (row.Price r) tables) rows
  with_price r =
      let new : Registered = with_row in_time (row.Price r) tables in
      let keeps : Keeps tables new = record { parties = same_parties tables; units = same_units tables; references = λ reference c found. found } in
      record {
        rising = still_rising (row.Price r);
        parties = before.parties;
        units = before.units;
        inside = rows_inside new keeps;
        contracts = λ key there. counterparties_stay tables new keeps key (before.contracts key there);
        reallocations = λ key there. reallocation_stays tables new keeps key (before.reallocations key there);
        percents = before.percents;
        meters = λ key there. unit_stays tables new keeps key.unit key.at.date (before.meters key there);
      }

  -- a contract's row with effective counterparties that differ and are those of its reference
  with_contract : (timing : Timing) (r : ContractRow) → first_met (contract_refusals (whole_standing tables) timing r) ≡ None → AreSteady (with_row in_time (row.Contract r) tables) rows
  with_contract timing r accepted =
      let new : Registered = with_row in_time (row.Contract r) tables in
      let unmet : NoneMet (contract_refusals (whole_standing tables) timing r) = none_met (contract_refusals (whole_standing tables) timing r) accepted in
      let c : Counterparties = r.contract.counterparties in
      let known = or_parts (is_none (find bytes_cmp c.seller.party tables.parties)) (is_none (find bytes_cmp c.buyer.party tables.parties)) unmet.0 in
      let on = or_parts (is_party_off (whole_standing tables) c.seller.party r.key.at.date) (is_party_off (whole_standing tables) c.buyer.party r.key.at.date) unmet.1.0 in
      let keeps : Keeps tables new = record { parties = same_parties tables; units = same_units tables; references = stays-put_new bytes_total r.key.reference c tables.references } in
      let own : HasCounterparties new r.key = record {
        counterparties = c;
        fixed = fixed_by_row tables r.key.reference c unmet.1.1.1.1.0;
        different = two_accounts c.seller c.buyer unmet.1.1.1.0;
        seller = party_stays tables new keeps c.seller.party r.key.at.date (party_effective tables c.seller.party r.key.at.date known.0 on.0);
        buyer = party_stays tables new keeps c.buyer.party r.key.at.date (party_effective tables c.buyer.party r.key.at.date known.1 on.1);
      } in
      record {
        rising = still_rising (row.Contract r);
        parties = before.parties;
        units = before.units;
        inside = rows_inside new keeps;
        contracts = keys-put_in_time contract_key_total exact_contract_keys (HasCounterparties new) in_time r.key r.contract.volume tables.contracts own
            (λ key there. counterparties_stay tables new keeps key (before.contracts key there));
        reallocations = λ key there. reallocation_stays tables new keeps key (before.reallocations key there);
        percents = before.percents;
        meters = λ key there. unit_stays tables new keeps key.unit key.at.date (before.meters key there);
      }

  -- a reallocation's row with effective unit and party, that has room if it is in time
  with_reallocation : (timing : Timing) (r : ReallocationRow) → first_met (reallocation_refusals (whole_standing tables) timing r) ≡ None
      → (lacks_period timing ≡ false → comes_in_time timing ≡ in_time) → AreSteady (with_row in_time (row.Reallocation r) tables) rows
  with_reallocation timing r accepted timed =
      let new : Registered = with_row in_time (row.Reallocation r) tables in
      let unmet : NoneMet (reallocation_refusals (whole_standing tables) timing r) = none_met (reallocation_refusals (whole_standing tables) timing r) accepted in
      let unit : List ℕ = r.key.unit_period.unit in
      let date : ℕ = r.key.unit_period.at.date in
      let on = or_parts (is_unit_off (whole_standing tables) unit date) (is_party_off (whole_standing tables) r.key.account.party date) unmet.1.1.0 in
      let keeps : Keeps tables new = record { parties = same_parties tables; units = same_units tables; references = λ reference c found. found } in
      let own : IsOfEffective tables r.key = record {
        unit = unit_effective tables unit date unmet.1.0 on.0;
        party = party_effective tables r.key.account.party date unmet.0 on.1;
      } in
      record {
        rising = still_rising (row.Reallocation r);
        parties = before.parties;
        units = before.units;
        inside = rows_inside new keeps;
        contracts = λ key there. counterparties_stay tables new keeps key (before.contracts key there);
        reallocations = keys-put_in_time reallocation_key_total exact_reallocation_keys (IsOfEffective new) in_time r.key r.reallocation tables.reallocations
            (reallocation_stays tables new keeps r.key own)
            (λ key there. reallocation_stays tables new keeps key (before.reallocations key there));
        percents = percents-put_in_time r.key in_time r.reallocation tables.reallocations before.rising.reallocations
            (λ now. within_limit (comes_in_time timing) hundred_percent (percent_of_others r.key tables.reallocations +ℤ r.reallocation.percent) unmet.1.1.1.1.1.0 (timed unmet.1.1.1.0 ∙ now))
            before.percents;
        meters = λ key there. unit_stays tables new keeps key.unit key.at.date (before.meters key there);
      }

-- an accepted row of any kind leaves them steady
with_accepted : (timetable : Timetable) (moment : ℤ) (r : Row) (tables : Registered) (rows : UnitRows) → AreSteady tables rows
    → first_met (refusals_of (whole_standing tables) (timing_of timetable (accepted_at moment r)) r) ≡ None
    → AreSteady (with_row (is_in_time timetable (accepted_at moment r)) r tables) (rows ++ option_to_list (unit_entry r))
with_accepted timetable moment (row.Unit r) tables rows before accepted = with_unit tables rows before true r accepted
with_accepted timetable moment (row.Party r) tables rows before accepted =
    subst (AreSteady (with_row true (row.Party r) tables)) (sym (append-nil rows)) (with_party tables rows before true r accepted)
with_accepted timetable moment (row.Meter r) tables rows before accepted =
    subst (AreSteady (with_row true (row.Meter r) tables)) (sym (append-nil rows)) (with_meter tables rows before true (timing_of timetable (accepted_at moment (row.Meter r))) r accepted)
with_accepted timetable moment (row.Price r) tables rows before accepted =
    subst (AreSteady (with_row true (row.Price r) tables)) (sym (append-nil rows)) (with_price tables rows before true r)
with_accepted timetable moment (row.Contract r) tables rows before accepted =
    let in_time : Bool = is_before_deadline timetable moment r.key.at in
    subst (AreSteady (with_row in_time (row.Contract r) tables)) (sym (append-nil rows))
    (with_contract tables rows before in_time (timing_of timetable (accepted_at moment (row.Contract r))) r accepted)
with_accepted timetable moment (row.Reallocation r) tables rows before accepted =
    let in_time : Bool = is_before_deadline timetable moment r.key.unit_period.at in
    subst (AreSteady (with_row in_time (row.Reallocation r) tables)) (sym (append-nil rows))
    (with_reallocation tables rows before in_time (timing_of timetable (accepted_at moment (row.Reallocation r))) r accepted
    (in_time_by (is_there timetable.midnight r.key.unit_period.at) in_time))

-- the empty tables are steady
nothing_steady : AreSteady nothing_registered []
nothing_steady = record {
  rising = record { parties = refl; units = refl; references = refl; meters = refl; prices = refl; contracts = refl; reallocations = refl };
  parties = omega arith;
  units = omega arith;
  inside = tt;
  contracts = λ key there. absurd (false_is_not_true there);
  reallocations = λ key there. absurd (false_is_not_true there);
  percents = λ at. (let least : pos 0 ≤ℤ pos 10_000_000 = omega (arith, ints) in least);
  meters = λ key there. absurd (false_is_not_true there);
}

-- the rows of a history are accepted, and what is registered and in force is steady
pub record Stands (timetable : Timetable) (history : History) : Type 0 where
  pub accepted : IsAcceptedBy office_rule timetable history
  pub steady : AreSteady (registered_in timetable history) (entries_of unit_entry history)

nothing_stands : (timetable : Timetable) → Stands timetable []
nothing_stands timetable = record { accepted = no_rows; steady = nothing_steady }

pub stands_with : (timetable : Timetable) (history : History) (a : Accepted) → Stands timetable history → IsRow a.row → refusal_after timetable history a ≡ None
    → Stands timetable (history ++ a ∷ [])
stands_with timetable history a before valued accepted = record {
  accepted = one_more history a before.accepted accepted;
  steady = subst (λ tables. AreSteady tables (entries_of unit_entry (history ++ a ∷ []))) (sym (looks_back timetable history a))
      (subst (AreSteady (with_row (is_in_time timetable a) a.row (registered_in timetable history))) (sym (entries_of-append unit_entry history a))
      (with_accepted timetable a.moment a.row (registered_in timetable history) (entries_of unit_entry history) before.steady accepted));
}

module _ (timetable : Timetable) (history : History) (stands : Stands timetable history) where
  abbrev tables_then : Registered
  tables_then = registered_in timetable history

  -- a unit is led on each of its dates, by the account of the last row that holds the date
  led : (unit : List ℕ) (date : ℕ) → IsUnitEffective tables_then unit date → IsLed tables_then unit date
  led unit date effective =
      elim (last_row_holding history unit date) as (λ o. last_row_holding history unit date ≡ o → is_some o ≡ true → IsLed tables_then unit date) [
        | None ↦ λ is none. absurd (false_is_not_true none)
        | Some e ↦ λ is found.
            let is_on : List ℕ × UnitRegistration → Bool = λ x. eq_by_cmp bytes_cmp unit x.0 && holds x.1.range date in
            let rows : UnitRows = entries_of unit_entry history in
            let row = holds_of_last (λ x. IsInsideLead tables_then x.1 × (is_on x ≡ true)) (filter is_on rows) e
            (all_passing (λ (x : List ℕ × UnitRegistration). IsInsideLead tables_then x.1) is_on rows stands.steady.inside) is in
            let held : holds e.1.range date ≡ true = (and_parts (eq_by_cmp bytes_cmp unit e.0) (holds e.1.range date) row.1).1 in
            record {
              lead = e.1.lead;
              leads = leads_look_back timetable history stands.accepted unit date ∙ ap (option_map (λ x. x.1.lead)) is;
              party = record { registration = row.0.lead; registered = row.0.registered; holding = wider_holds e.1.range row.0.lead.range date row.0.inside held };
            }
      ] refl
      (sym (units_look_back timetable history stands.accepted unit date) ∙ ap (is_some_that (λ (u : UnitRegistration). holds u.range date)) effective.registered ∙ effective.holding)

  -- a reallocation in force is to another account than the one that leads its unit on its date
  to_subsidiary : (key : ReallocationKey) (v : Reallocation) → find reallocation_key_cmp key tables_then.reallocations ≡ Some v → IsOfEffective tables_then key → IsToSubsidiary tables_then key
  to_subsidiary key v found effective = record {
    unit = effective.unit;
    party = effective.party;
    not_lead = by_lead effective.unit.registration.lead
        (registered_lead_on (registered_units tables_then) key.unit_period.unit key.unit_period.at.date)
        (led_by_another_account timetable history stands.accepted key v found);
  }
    where
      by_lead : (last : Account) (o : Option Account) → is_some_that (λ lead. not (is_same_account lead key.account)) o ≡ true → unwrap_or o last ≢ key.account
      by_lead last None another = absurd (false_is_not_true another)
      by_lead last (Some lead) another = two_accounts lead key.account (not-true (is_same_account lead key.account) another)

  -- so all that is registered and in force is consistent
  pub stands_consistent : AreConsistent tables_then
  stands_consistent = record {
    rising = stands.steady.rising;
    parties = stands.steady.parties;
    units = stands.steady.units;
    leads = led;
    contracts = stands.steady.contracts;
    reallocations = λ key there. by_row key (find reallocation_key_cmp key tables_then.reallocations) refl there;
    percents = stands.steady.percents;
    meters = stands.steady.meters;
  }
    where
      by_row : (key : ReallocationKey) (o : Option Reallocation) → find reallocation_key_cmp key tables_then.reallocations ≡ o → is_some o ≡ true → IsToSubsidiary tables_then key
      by_row key None found there = absurd (false_is_not_true there)
      by_row key (Some v) found there = to_subsidiary key v found (stands.steady.reallocations key (ap is_some found))

-- in each reached state, what is registered and in force is consistent
pub reached_stands : (midnight : Midnights) (s : State) → IsReached midnight s → Stands (timetable_at midnight s) s.history
reached_stands = reached_holds Stands nothing_stands stands_with

pub reached_consistent : ConsistentStates
reached_consistent midnight s reached = stands_consistent (timetable_at midnight s) s.history (reached_stands midnight s reached)

-- and it was when each run was ordered
pub runs_consistent : (midnight : Midnights) (s : State) → IsReached midnight s
    → AllByRecursion (λ r. AreConsistent (seen_by (timetable_at midnight s) s.history r)) s.runs
runs_consistent midnight s reached =
    let timetable : Timetable = timetable_at midnight s in
    all-weaken (λ (r : Run). Stands timetable (take r.row_count s.history)) (λ r. AreConsistent (seen_by timetable s.history r))
    (λ r stands. stands_consistent timetable (take r.row_count s.history) stands) s.runs (runs_hold Stands nothing_stands stands_with midnight s reached)
