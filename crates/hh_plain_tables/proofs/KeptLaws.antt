-- What a load puts into each of the tables of what is registered and in force.
use Rattle.std.proofs.Common.{◌≡◌, ◌<◌, ◌+◌, ℕ, List, [], ◌∷◌, ◌++◌, get_or, length, take, refl, sym, ap, ◌∙◌}
use Rattle.std.specs.Prelude.{filter_map, unwrap_or}
use Rattle.std.proofs.lemmas.List.{take_more}
use Rattle.hh_tables.specs.Tables.{put_all}
use Rattle.hh_names.specs.Accounts.{bytes_cmp}
use Rattle.hh_rows.specs.Keys.{contract_key_cmp, reallocation_key_cmp, settlement_period_cmp, unit_period_cmp}
use Rattle.hh_rows.specs.declared.rows.Row.{Row}
use Rattle.hh_rows.specs.declared.rows.Row.TheVariants as row
use Rattle.hh_rows.specs.declared.rows.UnitRegistration.{UnitRegistration}
use Rattle.hh_registrations.specs.Registrations.{RegistrationsView, with_unit_row}
use Rattle.hh_rules.specs.Entries.{contract_entry, meter_entry, party_entry, price_entry, reallocation_entry, unit_entry}
use Rattle.hh_rules.specs.History.{Registered}
use Rattle.hh_rules.specs.Leads.{registered_units}
use Rattle.hh_states.specs.Changes.{LoadChangeView, leads_through, put_row, put_rows, registered_with, units_through}
use Rattle.hh_plain_tables.specs.declared.changed_tables.ChangedTables.{ChangedTables}
use Rattle.hh_plain_tables.specs.steps.KeptTables.{after_units, with_changed}

-- the tables, with the entries of the rows put into each
abbrev by_table : List Row → Registered → Registered
by_table rows tables = record {
  parties = put_all bytes_cmp (filter_map party_entry rows) tables.parties;
  units = tables.units;
  leads = tables.leads;
  references = tables.references;
  meters = put_all unit_period_cmp (filter_map meter_entry rows) tables.meters;
  prices = put_all settlement_period_cmp (filter_map price_entry rows) tables.prices;
  contracts = put_all contract_key_cmp (filter_map contract_entry rows) tables.contracts;
  reallocations = put_all reallocation_key_cmp (filter_map reallocation_entry rows) tables.reallocations;
}

-- putting in one row after another puts their entries into each table
put_rows_by_table : (rows : List Row) (tables : Registered) → put_rows rows tables ≡ by_table rows tables
put_rows_by_table [] tables = refl
put_rows_by_table (row.Party r ∷ rows) tables = put_rows_by_table rows (put_row (row.Party r) tables)
put_rows_by_table (row.Unit r ∷ rows) tables = put_rows_by_table rows (put_row (row.Unit r) tables)
put_rows_by_table (row.Meter r ∷ rows) tables = put_rows_by_table rows (put_row (row.Meter r) tables)
put_rows_by_table (row.Price r ∷ rows) tables = put_rows_by_table rows (put_row (row.Price r) tables)
put_rows_by_table (row.Contract r ∷ rows) tables = put_rows_by_table rows (put_row (row.Contract r) tables)
put_rows_by_table (row.Reallocation r ∷ rows) tables = put_rows_by_table rows (put_row (row.Reallocation r) tables)

-- what is registered of units after rows is what it is after the rows of units among them
through_units : (rows : List Row) (registered : RegistrationsView)
    → after_units (filter_map unit_entry rows) registered ≡ record { units = units_through rows registered.units; leads = leads_through rows registered.leads }
through_units [] registered = refl
through_units (row.Party r ∷ rows) registered = through_units rows registered
through_units (row.Unit r ∷ rows) registered = through_units rows (with_unit_row r registered)
through_units (row.Meter r ∷ rows) registered = through_units rows registered
through_units (row.Price r ∷ rows) registered = through_units rows registered
through_units (row.Contract r ∷ rows) registered = through_units rows registered
through_units (row.Reallocation r ∷ rows) registered = through_units rows registered

-- one more row of units
after_units-append : (units : List (List ℕ × UnitRegistration)) (u : List ℕ × UnitRegistration) (registered : RegistrationsView)
    → after_units (units ++ u ∷ []) registered ≡ with_unit_row (record { unit = u.0; registration = u.1 }) (after_units units registered)
after_units-append [] u registered = refl
after_units-append (x ∷ units) u registered = after_units-append units u (with_unit_row (record { unit = x.0; registration = x.1 }) registered)

-- what is registered of units after the rows so far, and one more
pub one_more_unit : (units : List (List ℕ × UnitRegistration)) (i : ℕ) (u : List ℕ × UnitRegistration) → i < length units → u ≡ get_or units i u
    → (registered before after : RegistrationsView) → before ≡ after_units (take i units) registered → after ≡ with_unit_row (record { unit = u.0; registration = u.1 }) before
    → after ≡ after_units (take (i + 1) units) registered
one_more_unit units i u inside at registered before after so_far is =
    is ∙ ap (with_unit_row (record { unit = u.0; registration = u.1 })) so_far
    ∙ sym (after_units-append (take i units) u registered)
    ∙ ap (λ us. after_units us registered) (ap (λ e. take i units ++ e ∷ []) at ∙ sym (take_more units i u inside))

-- taking over the tables that were made anew gives the tables after the load
pub changed_with : (w : LoadChangeView) (tables : Registered) (changed : ChangedTables)
    → unwrap_or changed.parties tables.parties ≡ put_all bytes_cmp (filter_map party_entry w.rows) tables.parties
    → unwrap_or changed.units (registered_units tables) ≡ after_units (filter_map unit_entry w.rows) (registered_units tables)
    → unwrap_or changed.references tables.references ≡ put_all bytes_cmp w.references tables.references
    → unwrap_or changed.meters tables.meters ≡ put_all unit_period_cmp (filter_map meter_entry w.rows) tables.meters
    → unwrap_or changed.prices tables.prices ≡ put_all settlement_period_cmp (filter_map price_entry w.rows) tables.prices
    → unwrap_or changed.contracts tables.contracts ≡ put_all contract_key_cmp (filter_map contract_entry w.rows) tables.contracts
    → unwrap_or changed.reallocations tables.reallocations ≡ put_all reallocation_key_cmp (filter_map reallocation_entry w.rows) tables.reallocations
    → with_changed changed tables ≡ registered_with w tables
changed_with w tables changed parties units references meters prices contracts reallocations =
    (λ i. record {
      parties = parties i;
      units = ((units ∙ through_units w.rows (registered_units tables)) i).units;
      leads = ((units ∙ through_units w.rows (registered_units tables)) i).leads;
      references = references i;
      meters = meters i;
      prices = prices i;
      contracts = contracts i;
      reallocations = reallocations i;
    })
    ∙ ap (λ (t : Registered). record t {
      references = put_all bytes_cmp w.references tables.references;
      units = units_through w.rows tables.units;
      leads = leads_through w.rows tables.leads;
    }) (sym (put_rows_by_table w.rows tables))
