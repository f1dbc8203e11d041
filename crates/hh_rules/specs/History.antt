-- The history of accepted rows, and what is registered and in force by looking back over it.
use Rattle.std.specs.Prelude.{ℕ, ℤ, List, [], ◌∷◌, filter, filter_map, Option}
use Rattle.hh_tables.specs.Tables.{Table, table_of_last, table_of_first}
use Rattle.hh_names.specs.Accounts.{bytes_cmp}
use Rattle.hh_rows.specs.Keys.{settlement_period_cmp, unit_period_cmp, contract_key_cmp, reallocation_key_cmp}
use Rattle.hh_rows.specs.declared.keys.UnitPeriod.{UnitPeriod}
use Rattle.hh_rows.specs.declared.keys.ContractKey.{ContractKey}
use Rattle.hh_rows.specs.declared.keys.ReallocationKey.{ReallocationKey}
use Rattle.hh_rows.specs.declared.settlement_period.SettlementPeriod.{SettlementPeriod}
use Rattle.hh_rows.specs.declared.rows.Row.{Row}
use Rattle.hh_rows.specs.declared.rows.PartyRegistration.{PartyRegistration}
use Rattle.hh_rows.specs.declared.rows.UnitRegistration.{UnitRegistration}
use Rattle.hh_names.specs.declared.values.Reading.{Reading}
use Rattle.hh_names.specs.declared.values.Counterparties.{Counterparties}
use Rattle.hh_names.specs.declared.values.Reallocation.{Reallocation}
pub use Rattle.hh_registrations.specs.Registrations.{Leads, leads_with_row, units_with_row}
use Rattle.hh_rules.specs.Entries.{party_entry, reference_entry, meter_entry, price_entry, contract_entry, reallocation_entry}
use Rattle.hh_rules.specs.Lateness.{Timetable, Accepted, is_in_time}

-- all accepted rows, in the order of acceptance
abbrev pub History : Type 0
History = List Accepted

-- what is registered and in force, in eight tables; `leads` are the registrations of units
pub record Registered : Type 0 where
  pub parties : Table (List ℕ) PartyRegistration
  pub units : Table (List ℕ) UnitRegistration
  pub leads : Leads
  pub references : Table (List ℕ) Counterparties
  pub meters : Table UnitPeriod Reading
  pub prices : Table SettlementPeriod ℤ
  pub contracts : Table ContractKey ℤ
  pub reallocations : Table ReallocationKey Reallocation

-- nothing is registered or in force
abbrev pub nothing_registered : Registered
nothing_registered = record { parties = []; units = []; leads = []; references = []; meters = []; prices = []; contracts = []; reallocations = [] }

-- what the rows of a history put into one table, in the order of acceptance
abbrev pub entries_of : {K V : Type 0} → (Row → Option (K × V)) → History → List (K × V)
entries_of entry history = filter_map (λ a. entry a.row) history

-- what the rows of a history make of what is registered of each unit, one after the other
abbrev pub units_from : Table (List ℕ) UnitRegistration → History → Table (List ℕ) UnitRegistration
units_from units [] = units
units_from units (a ∷ rows) = units_from (units_with_row a.row units) rows

-- what the rows of a history make of the registrations of units, one after the other
abbrev pub leads_from : Leads → History → Leads
leads_from leads [] = leads
leads_from leads (a ∷ rows) = leads_from (leads_with_row a.row leads) rows

-- A party, a reading and a price come from the last row of their key. A unit's rows make its whole range and its registrations,
-- one after the other. A reference's seller and buyer come from its first row, late or not. Of the contract and reallocation rows
-- of a key that are in time, the last is in force.
abbrev pub registered_in : Timetable → History → Registered
registered_in timetable history =
    let in_time : History = filter (is_in_time timetable) history in
    record {
      parties = table_of_last bytes_cmp (entries_of party_entry history);
      units = units_from [] history;
      leads = leads_from [] history;
      references = table_of_first bytes_cmp (entries_of reference_entry history);
      meters = table_of_last unit_period_cmp (entries_of meter_entry history);
      prices = table_of_last settlement_period_cmp (entries_of price_entry history);
      contracts = table_of_last contract_key_cmp (entries_of contract_entry in_time);
      reallocations = table_of_last reallocation_key_cmp (entries_of reallocation_entry in_time);
    }
