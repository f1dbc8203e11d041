-- What contracts see of a register in memory, and when a part of a register serves for some rows.
use Rattle.std.specs.Prelude.{◌≡◌, ℕ, ℤ, List, ◌∷◌, filter, All, Bool, Option, Some, None, Result, Ok, Err, if◌then◌else◌}
use Rattle.std.specs.FinMap.{find, put}
use Rattle.std.specs.Ordering.{eq_by_cmp}
use Rattle.jiff.specs.declared.tz.timezone.TimeZone.{TimeZone}
use Rattle.jiff.specs.Words.{plain_zone}
use Rattle.hh_tables.specs.Tables.{Table, IsTable}
use Rattle.hh_names.specs.Accounts.{bytes_cmp}
use Rattle.hh_names.specs.Faults.{first_met, plain_fault, IsLeast}
use Rattle.hh_names.specs.declared.fault.Fault.{Fault}
use Rattle.hh_names.specs.declared.fault.Refusal.{Refusal}
use Rattle.hh_names.specs.declared.fault.Refusal.TheVariants.{OverHundred}
use Rattle.hh_rows.specs.Keys.{contract_key_cmp, reallocation_key_cmp, settlement_period_cmp, unit_period_cmp}
use Rattle.hh_rows.specs.declared.keys.ContractKey.{ContractKey}
use Rattle.hh_rows.specs.declared.keys.UnitPeriod.{UnitPeriod}
use Rattle.hh_rows.specs.declared.keys.ReallocationKey.{ReallocationKey}
use Rattle.hh_rows.specs.declared.settlement_period.SettlementPeriod.{SettlementPeriod}
use Rattle.hh_rows.specs.declared.rows.PartyRegistration.{PartyRegistration}
use Rattle.hh_rows.specs.declared.rows.UnitRegistration.{UnitRegistration}
use Rattle.hh_names.specs.declared.values.Counterparties.{Counterparties}
use Rattle.hh_names.specs.declared.values.Reading.{Reading}
use Rattle.hh_names.specs.declared.values.Reallocation.{Reallocation}
use Rattle.hh_rows.specs.declared.rows.Row.{Row}
use Rattle.hh_rows.specs.declared.rows.Row.TheVariants as row
use Rattle.hh_rows.specs.Zone.{midnight_in}
use Rattle.hh_rules.specs.declared.row_done.RowDone.{RowDone}
use Rattle.hh_rules.specs.Effects.{IsOneMoreRow, fixes_reference, row_done, standing_with}
use Rattle.hh_rules.specs.History.{Leads, Registered, nothing_registered}
use Rattle.hh_rules.specs.Lateness.{Timetable, accepted_at, is_in_time, timing_of}
use Rattle.hh_rules.specs.Refusals.{Standing, passes_hundred, refusals_of}

-- what rows are judged by, and how many minutes before their period notifications close
pub record RegisterView : Type 0 where
  pub lead_minutes : ℕ
  pub standing : Standing

-- the register in which nothing is registered or in force
abbrev pub empty_register : ℕ → RegisterView
empty_register lead_minutes = record {
  lead_minutes = lead_minutes;
  standing = record {
    tables = nothing_registered;
    party_count = 0;
    unit_count = 0;
  };
}

-- the register that counts so many parties and units, and holds none of them
abbrev pub empty_part : ℕ → ℕ → ℕ → RegisterView
empty_part lead_minutes party_count unit_count = record (empty_register lead_minutes) {
  standing = record (empty_register lead_minutes).standing { party_count = party_count; unit_count = unit_count };
}

-- what is registered and in force in a register
abbrev pub tables_in : RegisterView → Registered
tables_in register = register.standing.tables

-- the local midnights of a zone, with the minutes by which notifications close before a period
abbrev pub timetable_in : TimeZone → ℕ → Timetable
timetable_in zone lead_minutes = record { midnight = midnight_in (plain_zone zone); lead_minutes = lead_minutes }

-- the timetable by which a register judges rows
abbrev pub timetable_of : TimeZone → RegisterView → Timetable
timetable_of zone register = timetable_in zone register.lead_minutes

-- the answer to a row: a refusal, if there is a reason for one
abbrev pub judged : Option Refusal → Result (Unit {0}) Fault
judged None = Ok tt
judged (Some r) = Err (plain_fault r)

-- the register after one more row that is in time or not
abbrev pub after_row : Bool → Row → RegisterView → RegisterView
after_row in_time r register = record register { standing = standing_with in_time r register.standing }

-- the register with other tables
abbrev pub with_tables : Registered → RegisterView → RegisterView
with_tables tables register = record register { standing = record register.standing { tables = tables } }

-- Registers after they hold one thing more. It replaces what was held under its key, and counts no party or unit.
module _ (register : RegisterView) where
  abbrev pub holding_party : List ℕ → PartyRegistration → RegisterView
  holding_party party registration =
      with_tables (record (tables_in register) { parties = put bytes_cmp party registration (tables_in register).parties }) register

  abbrev pub holding_unit : List ℕ → UnitRegistration → RegisterView
  holding_unit unit registration =
      with_tables (record (tables_in register) { units = put bytes_cmp unit registration (tables_in register).units }) register

  abbrev pub holding_leads : Leads → RegisterView
  holding_leads leads = with_tables (record (tables_in register) { leads = leads }) register

  abbrev pub holding_reference : List ℕ → Counterparties → RegisterView
  holding_reference reference counterparties =
      with_tables (record (tables_in register) { references = put bytes_cmp reference counterparties (tables_in register).references }) register

  abbrev pub holding_reading : UnitPeriod → Reading → RegisterView
  holding_reading key reading =
      with_tables (record (tables_in register) { meters = put unit_period_cmp key reading (tables_in register).meters }) register

  abbrev pub holding_price : SettlementPeriod → ℤ → RegisterView
  holding_price at price =
      with_tables (record (tables_in register) { prices = put settlement_period_cmp at price (tables_in register).prices }) register

  abbrev pub holding_contract : ContractKey → ℤ → RegisterView
  holding_contract key volume =
      with_tables (record (tables_in register) { contracts = put contract_key_cmp key volume (tables_in register).contracts }) register

  abbrev pub holding_reallocation : ReallocationKey → Reallocation → RegisterView
  holding_reallocation key reallocation =
      with_tables (record (tables_in register) { reallocations = put reallocation_key_cmp key reallocation (tables_in register).reallocations }) register

  -- the answer to a reallocation to be held: refused if more than 100 percent of a unit would be in force
  abbrev pub held_reallocation : ReallocationKey → Reallocation → Result (Unit {0}) Fault
  held_reallocation key reallocation =
      if passes_hundred register.standing (record { key = key; reallocation = reallocation }) then Err (plain_fault OverHundred) else Ok tt

-- for a row that comes to a register at a moment
module _ (zone : TimeZone) (register : RegisterView) (moment : ℤ) (r : Row) where
  -- whether the row comes in time
  abbrev pub in_time_at : Bool
  in_time_at = is_in_time (timetable_of zone register) (accepted_at moment r)

  -- the row's refusals with their conditions
  abbrev pub refusals_at : List (Refusal × Bool)
  refusals_at = refusals_of register.standing (timing_of (timetable_of zone register) (accepted_at moment r)) r

  -- why the row is refused, if it is
  abbrev pub refusal_at : Option Refusal
  refusal_at = first_met refusals_at

  -- the answer to the row
  abbrev pub judged_at : Result (Unit {0}) Fault
  judged_at = judged refusal_at

  -- no refusal of the row whose condition is met has a lesser number than this one
  abbrev pub IsLeastRefusal : Refusal → Type 0
  IsLeastRefusal why = IsLeast why refusals_at

  -- no refusal of the row whose condition is met has a lesser number than the fault's
  abbrev pub IsLeastFault : Fault → Type 0
  IsLeastFault fault = IsLeastRefusal fault.refusal

  -- what becomes of the row, if it is accepted
  abbrev pub done_at : RowDone
  done_at = row_done in_time_at (fixes_reference (tables_in register) r)

  -- the register after the row, if it is accepted
  abbrev pub register_after : RegisterView
  register_after = after_row in_time_at r register

  -- what an accepted row changes in the register, and what becomes of the row
  abbrev pub AddsOneRow : RegisterView → RowDone → Type 0
  AddsOneRow new done =
      IsOneMoreRow (timetable_of zone register) (accepted_at moment r) register.standing new.standing done

-- the reallocations in force of a unit in a Settlement Period
abbrev pub reallocations_at : Registered → UnitPeriod → Table ReallocationKey Reallocation
reallocations_at tables at = filter (λ e. eq_by_cmp unit_period_cmp e.0.unit_period at) tables.reallocations

-- the reallocations in force of a unit, in all Settlement Periods
abbrev pub reallocations_of : Registered → List ℕ → Table ReallocationKey Reallocation
reallocations_of tables unit = filter (λ e. eq_by_cmp bytes_cmp e.0.unit_period.unit unit) tables.reallocations

-- both registers have the same for a party
abbrev pub AgreesOnParty : Registered → Registered → List ℕ → Type 0
AgreesOnParty whole part party = find bytes_cmp party part.parties ≡ find bytes_cmp party whole.parties

-- both registers have the same for a unit
abbrev pub AgreesOnUnit : Registered → Registered → List ℕ → Type 0
AgreesOnUnit whole part unit = find bytes_cmp unit part.units ≡ find bytes_cmp unit whole.units

-- both registers have the same for a reference
abbrev pub AgreesOnReference : Registered → Registered → List ℕ → Type 0
AgreesOnReference whole part reference =
    find bytes_cmp reference part.references ≡ find bytes_cmp reference whole.references

-- both registers have the same registrations of units
abbrev pub AgreesOnLeads : Registered → Registered → Type 0
AgreesOnLeads whole part = part.leads ≡ whole.leads

-- The part has the same as the whole for all that the row is judged by, and for the row in force of its key. For a row that names a
-- unit it has the registrations of all units, and for a row of units the unit's reallocations in force.
abbrev pub AgreesOn : Registered → Registered → Row → Type 0
AgreesOn whole part (row.Party r) = AgreesOnParty whole part r.party
AgreesOn whole part (row.Unit r) =
    AgreesOnParty whole part r.registration.lead.party
    × AgreesOnUnit whole part r.unit
    × (reallocations_of part r.unit ≡ reallocations_of whole r.unit)
    × AgreesOnLeads whole part
AgreesOn whole part (row.Meter r) =
    AgreesOnUnit whole part r.key.unit
    × (find unit_period_cmp r.key part.meters ≡ find unit_period_cmp r.key whole.meters)
    × AgreesOnLeads whole part
AgreesOn whole part (row.Price r) =
    find settlement_period_cmp r.at part.prices ≡ find settlement_period_cmp r.at whole.prices
AgreesOn whole part (row.Contract r) =
    AgreesOnParty whole part r.contract.counterparties.seller.party
    × AgreesOnParty whole part r.contract.counterparties.buyer.party
    × AgreesOnReference whole part r.key.reference
    × (find contract_key_cmp r.key part.contracts ≡ find contract_key_cmp r.key whole.contracts)
AgreesOn whole part (row.Reallocation r) =
    AgreesOnParty whole part r.key.account.party
    × AgreesOnUnit whole part r.key.unit_period.unit
    × (reallocations_at part r.key.unit_period ≡ reallocations_at whole r.key.unit_period)
    × AgreesOnLeads whole part

-- A part serves for some rows: notifications close when the whole's do, and it counts all parties and units. It has all that the
-- rows are judged by, and the rows in force of their keys.
pub record ServesFor (rows : List Row) (whole part : RegisterView) : Type 0 where
  pub rising : IsTable reallocation_key_cmp (tables_in whole).reallocations
  pub part_rising : IsTable reallocation_key_cmp (tables_in part).reallocations
  pub lead_minutes : part.lead_minutes ≡ whole.lead_minutes
  pub parties : part.standing.party_count ≡ whole.standing.party_count
  pub units : part.standing.unit_count ≡ whole.standing.unit_count
  pub agrees : All (AgreesOn whole.standing.tables part.standing.tables) rows

-- the answer to a row is that of each whole register for which this one serves for the row
abbrev pub JudgesAsWhole : TimeZone → RegisterView → ℤ → Row → Result (Unit {0}) Fault → Type 0
JudgesAsWhole zone register moment r answer =
    (whole : RegisterView) (rows : List Row) → ServesFor (r ∷ rows) whole register → answer ≡ judged_at zone whole moment r

-- after a row that both accept, a part that served for it and for more rows serves for the others
abbrev pub ServesAfter : TimeZone → RegisterView → ℤ → Row → RegisterView → Type 0
ServesAfter zone old moment r new =
    (whole : RegisterView) (rows : List Row) → ServesFor (r ∷ rows) whole old
    → ServesFor rows (register_after zone whole moment r) new
