-- What an accepted row changes.
use Rattle.std.specs.Prelude.{◌≡◌, ℕ, ◌+◌, List, [], ◌∷◌, ◌++◌, Bool, true, false, Option, Some, None, is_none, is_some, if◌then◌else◌}
use Rattle.std.specs.declared.cmp.Ordering.{Ordering}
use Rattle.std.specs.FinMap.{find, put}
use Rattle.std.specs.Ordering.{eq_by_cmp}
use Rattle.hh_tables.specs.Tables.{Table}
use Rattle.hh_names.specs.Accounts.{bytes_cmp}
use Rattle.hh_rows.specs.Keys.{contract_key_cmp, reallocation_key_cmp, settlement_period_cmp, unit_period_cmp}
use Rattle.hh_rows.specs.declared.rows.ContractRow.{ContractRow}
use Rattle.hh_rows.specs.declared.rows.MeterRow.{MeterRow}
use Rattle.hh_rows.specs.declared.rows.PriceRow.{PriceRow}
use Rattle.hh_rows.specs.declared.rows.ReallocationRow.{ReallocationRow}
use Rattle.hh_rows.specs.declared.rows.Row.{Row}
use Rattle.hh_rows.specs.declared.rows.Row.TheVariants as row
use Rattle.hh_rules.specs.declared.row_done.RowDone.{RowDone}
use Rattle.hh_rules.specs.declared.row_done.RowDone.TheVariants.{Applied, Late}
use Rattle.hh_rules.specs.Entries.{party_entry, unit_entry, reference_entry, meter_entry, price_entry, contract_entry, reallocation_entry}
use Rattle.hh_rules.specs.History.{History, Registered, leads_with_row, registered_in, units_with_row}
use Rattle.hh_rules.specs.Lateness.{Timetable, Accepted}
use Rattle.hh_rules.specs.Refusals.{Standing, whole_standing}

-- whether a row is the first of its reference, and so fixes its seller and buyer
abbrev pub fixes_reference : Registered → Row → Bool
fixes_reference tables (row.Contract r) = is_none (find bytes_cmp r.key.reference tables.references)
fixes_reference tables _ = false

-- what becomes of an accepted row that is in time or not, and that fixes its reference or not
abbrev pub row_done : Bool → Bool → RowDone
row_done in_time fixes = if in_time then Applied fixes else Late fixes

-- the table with an entry, if there is one, replacing the entry of its key
abbrev pub put_entry : {K V : Type 0} → (K → K → Ordering) → Option (K × V) → Table K V → Table K V
put_entry R None table = table
put_entry R (Some e) table = put R e.0 e.1 table

-- the table with an entry, unless its key is there already
abbrev pub put_new : {K V : Type 0} → (K → K → Ordering) → Option (K × V) → Table K V → Table K V
put_new R None table = table
put_new R (Some e) table = if is_some (find R e.0 table) then table else put R e.0 e.1 table

-- the table with an entry, if its row is in time, replacing the entry of its key
abbrev pub put_in_time : {K V : Type 0} → (K → K → Ordering) → Bool → Option (K × V) → Table K V → Table K V
put_in_time R in_time None table = table
put_in_time R in_time (Some e) table = if in_time then put R e.0 e.1 table else table

-- one more, if there is an entry with a new key
abbrev pub count_new : {K V : Type 0} → (K → K → Ordering) → Option (K × V) → Table K V → ℕ → ℕ
count_new R None table count = count
count_new R (Some e) table count = if is_some (find R e.0 table) then count else count + 1

-- What is registered and in force after one more row: its entries replace those of their keys, and a row of units widens its unit's
-- range and changes its registrations. A contract or reallocation row that is late is not in force, but a contract row fixes its reference if that is new, also if the row is late.
abbrev pub with_row : Bool → Row → Registered → Registered
with_row in_time r tables = record {
  parties = put_entry bytes_cmp (party_entry r) tables.parties;
  units = units_with_row r tables.units;
  leads = leads_with_row r tables.leads;
  references = put_new bytes_cmp (reference_entry r) tables.references;
  meters = put_entry unit_period_cmp (meter_entry r) tables.meters;
  prices = put_entry settlement_period_cmp (price_entry r) tables.prices;
  contracts = put_in_time contract_key_cmp in_time (contract_entry r) tables.contracts;
  reallocations = put_in_time reallocation_key_cmp in_time (reallocation_entry r) tables.reallocations;
}

-- what rows are judged by, after one more row
abbrev pub standing_with : Bool → Row → Standing → Standing
standing_with in_time r standing = record {
  tables = with_row in_time r standing.tables;
  party_count = count_new bytes_cmp (party_entry r) standing.tables.parties standing.party_count;
  unit_count = count_new bytes_cmp (unit_entry r) standing.tables.units standing.unit_count;
}

-- no row in force changes; references are not rows in force
pub record KeepsRowsInForce (old new : Registered) : Type 0 where
  pub parties : new.parties ≡ old.parties
  pub units : new.units ≡ old.units
  pub leads : new.leads ≡ old.leads
  pub meters : new.meters ≡ old.meters
  pub prices : new.prices ≡ old.prices
  pub contracts : new.contracts ≡ old.contracts
  pub reallocations : new.reallocations ≡ old.reallocations

-- the key has this row, and each other key has what it had
abbrev pub ReplacesRowOf : {K V : Type 0} → (K → K → Ordering) → K → V → Table K V → Table K V → Type 0
ReplacesRowOf {K} R key value old new =
    (other : K) → find R other new ≡ (if eq_by_cmp R other key then Some value else find R other old)

-- each reference that has a seller and a buyer keeps them
abbrev pub KeepsReferences : Registered → Registered → Type 0
KeepsReferences old new = (reference : List ℕ) → is_some (find bytes_cmp reference old.references) ≡ true
    → find bytes_cmp reference new.references ≡ find bytes_cmp reference old.references

-- what an accepted row changes, by what became of it
pub record IsOneMoreRow (timetable : Timetable) (a : Accepted) (old new : Standing) (done : RowDone) : Type 0 where
  -- a late row changes no row in force
  pub late : (fixes : Bool) → done ≡ Late fixes → KeepsRowsInForce old.tables new.tables
  -- a row in time replaces exactly the row of its key; readings and prices are never late
  pub meter : (r : MeterRow) → a.row ≡ row.Meter r
      → ReplacesRowOf unit_period_cmp r.key r.reading old.tables.meters new.tables.meters
  pub price : (r : PriceRow) → a.row ≡ row.Price r
      → ReplacesRowOf settlement_period_cmp r.at r.price old.tables.prices new.tables.prices
  pub contract : (r : ContractRow) → a.row ≡ row.Contract r → (fixes : Bool) → done ≡ Applied fixes
      → ReplacesRowOf contract_key_cmp r.key r.contract.volume old.tables.contracts new.tables.contracts
  pub reallocation : (r : ReallocationRow) → a.row ≡ row.Reallocation r → (fixes : Bool) → done ≡ Applied fixes
      → ReplacesRowOf reallocation_key_cmp r.key r.reallocation old.tables.reallocations new.tables.reallocations
  -- the first row of a reference fixes its seller and buyer, even if it is late, and no row changes them
  pub fixes : (r : ContractRow) → a.row ≡ row.Contract r → find bytes_cmp r.key.reference old.tables.references ≡ None
      → find bytes_cmp r.key.reference new.tables.references ≡ Some r.contract.counterparties
  pub keeps : KeepsReferences old.tables new.tables
  -- what looking back over a history gives becomes what looking back over the history with this row gives
  pub looks_back : (history : History) → old ≡ whole_standing (registered_in timetable history)
      → new ≡ whole_standing (registered_in timetable (history ++ a ∷ []))
