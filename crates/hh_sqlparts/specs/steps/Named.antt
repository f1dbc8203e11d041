-- What rows name in each table, and what is read from it by the names.
use Rattle.std.specs.Prelude.{◌≡◌, ℕ, ℤ, List, [], ◌∷◌, true, Option, Some, None, option_map, filter, All}
use Rattle.std.specs.BTreeMap.{is_at}
use Rattle.std.specs.FinMap.{find}
use Rattle.std.specs.List.{flat_map, list_any}
use Rattle.std.specs.Option.{IfSome}
use Rattle.std.specs.Ordering.{is_eq, nat_cmp}
use Rattle.std.specs.declared.cmp.Ordering.{Ordering}
use Rattle.hh_tables.specs.Tables.{Table, put_all}
use Rattle.hh_names.specs.Accounts.{bytes_cmp}
use Rattle.hh_names.specs.declared.values.Reading.{Reading}
use Rattle.hh_names.specs.declared.values.Reallocation.{Reallocation}
use Rattle.hh_rows.specs.declared.keys.ContractKey.{ContractKey}
use Rattle.hh_rows.specs.declared.keys.ReallocationKey.{ReallocationKey}
use Rattle.hh_rows.specs.declared.keys.UnitPeriod.{UnitPeriod}
use Rattle.hh_rows.specs.declared.settlement_period.SettlementPeriod.{SettlementPeriod}
use Rattle.hh_rows.specs.declared.rows.Row.{Row}
use Rattle.hh_rows.specs.declared.rows.Row.TheVariants as row
use Rattle.hh_sqlrows.specs.OfficeTables.{is_of_unit_on}
pub use Rattle.hh_sqlrows.specs.Forms.{entry_under, found_entry}
use Rattle.hh_sqlrows.specs.declared.unit_date.UnitDate.{UnitDate}

-- ---- what a row is judged by in each table; a row of another kind needs nothing from it

-- the reference of a contract row
abbrev pub reference_of : Row → Option (List ℕ)
reference_of (row.Contract r) = Some r.key.reference
reference_of _ = None

-- the key of a contract row, under which the volume in force is found
abbrev pub volume_key_of : Row → Option ContractKey
volume_key_of (row.Contract r) = Some r.key
volume_key_of _ = None

-- the key of a meter row, under which its reading is found
abbrev pub reading_key_of : Row → Option UnitPeriod
reading_key_of (row.Meter r) = Some r.key
reading_key_of _ = None

-- the Settlement Period of a price row, under which its price is found
abbrev pub price_key_of : Row → Option SettlementPeriod
price_key_of (row.Price r) = Some r.at
price_key_of _ = None

-- the unit of a reallocation row and of a row of units, for which its reallocations are found
abbrev pub unit_of : Row → Option (List ℕ)
unit_of (row.Reallocation r) = Some r.key.unit_period.unit
unit_of (row.Unit r) = Some r.unit
unit_of _ = None

-- ---- the names by which these are read

-- the unit and the date of a key
abbrev pub unit_day : UnitPeriod → UnitDate
unit_day key = record { unit = key.unit; date = key.at.date }

abbrev pub unit_day_of : Row → Option UnitDate
unit_day_of r = option_map unit_day (reading_key_of r)

abbrev pub date_of : Row → Option ℕ
date_of r = option_map (λ at. at.date) (price_key_of r)

-- what a row names, if it names anything, is in the list
abbrev pub IsAmong : {N : Type 0} → (N → N → Ordering) → (Row → Option N) → List N → Row → Type 0
IsAmong R name names r = IfSome (name r) (λ n. list_any (is_at (R n)) names ≡ true)

-- ---- what is read by a name

-- The part has what a table has under some names, and the name of each row is one of them.
abbrev pub IsByNames : {K V N : Type 0} → (K → K → Ordering) → (N → N → Ordering) → (Row → Option N) → (N → List (K × V)) → List Row → Table K V → Type 0
IsByNames {K} {V} {N} R C name_of selected rows part = (names : List N) × All (IsAmong C name_of names) rows × (part ≡ put_all R (flat_map selected names) [])

-- the readings of a unit on a date
abbrev pub readings_of : Table UnitPeriod Reading → UnitDate → Table UnitPeriod Reading
readings_of es n = filter (λ e. is_of_unit_on n.unit n.date e.0) es

-- the prices of a date
abbrev pub prices_of : Table SettlementPeriod ℤ → ℕ → Table SettlementPeriod ℤ
prices_of es date = filter (λ e. is_eq (nat_cmp e.0.date date)) es

-- the reallocations of a unit
abbrev pub reallocations_of : Table ReallocationKey Reallocation → List ℕ → Table ReallocationKey Reallocation
reallocations_of es unit = filter (λ e. is_eq (bytes_cmp e.0.unit_period.unit unit)) es

-- ---- what a part of a table has

-- under the keys of rows, the part has what the whole has
abbrev pub FindsNamed : {K V : Type 0} → (K → K → Ordering) → (Row → Option K) → List Row → Table K V → Table K V → Type 0
FindsNamed R key rows whole part = All (λ r. IfSome (key r) (λ k. find R k part ≡ find R k whole)) rows
