-- A part of a register while it is filled from the whole one, table by table.
use Rattle.std.specs.Prelude.{◌≡◌, ◌≤ℤ◌, ℕ, pos, ◌⊎◌, ◌||◌, List, [], All, Bool, true, false, Option, Some, None}
use Rattle.std.specs.Ordering.{is_gt}
use Rattle.std.specs.BTreeSet.{contains}
use Rattle.std.specs.FinMap.{find}
use Rattle.std.specs.List.{AllByRecursion}
use Rattle.std.specs.declared.cmp.Ordering.{Ordering}
use Rattle.hh_tables.specs.Tables.{Table}
use Rattle.hh_names.specs.Accounts.{bytes_cmp}
use Rattle.hh_names.specs.declared.values.Reading.{Reading}
use Rattle.hh_names.specs.declared.values.Reallocation.{Reallocation}
use Rattle.hh_rows.specs.Keys.{contract_key_cmp, settlement_period_cmp, unit_period_cmp}
use Rattle.hh_rows.specs.declared.keys.ReallocationKey.{ReallocationKey}
use Rattle.hh_rows.specs.declared.keys.UnitPeriod.{UnitPeriod}
use Rattle.hh_rows.specs.declared.settlement_period.SettlementPeriod.{SettlementPeriod}
use Rattle.hh_rows.specs.declared.rows.Row.{Row}
use Rattle.hh_rows.specs.declared.rows.Row.TheVariants as row
use Rattle.hh_rules.specs.History.{Registered}
use Rattle.hh_rules.specs.RegisterView.{AgreesOn, AgreesOnParty, AgreesOnUnit, RegisterView, tables_in, with_tables}
use Rattle.hh_kept_rows.specs.declared.named_units.NamedUnits.{NamedUnits}

-- the register with other reallocations
abbrev pub with_reallocations : Table ReallocationKey Reallocation → RegisterView → RegisterView
with_reallocations rows part = with_tables (record (tables_in part) { reallocations = rows }) part

-- under each key a table has nothing, or what the whole one has
abbrev pub IsPartOfTable : {K V : Type 0} → (K → K → Ordering) → Table K V → Table K V → Type 0
IsPartOfTable {K} R whole part = (k : K) → (find R k part ≡ None) ⊎ (find R k part ≡ find R k whole)

-- under each key a table has what it had, or what the whole one has
abbrev pub GrowsTable : {K V : Type 0} → (K → K → Ordering) → Table K V → Table K V → Table K V → Type 0
GrowsTable {K} R whole old new = (k : K) → (find R k new ≡ find R k old) ⊎ (find R k new ≡ find R k whole)

-- notifications close for the part when they do for the whole; it counts all parties and units, and has only what the whole has, and
-- no reallocations
pub record IsPartOf (whole part : RegisterView) : Type 0 where
  pub lead_minutes : part.lead_minutes ≡ whole.lead_minutes
  pub party_count : part.standing.party_count ≡ whole.standing.party_count
  pub unit_count : part.standing.unit_count ≡ whole.standing.unit_count
  pub parties : IsPartOfTable bytes_cmp (tables_in whole).parties (tables_in part).parties
  pub units : IsPartOfTable bytes_cmp (tables_in whole).units (tables_in part).units
  pub references : IsPartOfTable bytes_cmp (tables_in whole).references (tables_in part).references
  pub meters : IsPartOfTable unit_period_cmp (tables_in whole).meters (tables_in part).meters
  pub prices : IsPartOfTable settlement_period_cmp (tables_in whole).prices (tables_in part).prices
  pub contracts : IsPartOfTable contract_key_cmp (tables_in whole).contracts (tables_in part).contracts
  pub reallocations : (tables_in part).reallocations ≡ []

-- the part gets only what the whole has, and no reallocations
pub record Grows (whole : Registered) (old new : RegisterView) : Type 0 where
  pub lead_minutes : new.lead_minutes ≡ old.lead_minutes
  pub party_count : new.standing.party_count ≡ old.standing.party_count
  pub unit_count : new.standing.unit_count ≡ old.standing.unit_count
  pub parties : GrowsTable bytes_cmp whole.parties (tables_in old).parties (tables_in new).parties
  pub units : GrowsTable bytes_cmp whole.units (tables_in old).units (tables_in new).units
  pub references : GrowsTable bytes_cmp whole.references (tables_in old).references (tables_in new).references
  pub meters : GrowsTable unit_period_cmp whole.meters (tables_in old).meters (tables_in new).meters
  pub prices : GrowsTable settlement_period_cmp whole.prices (tables_in old).prices (tables_in new).prices
  pub contracts : GrowsTable contract_key_cmp whole.contracts (tables_in old).contracts (tables_in new).contracts
  pub reallocations : (tables_in new).reallocations ≡ (tables_in old).reallocations

-- the part has all units of the whole
abbrev pub AgreesOnUnits : Registered → Registered → Type 0
AgreesOnUnits whole part = (unit : List ℕ) → AgreesOnUnit whole part unit

-- the part has the same as the whole for what a row names and for the row in force of its key, without the registrations of units and the
-- reallocations
abbrev pub AgreesOnNames : Registered → Registered → Row → Type 0
AgreesOnNames whole part (row.Party r) = AgreesOn whole part (row.Party r)
AgreesOnNames whole part (row.Unit r) =
    AgreesOnParty whole part r.registration.lead.party × AgreesOnUnit whole part r.unit
AgreesOnNames whole part (row.Meter r) =
    AgreesOnUnit whole part r.key.unit
    × (find unit_period_cmp r.key part.meters ≡ find unit_period_cmp r.key whole.meters)
AgreesOnNames whole part (row.Price r) = AgreesOn whole part (row.Price r)
AgreesOnNames whole part (row.Contract r) = AgreesOn whole part (row.Contract r)
AgreesOnNames whole part (row.Reallocation r) =
    AgreesOnParty whole part r.key.account.party × AgreesOnUnit whole part r.key.unit_period.unit

-- whether the unit of a reallocation is named, in the reallocation's Settlement Period or in all
abbrev pub is_named_in : NamedUnits → ReallocationKey × Reallocation → Bool
is_named_in named e = contains unit_period_cmp named.periods e.0.unit_period || contains bytes_cmp named.units e.0.unit_period.unit

-- the unit and Settlement Period of a reallocation row are named, or the unit of a row of units
abbrev pub IsNamedIn : NamedUnits → Row → Type 0
IsNamedIn named (row.Reallocation r) = contains unit_period_cmp named.periods r.key.unit_period ≡ true
IsNamedIn named (row.Unit r) = contains bytes_cmp named.units r.unit ≡ true
IsNamedIn named _ = Unit {0}

-- what was named still is
pub record KeepsNames (old new : NamedUnits) : Type 0 where
  pub periods : (at : UnitPeriod) → contains unit_period_cmp old.periods at ≡ true → contains unit_period_cmp new.periods at ≡ true
  pub units : (unit : List ℕ) → contains bytes_cmp old.units unit ≡ true → contains bytes_cmp new.units unit ≡ true

-- whether one Settlement Period is after another
abbrev pub is_after : SettlementPeriod → SettlementPeriod → Bool
is_after a b = is_gt (settlement_period_cmp a b)

-- no reading is of a Settlement Period after this one, if there is one
abbrev pub NoneAfter : Option SettlementPeriod → Table UnitPeriod Reading → Type 0
NoneAfter None readings = Unit {0}
NoneAfter (Some last) readings = All (λ e. is_after e.0.at last ≡ false) readings

-- no percentage in force is negative
abbrev pub NoneNegative : Table ReallocationKey Reallocation → Type 0
NoneNegative reallocations = AllByRecursion (λ e. pos 0 ≤ℤ e.1.percent) reallocations
