-- The registrations of units: which account leads a unit from which date to which, and what a row of units makes of them.
use Rattle.std.specs.List.{AllByRecursion, cons_option}
use Rattle.std.specs.Prelude.{ℕ, ◌-◌, ◌≤◌, nat_le, nat_lt, List, [], ◌∷◌, filter, map, Bool, not, ◌&&◌, Option, Some, None, option_map, if◌then◌else◌}
use Rattle.std.specs.FinMap.{find, put}
use Rattle.std.specs.Ordering.{eq_by_cmp}
use Rattle.hh_tables.specs.Ends.{last_of}
use Rattle.hh_tables.specs.Tables.{Table, without}
use Rattle.hh_names.specs.declared.account.Account.{Account}
use Rattle.hh_names.specs.Accounts.{bytes_cmp, is_same_account}
use Rattle.hh_time.specs.Days.{last_date}
use Rattle.hh_rows.specs.DateRanges.{Range, begun_by}
use Rattle.hh_rows.specs.Keys.{lead_key_cmp}
use Rattle.hh_rows.specs.declared.keys.LeadKey.{LeadKey}
use Rattle.hh_rows.specs.declared.rows.LeadTerm.{LeadTerm}
use Rattle.hh_rows.specs.declared.rows.Row.{Row}
use Rattle.hh_rows.specs.declared.rows.Row.TheVariants as row
use Rattle.hh_rows.specs.declared.rows.UnitRegistration.{UnitRegistration}
use Rattle.hh_rows.specs.declared.rows.UnitRow.{UnitRow}
use Rattle.hh_registrations.specs.declared.changes.FormerLead.{FormerLead}
use Rattle.hh_registrations.specs.declared.changes.FormerLead.TheVariants as former
use Rattle.hh_registrations.specs.declared.changes.LeadChange.{LeadChange}
use Rattle.hh_registrations.specs.declared.changes.UnitChange.{UnitChange}

-- a registration: a unit with its first date, and the lead account with the last date
abbrev pub Lead : Type 0
Lead = LeadKey × LeadTerm

-- the registrations of all units
abbrev pub Leads : Type 0
Leads = Table LeadKey LeadTerm

-- no registration begins after the last accepted date
abbrev pub BeginByLastDate : Leads → Type 0
BeginByLastDate leads = AllByRecursion (λ e. e.0.from ≤ last_date) leads

-- What is registered of units: of each unit its latest lead account, its mark and its whole range, and the registrations of all.
pub record RegistrationsView : Type 0 where
  pub units : Table (List ℕ) UnitRegistration
  pub leads : Leads

-- the registration that a unit's own row would make
abbrev pub lead_of : List ℕ → UnitRegistration → Lead
lead_of unit u = (record { unit = unit; from = u.range.from }, record { lead = u.lead; to = u.range.to })

-- one registration for each unit, which begins and ends with it and has its lead account
abbrev pub one_lead_each : Table (List ℕ) UnitRegistration → Leads
one_lead_each units = map (λ e. lead_of e.0 e.1) units

-- no unit is registered
abbrev pub no_registrations : RegistrationsView
no_registrations = record { units = []; leads = [] }

-- ---- who leads a unit on a date

-- the registration is one of this unit
abbrev pub is_of_unit : List ℕ → LeadKey → Bool
is_of_unit unit key = eq_by_cmp bytes_cmp key.unit unit

-- the registration is one of this unit, and begins on the date or before
abbrev pub is_begun : List ℕ → ℕ → LeadKey → Bool
is_begun unit date key = is_of_unit unit key && nat_le key.from date

-- a registration, unless it has ended before a date
abbrev pub unless_ended : ℕ → Option Lead → Option Lead
unless_ended date None = None
unless_ended date (Some lead) = if nat_le date lead.1.to then Some lead else None

module _ (leads : Leads) (unit : List ℕ) where
  -- the registrations of a unit
  abbrev pub registrations_of : Leads
  registrations_of = filter (λ e. is_of_unit unit e.0) leads

  -- the last of them
  abbrev pub last_registration : Option Lead
  last_registration = last_of registrations_of

  -- the last of them that begins on a date or before
  abbrev pub last_begun : ℕ → Option Lead
  last_begun date = last_of (filter (λ e. is_begun unit date e.0) leads)

  -- the registration of a unit on a date: the last that has begun, unless it has ended
  abbrev pub registration_on : ℕ → Option Lead
  registration_on date = unless_ended date (last_begun date)

-- the account that leads a unit on a date: that of the unit's registration on the date
abbrev pub registered_lead_on : RegistrationsView → List ℕ → ℕ → Option Account
registered_lead_on registered unit date = option_map (λ e. e.1.lead) (registration_on registered.leads unit date)

-- ---- what a row of units makes of them

-- A further row of a unit is a widening if its account is that of the unit's last registration, and a succession otherwise.
abbrev pub is_widening : Lead → UnitRegistration → Bool
is_widening last new = is_same_account last.1.lead new.lead

abbrev pub is_succession : Lead → UnitRegistration → Bool
is_succession last new = not (is_widening last new)

-- What becomes of the unit's last registration: if a succession begins later, it ends on the day before. Otherwise the row's
-- registration takes its place.
abbrev pub former_lead : Option Lead → UnitRegistration → FormerLead
former_lead None new = former.Absent
former_lead (Some last) new =
    if is_succession last new && nat_lt last.0.from new.range.from then former.Ended last.0 (record last.1 { to = new.range.from - 1 })
    else former.Replaced last.0

-- the dates of a row with this registration, if it succeeds this last registration of its unit
abbrev pub succession_dates : UnitRegistration → Option Lead → Option Range
succession_dates new None = None
succession_dates new (Some last) = if is_succession last new then Some new.range else None

-- what is registered of the unit: lead account, mark and last date are the row's, and the first date is the earliest of its rows
abbrev pub widened : Option UnitRegistration → UnitRegistration → UnitRegistration
widened None new = new
widened (Some known) new = record new { range = begun_by known.range.from new.range }

-- what a row of units changes in the registrations
abbrev pub lead_change : Leads → UnitRow → LeadChange
lead_change leads r = record {
  former = former_lead (last_registration leads r.unit) r.registration;
  key = record { unit = r.unit; from = r.registration.range.from };
  term = record { lead = r.registration.lead; to = r.registration.range.to };
}

-- what a row of units changes
abbrev pub unit_change : RegistrationsView → UnitRow → UnitChange
unit_change registered r = record {
  registration = widened (find bytes_cmp r.unit registered.units) r.registration;
  lead = lead_change registered.leads r;
}

-- the registrations without the former one, or with its new end
abbrev pub beside_former : FormerLead → Leads → Leads
beside_former former.Absent leads = leads
beside_former (former.Replaced key) leads = without lead_key_cmp key leads
beside_former (former.Ended key term) leads = put lead_key_cmp key term leads

-- the registrations with a change made
abbrev pub leads_with : LeadChange → Leads → Leads
leads_with change leads = put lead_key_cmp change.key change.term (beside_former change.former leads)

-- the registrations after a row of units
abbrev pub leads_after : UnitRow → Leads → Leads
leads_after r leads = leads_with (lead_change leads r) leads

-- the registrations after a row: only rows of units change them
abbrev pub leads_with_row : Row → Leads → Leads
leads_with_row (row.Unit r) leads = leads_after r leads
leads_with_row _ leads = leads

-- what is registered of each unit after a row: only rows of units change it
abbrev pub units_with_row : Row → Table (List ℕ) UnitRegistration → Table (List ℕ) UnitRegistration
units_with_row (row.Unit r) units = put bytes_cmp r.unit (widened (find bytes_cmp r.unit units) r.registration) units
units_with_row _ units = units

-- what is registered of units after a row: only rows of units change it
abbrev pub registrations_with : Row → RegistrationsView → RegistrationsView
registrations_with r registered = record { units = units_with_row r registered.units; leads = leads_with_row r registered.leads }

-- what is registered of units after a row of units
abbrev pub with_unit_row : UnitRow → RegistrationsView → RegistrationsView
with_unit_row r registered = record {
  units = put bytes_cmp r.unit (unit_change registered r).registration registered.units;
  leads = leads_after r registered.leads;
}

-- the dates of a row, if it is a succession
abbrev pub succession_range : Row → Leads → Option Range
succession_range (row.Unit r) leads = succession_dates r.registration (last_registration leads r.unit)
succession_range _ leads = None

-- the dates of the successions among rows; each row is judged by the registrations after the rows before it
abbrev pub succession_ranges : List Row → Leads → List Range
succession_ranges [] leads = []
succession_ranges (r ∷ rows) leads = cons_option (succession_range r leads) (succession_ranges rows (leads_with_row r leads))
