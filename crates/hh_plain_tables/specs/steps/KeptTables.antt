-- Tables in memory: the tables that a load changes are made anew, and then replace the old ones.
use Rattle.std.specs.Prelude.{ℕ, List, [], ◌∷◌, Option, unwrap_or}
use Rattle.hh_rows.specs.declared.rows.UnitRegistration.{UnitRegistration}
use Rattle.hh_registrations.specs.Registrations.{RegistrationsView, with_unit_row}
use Rattle.hh_rules.specs.History.{Registered}
use Rattle.hh_rules.specs.Leads.{registered_units}
use Rattle.hh_plain_tables.specs.declared.changed_tables.ChangedTables.{ChangedTables}

-- what is registered of units after rows of units, one after the other
abbrev pub after_units : List (List ℕ × UnitRegistration) → RegistrationsView → RegistrationsView
after_units [] registered = registered
after_units (u ∷ units) registered = after_units units (with_unit_row (record { unit = u.0; registration = u.1 }) registered)

-- what is registered and in force, with the units that were made anew, if they were
abbrev pub with_units : Option RegistrationsView → Registered → Registered
with_units changed tables =
    let units : RegistrationsView = unwrap_or changed (registered_units tables) in
    record tables { units = units.units; leads = units.leads }

-- what is registered and in force, with the tables that were made anew
abbrev pub with_changed : ChangedTables → Registered → Registered
with_changed changed tables = record (with_units changed.units tables) {
  parties = unwrap_or changed.parties tables.parties;
  references = unwrap_or changed.references tables.references;
  meters = unwrap_or changed.meters tables.meters;
  prices = unwrap_or changed.prices tables.prices;
  contracts = unwrap_or changed.contracts tables.contracts;
  reallocations = unwrap_or changed.reallocations tables.reallocations;
}
