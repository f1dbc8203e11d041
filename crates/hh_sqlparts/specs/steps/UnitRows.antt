-- Which rows change what is registered of units, and what they change.
use Rattle.std.specs.Prelude.{◌≡◌, List, Bool, true, false}
use Rattle.hh_rows.specs.declared.rows.Row.{Row}
use Rattle.hh_rows.specs.declared.rows.Row.TheVariants as row
use Rattle.hh_registrations.specs.Registrations.{RegistrationsView, succession_ranges}
use Rattle.hh_registrations.specs.UnitSteps.{steps_of_rows}
use Rattle.hh_registrations.specs.declared.unit_steps.UnitChanges.{UnitChanges}

-- the row is one of units
abbrev pub is_unit_row : Row → Bool
is_unit_row (row.Unit r) = true
is_unit_row _ = false

-- these are the steps that rows make, and the dates of their successions
pub record AreChangesOf (rows : List Row) (registered : RegistrationsView) (changes : UnitChanges) : Type 0 where
  pub steps : changes.steps.items ≡ steps_of_rows rows registered
  pub successions : changes.successions.items ≡ succession_ranges rows registered.leads
