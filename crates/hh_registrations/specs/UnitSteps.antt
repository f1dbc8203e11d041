-- What rows of units change in the tables of units and of registrations, as single steps: a row is put, or a registration is taken out.
use Rattle.std.specs.Prelude.{ℕ, List, [], ◌∷◌, ◌++◌}
use Rattle.std.specs.FinMap.{put}
use Rattle.hh_tables.specs.Tables.{without}
use Rattle.hh_names.specs.Accounts.{bytes_cmp}
use Rattle.hh_rows.specs.Keys.{lead_key_cmp}
use Rattle.hh_rows.specs.declared.rows.Row.{Row}
use Rattle.hh_rows.specs.declared.rows.Row.TheVariants as row
use Rattle.hh_registrations.specs.declared.changes.FormerLead.{FormerLead}
use Rattle.hh_registrations.specs.declared.changes.FormerLead.TheVariants as former
use Rattle.hh_registrations.specs.declared.changes.UnitChange.{UnitChange}
use Rattle.hh_registrations.specs.declared.unit_steps.UnitStep.{UnitStep}
use Rattle.hh_registrations.specs.declared.unit_steps.UnitStep.TheVariants as step
use Rattle.hh_registrations.specs.Registrations.{RegistrationsView, registrations_with, unit_change}

-- what is registered of units after a step
abbrev pub registered_stepped : UnitStep → RegistrationsView → RegistrationsView
registered_stepped (step.Unit unit u) registered = record registered { units = put bytes_cmp unit u registered.units }
registered_stepped (step.Put key term) registered = record registered { leads = put lead_key_cmp key term registered.leads }
registered_stepped (step.Removed key) registered = record registered { leads = without lead_key_cmp key registered.leads }

-- what is registered of units after steps, one after the other
abbrev pub registered_after_steps : List UnitStep → RegistrationsView → RegistrationsView
registered_after_steps [] registered = registered
registered_after_steps (s ∷ steps) registered = registered_after_steps steps (registered_stepped s registered)

-- what becomes of the former registration
abbrev pub former_steps : FormerLead → List UnitStep
former_steps former.Absent = []
former_steps (former.Replaced key) = step.Removed key ∷ []
former_steps (former.Ended key term) = step.Put key term ∷ []

-- the steps of a change of a unit
abbrev pub steps_of : List ℕ → UnitChange → List UnitStep
steps_of unit change = former_steps change.lead.former ++ step.Put change.lead.key change.lead.term ∷ step.Unit unit change.registration ∷ []

-- the steps of a row, if it is one of units
abbrev pub steps_of_row : Row → RegistrationsView → List UnitStep
steps_of_row (row.Unit r) registered = steps_of r.unit (unit_change registered r)
steps_of_row _ registered = []

-- the steps of rows, one after the other
abbrev pub steps_of_rows : List Row → RegistrationsView → List UnitStep
steps_of_rows [] registered = []
steps_of_rows (r ∷ rows) registered = steps_of_row r registered ++ steps_of_rows rows (registrations_with r registered)
