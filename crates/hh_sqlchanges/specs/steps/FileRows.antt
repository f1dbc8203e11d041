-- What rows of a file that are not late make of the content. References and what is registered of units are not included.
use Rattle.std.specs.Prelude.{List}
use Rattle.hh_rows.specs.declared.rows.Row.{Row}
use Rattle.hh_registrations.specs.Registrations.{RegistrationsView}
use Rattle.hh_registrations.specs.UnitSteps.{registered_after_steps}
use Rattle.hh_registrations.specs.declared.unit_steps.UnitStep.{UnitStep}
use Rattle.hh_rules.specs.Leads.{registered_units}
use Rattle.hh_states.specs.Changes.{put_row, put_rows}
use Rattle.hh_states.specs.Content.{Content}

-- the content with one more row
abbrev pub with_file_row : Row → Content → Content
with_file_row r content = record content { registered = put_row r content.registered }

-- the content with this registered of units
abbrev pub with_units : RegistrationsView → Content → Content
with_units registered content = record content { registered = record (content.registered) { units = registered.units; leads = registered.leads } }

-- the content with these steps made in the tables of units and of registrations, one after the other
abbrev pub with_unit_steps : List UnitStep → Content → Content
with_unit_steps steps content = with_units (registered_after_steps steps (registered_units content.registered)) content

-- the content with further rows, one after the other
abbrev pub with_file_rows : List Row → Content → Content
with_file_rows rows content = record content { registered = put_rows rows content.registered }
