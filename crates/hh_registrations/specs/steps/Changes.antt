-- What a row adds to what rows change.
use Rattle.std.specs.Prelude.{◌≡◌, [], ◌++◌}
use Rattle.std.specs.List.{cons_option}
use Rattle.hh_rows.specs.declared.rows.UnitRow.{UnitRow}
use Rattle.hh_registrations.specs.declared.unit_steps.UnitChanges.{UnitChanges}
use Rattle.hh_registrations.specs.Registrations.{RegistrationsView, last_registration, succession_dates, unit_change}
use Rattle.hh_registrations.specs.UnitSteps.{steps_of}

-- the steps of the row, and its dates if it is a succession
pub record AddsRow (held : RegistrationsView) (r : UnitRow) (old new : UnitChanges) : Type 0 where
  pub steps : new.steps.items ≡ old.steps.items ++ steps_of r.unit (unit_change held r)
  pub successions : new.successions.items
      ≡ old.successions.items ++ cons_option (succession_dates r.registration (last_registration held.leads r.unit)) []
