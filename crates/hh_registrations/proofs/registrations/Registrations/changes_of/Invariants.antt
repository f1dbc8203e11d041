use Rattle.std.proofs.Common.{◌≡◌, ◌++◌, drop}
use Rattle.hh_registrations.specs.Registrations.{succession_ranges}
use Rattle.hh_registrations.specs.UnitSteps.{steps_of_rows}
use Rattle.hh_registrations.proofs.registrations.Registrations.changes_of.Given as goal

-- with those of the rows behind, the steps and the successions so far are those of all rows
abbrev pub invariant-loop-row : goal.invariant-loop-row
invariant-loop-row l = record {
  steps : l.changes.steps.items ++ steps_of_rows (drop l.row-index l.rows) l.held ≡ steps_of_rows l.fn.rows l.fn.self;
  successions : l.changes.successions.items ++ succession_ranges (drop l.row-index l.rows) l.held.leads ≡ succession_ranges l.fn.rows l.fn.self.leads;
}
