use Rattle.std.proofs.Common.{◌≡◌, take}
use Rattle.hh_rules.specs.Leads.{registered_units}
use Rattle.hh_plain_tables.specs.steps.KeptTables.{after_units}
use Rattle.hh_plain_tables.proofs.changed_tables.with_units.Given as goal

-- what is registered of units after the rows so far
abbrev pub invariant-loop-row : goal.invariant-loop-row
invariant-loop-row l = l.changed ≡ after_units (take l.row-index l.rows) (registered_units l.register)
