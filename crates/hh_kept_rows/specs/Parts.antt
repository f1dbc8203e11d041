-- The part of a register by which rows are judged: it has only what the whole has.
use Rattle.std.specs.List.{list_any}
use Rattle.std.specs.Prelude.{ℕ, List, Bool, true, false, if◌then◌else◌}
use Rattle.hh_rows.specs.declared.rows.Row.{Row}
use Rattle.hh_rows.specs.declared.rows.Row.TheVariants as row
use Rattle.hh_rules.specs.History.{Leads, Registered}
use Rattle.hh_rules.specs.Refusals.{whole_standing}
use Rattle.hh_rules.specs.RegisterView.{RegisterView}

-- the register that has everything that is registered and in force
abbrev pub whole_of : ℕ → Registered → RegisterView
whole_of lead_minutes tables = record { lead_minutes = lead_minutes; standing = whole_standing tables }

-- whether a row names a unit
abbrev pub names_unit : Row → Bool
names_unit (row.Unit r) = true
names_unit (row.Meter r) = true
names_unit (row.Reallocation r) = true
names_unit _ = false

-- the registrations of units that are held to judge rows: all of them if a row names a unit, and else those that are held already
abbrev pub leads_for : List Row → Leads → Leads → Leads
leads_for rows whole held = if list_any names_unit rows then whole else held
