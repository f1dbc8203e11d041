-- The rows of a file while they are judged one after another.
use Rattle.std.specs.Prelude.{ℕ, ◌+◌, ℤ, [], ◌∷◌, ◌++◌, Bool, option_to_list, Option, Some, None, Result, Ok, Err}
use Rattle.jiff.specs.declared.tz.timezone.TimeZone.{TimeZone}
use Rattle.hh_names.specs.Faults.{row_fault}
use Rattle.hh_names.specs.declared.fault.Fault.{Fault}
use Rattle.hh_names.specs.declared.fault.Refusal.{Refusal}
use Rattle.hh_rows.specs.declared.rows.Row.{Row}
use Rattle.hh_rules.specs.declared.row_done.RowDone.{RowDone}
use Rattle.hh_rules.specs.declared.row_done.RowDone.TheVariants.{Applied, Late}
use Rattle.hh_rules.specs.Entries.{reference_entry}
use Rattle.hh_rules.specs.RegisterView.{RegisterView, refusal_at, tables_in, with_tables}
use Rattle.hh_rules.specs.FileRows.{FileRowsView, fixed_by}

-- no rows
abbrev pub no_rows : FileRowsView
no_rows = record { rows = []; late = 0; references = [] }

-- the outcome with the reference that a row fixes, if it fixes one
abbrev pub with_fixed : Bool → Row → FileRowsView → FileRowsView
with_fixed fixes r file =
    record file { references = file.references ++ option_to_list (fixed_by fixes (reference_entry r)) }

-- the outcome with one more row, by what became of it
abbrev pub with_done : Row → RowDone → FileRowsView → FileRowsView
with_done r (Applied fixes) file = with_fixed fixes r (record file { rows = file.rows ++ r ∷ [] })
with_done r (Late fixes) file = with_fixed fixes r (record file { late = file.late + 1 })

-- the register with another's readings, prices and contract volumes in force: no row is judged by them
abbrev pub with_volumes_of : RegisterView → RegisterView → RegisterView
with_volumes_of other register = with_tables (record (tables_in register) {
  meters = (tables_in other).meters;
  prices = (tables_in other).prices;
  contracts = (tables_in other).contracts;
}) register

-- the answer to a row of this number in its file
abbrev pub judged_row : ℕ → Option Refusal → Result (Unit {0}) Fault
judged_row number None = Ok tt
judged_row number (Some why) = Err (row_fault why number)

-- the answer to a row of this number that comes to a register at a moment
abbrev pub judged_row_at : TimeZone → RegisterView → ℤ → ℕ → Row → Result (Unit {0}) Fault
judged_row_at zone register moment number r = judged_row number (refusal_at zone register moment r)
