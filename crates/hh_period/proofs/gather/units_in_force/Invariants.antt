use Rattle.std.proofs.Common.{◌≡◌, map, take}
use Rattle.hh_tables.specs.Tables.{table_of_last}
use Rattle.hh_names.specs.Accounts.{bytes_cmp}
use Rattle.hh_period.specs.Rows.{unit_data_entry}
use Rattle.hh_period.proofs.gather.units_in_force.Given as goal

-- the units in force of the rows so far
abbrev pub invariant-loop-row : goal.invariant-loop-row
invariant-loop-row l = l.units.entries ≡ table_of_last bytes_cmp (map unit_data_entry (take l.row-index l.rows))
