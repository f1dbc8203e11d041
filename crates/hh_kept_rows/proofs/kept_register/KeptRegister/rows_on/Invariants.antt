use Rattle.std.proofs.Common.{◌≡◌, take}
use Rattle.std.specs.Prelude.{filter_map}
use Rattle.hh_kept_rows.specs.steps.DayRolls.{row_on}
use Rattle.hh_kept_rows.proofs.kept_register.KeptRegister.rows_on.Given as goal

-- the rows of the date among those so far
abbrev pub invariant-loop-key : goal.invariant-loop-key
invariant-loop-key l = l.rows.items ≡ filter_map (row_on l.self l.date) (take l.key-index l.key-items)
