use Rattle.std.proofs.Common.{◌≡◌, ◌++◌, take}
use Rattle.std.specs.Prelude.{filter}
use Rattle.hh_kept_rows.specs.steps.KeptContracts.{is_in_period}
use Rattle.hh_kept_rows.proofs.kept_contracts.push_period.Given as goal

-- the rows so far of the Settlement Period follow those before
abbrev pub invariant-loop-row : goal.invariant-loop-row
invariant-loop-row l = l.sorted.items ≡ l.fn.sorted.items ++ filter (is_in_period l.period) (take l.row-index l.rows)
