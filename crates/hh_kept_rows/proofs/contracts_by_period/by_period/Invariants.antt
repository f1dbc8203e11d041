use Rattle.std.proofs.Common.{take}
use Rattle.hh_kept_rows.specs.steps.KeptContracts.{AreByPeriod}
use Rattle.hh_kept_rows.proofs.contracts_by_period.by_period.Given as goal

-- the contracts of the rows so far
abbrev pub invariant-loop-row : goal.invariant-loop-row
invariant-loop-row l = AreByPeriod (take l.row-index l.rows) l.periods.items
