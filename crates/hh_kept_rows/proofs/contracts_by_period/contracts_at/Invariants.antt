use Rattle.std.proofs.Common.{◌≡◌, take}
use Rattle.hh_kept_rows.specs.steps.KeptContracts.{period_contracts}
use Rattle.hh_kept_rows.proofs.contracts_by_period.contracts_at.Given as goal

-- the contracts of the Settlement Period among the rows so far
abbrev pub invariant-loop-row : goal.invariant-loop-row
invariant-loop-row l = l.contracts.items ≡ period_contracts (take l.row-index l.rows) l.period
