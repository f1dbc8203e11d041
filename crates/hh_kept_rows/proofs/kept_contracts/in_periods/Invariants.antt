use Rattle.std.proofs.Common.{◌≡◌}
use Rattle.std.specs.Prelude.{filter}
use Rattle.std.specs.List.{flat_map}
use Rattle.hh_states.specs.DaySettlement.{from_one_to}
use Rattle.hh_kept_rows.specs.steps.KeptContracts.{is_in_period}
use Rattle.hh_kept_rows.proofs.kept_contracts.in_periods.Given as goal

-- the rows of the Settlement Periods so far
abbrev pub invariant-loop-before : goal.invariant-loop-before
invariant-loop-before l = l.sorted.items ≡ flat_map (λ period. filter (is_in_period period) l.rows) (from_one_to l.before)
