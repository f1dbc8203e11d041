use Rattle.std.proofs.Common.{take}
use Rattle.std.specs.List.{flat_map}
use Rattle.hh_period.specs.Rows.{seller_and_buyer}
use Rattle.hh_period.specs.steps.Rows.{NamesMore}
use Rattle.hh_period.proofs.gather.add_counterparties.Given as goal

-- the accounts before, and both of each row so far
abbrev pub invariant-loop-row : goal.invariant-loop-row
invariant-loop-row l = NamesMore l.fn.accounts.keys l.accounts.keys (flat_map seller_and_buyer (take l.row-index l.rows))
