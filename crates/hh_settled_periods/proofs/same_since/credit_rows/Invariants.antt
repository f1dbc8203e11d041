use Rattle.std.proofs.Common.{◌≡◌, map, take}
use Rattle.hh_states.specs.Beside.{credit_row}
use Rattle.hh_settled_periods.proofs.same_since.credit_rows.Given as goal

-- the credits so far
abbrev pub invariant-loop-entry : goal.invariant-loop-entry
invariant-loop-entry l = l.rows.items ≡ map credit_row (take l.entry-index l.entries)
