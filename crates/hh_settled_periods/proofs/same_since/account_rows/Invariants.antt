use Rattle.std.proofs.Common.{◌≡◌, map, take}
use Rattle.hh_settled_periods.proofs.same_since.account_rows.Given as goal

-- the rows so far
abbrev pub invariant-loop-entry : goal.invariant-loop-entry
invariant-loop-entry l = l.rows.items ≡ map (λ e. e.1) (take l.entry-index l.entries)
