use Rattle.std.proofs.Common.{◌≡◌, map, take}
use Rattle.hh_sqlparts.proofs.day_beside.periods_of.Given as goal

-- those of the rows so far
abbrev pub invariant-loop-row : goal.invariant-loop-row
invariant-loop-row l = l.periods.items ≡ map (λ e. e.0) (take l.row-index l.rows)
