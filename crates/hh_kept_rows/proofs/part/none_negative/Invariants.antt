use Rattle.std.proofs.Common.{take}
use Rattle.hh_kept_rows.specs.steps.Parts.{NoneNegative}
use Rattle.hh_kept_rows.proofs.part.none_negative.Given as goal

-- no percentage so far is negative
abbrev pub invariant-loop-row : goal.invariant-loop-row
invariant-loop-row l = NoneNegative (take l.row-index l.rows)
