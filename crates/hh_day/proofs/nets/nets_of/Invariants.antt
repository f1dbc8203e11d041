use Rattle.std.proofs.Common.{take}
use Rattle.hh_day.specs.steps.RunParts.{AreNetsOf}
use Rattle.hh_day.proofs.nets.nets_of.Given as goal

-- the nets by the rows so far
abbrev pub invariant-loop-row : goal.invariant-loop-row
invariant-loop-row g l = AreNetsOf (take l.row-index l.rows) l.nets
