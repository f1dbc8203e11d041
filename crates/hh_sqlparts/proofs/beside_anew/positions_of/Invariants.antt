use Rattle.std.proofs.Common.{◌≡◌, [], take}
use Rattle.hh_kept_rows.specs.Keeping.{positions_of}
use Rattle.hh_sqlparts.proofs.beside_anew.positions_of.Given as goal

-- the positions by the contracts so far
abbrev pub invariant-loop-row : goal.invariant-loop-row
invariant-loop-row l = l.positions ≡ positions_of (take l.row-index l.rows) []
