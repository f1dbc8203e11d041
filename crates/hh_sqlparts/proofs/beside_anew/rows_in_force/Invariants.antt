use Rattle.std.proofs.Common.{◌≡◌, take}
use Rattle.std.specs.Prelude.{filter_map}
use Rattle.hh_states.specs.PeriodSettlement.{row_in_force}
use Rattle.hh_sqlparts.proofs.beside_anew.rows_in_force.Given as goal

-- the rows of the contracts so far
abbrev pub invariant-loop-key : goal.invariant-loop-key
invariant-loop-key l = l.rows.items ≡ filter_map (row_in_force l.tables) (take l.key-index l.key-items)
