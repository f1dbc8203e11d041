use Rattle.std.proofs.Common.{take}
use Rattle.std.specs.List.{All}
use Rattle.hh_sqlparts.specs.steps.Named.{IsAmong}
use Rattle.hh_sqlparts.proofs.named_names.names_in.Given as goal

-- what the rows so far name is in the set
abbrev pub invariant-loop-row : goal.invariant-loop-row
invariant-loop-row g l = All (IsAmong g.N.Ord.cmp g.N.Name.name_of l.names.keys) (take l.row-index l.rows)
