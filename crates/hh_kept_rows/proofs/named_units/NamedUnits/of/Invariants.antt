use Rattle.std.proofs.Common.{take}
use Rattle.std.specs.List.{All}
use Rattle.hh_kept_rows.specs.steps.Parts.{IsNamedIn}
use Rattle.hh_kept_rows.proofs.named_units.NamedUnits.of.Given as goal

-- what the rows so far name
abbrev pub invariant-loop-row : goal.invariant-loop-row
invariant-loop-row l = All (IsNamedIn l.named) (take l.row-index l.rows)
