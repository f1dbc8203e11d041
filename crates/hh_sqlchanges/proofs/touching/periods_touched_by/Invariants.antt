use Rattle.std.proofs.Common.{◌++◌, take}
use Rattle.std.specs.Prelude.{filter_map}
use Rattle.hh_beside.specs.DayLaws.{HaveTheSame}
use Rattle.hh_beside.specs.Keeping.{touched_by}
use Rattle.hh_sqlchanges.proofs.touching.periods_touched_by.Given as goal

-- the set contains the given periods and what the rows so far touch, and nothing else
abbrev pub invariant-loop-row : goal.invariant-loop-row
invariant-loop-row l = HaveTheSame l.found.keys (l.more ++ filter_map touched_by (take l.row-index l.rows))
