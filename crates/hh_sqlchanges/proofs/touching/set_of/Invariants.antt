use Rattle.std.proofs.Common.{take}
use Rattle.hh_beside.specs.DayLaws.{HaveTheSame}
use Rattle.hh_sqlchanges.proofs.touching.set_of.Given as goal

-- the set contains the periods so far, and nothing else
abbrev pub invariant-loop-at : goal.invariant-loop-at
invariant-loop-at l = HaveTheSame l.set.keys (take l.at-index l.periods)
