use Rattle.std.proofs.Common.{◌≡◌, ◌++◌, map, take}
use Rattle.hh_runs.specs.DayNets.{with_change}
use Rattle.hh_runs.proofs.changes.push_changes.Given as goal

-- the changes of the nets so far follow those that were there
abbrev pub invariant-loop-net : goal.invariant-loop-net
invariant-loop-net l = l.changes.items ≡ l.fn.changes.items ++ map (with_change l.old l.new) (take l.net-index l.nets)
