use Rattle.std.proofs.Common.{◌≡◌, take}
use Rattle.hh_states.specs.Content.{result_entries}
use Rattle.hh_day.proofs.entries.result_entries.Given as goal

-- the rows of the Settlement Periods so far
abbrev pub invariant-loop-settled : goal.invariant-loop-settled
invariant-loop-settled l = l.entries.items ≡ result_entries l.run (take l.settled-index l.day)
