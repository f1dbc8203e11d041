use Rattle.std.proofs.Common.{◌≡◌, take}
use Rattle.hh_states.specs.Content.{credit_entries}
use Rattle.hh_day.proofs.entries.credit_entries.Given as goal

-- the credits of the Settlement Periods so far
abbrev pub invariant-loop-settled : goal.invariant-loop-settled
invariant-loop-settled l = l.entries.items ≡ credit_entries l.run (take l.settled-index l.day)
