use Rattle.std.proofs.Common.{length}
use Rattle.hh_day.proofs.SettleLaws.{SettlesFirst}
use Rattle.hh_day.proofs.settle.settle_periods.Given as goal

-- the Settlement Periods so far are settled
abbrev pub invariant-loop-at : goal.invariant-loop-at
invariant-loop-at l = SettlesFirst (length l.yielded) l.periods l.states l.settled.items
