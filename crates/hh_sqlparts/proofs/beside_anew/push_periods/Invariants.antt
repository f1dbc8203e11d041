use Rattle.std.proofs.Common.{◌≡◌, ◌++◌}
use Rattle.hh_states.specs.DaySettlement.{periods_on}
use Rattle.hh_sqlparts.proofs.beside_anew.push_periods.Given as goal

-- the Settlement Periods so far, after those that were there
abbrev pub invariant-loop-before : goal.invariant-loop-before
invariant-loop-before l = l.periods.items ≡ l.fn.periods.items ++ periods_on l.date l.before
