use Rattle.std.proofs.Common.{◌≡◌}
use Rattle.hh_states.specs.DaySettlement.{periods_on}
use Rattle.hh_store.proofs.settlement_periods.periods_of.Given as goal

-- the Settlement Periods so far
abbrev pub invariant-loop-before : goal.invariant-loop-before
invariant-loop-before l = l.periods.items ≡ periods_on l.day.date l.before
