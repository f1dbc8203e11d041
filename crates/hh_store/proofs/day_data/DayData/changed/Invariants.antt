use Rattle.std.proofs.Common.{◌≡◌, take}
use Rattle.hh_store.specs.DayReads.{count_changed}
use Rattle.hh_store.proofs.day_data.DayData.changed.Given as goal

-- which of the periods so far may have changed
abbrev pub invariant-loop-period : goal.invariant-loop-period
invariant-loop-period l = l.count ≡ count_changed (take l.period-index l.self.periods.items)
