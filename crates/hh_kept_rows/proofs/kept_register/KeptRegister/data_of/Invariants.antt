use Rattle.std.proofs.Common.{take}
use Rattle.hh_store.specs.DayReads.{ArePeriodsOf}
use Rattle.hh_kept_rows.proofs.kept_register.KeptRegister.data_of.Given as goal

-- what the Settlement Periods so far are settled from
abbrev pub invariant-loop-at : goal.invariant-loop-at
invariant-loop-at l = ArePeriodsOf l.self (take l.at-index l.periods) l.found.items
