use Rattle.std.proofs.Common.{◌≡◌, take, None}
use Rattle.hh_states.specs.DaySettlement.{missing_meter}
use Rattle.hh_kept_rows.proofs.kept_register.KeptRegister.missing_meter.Given as goal

-- in the Settlement Periods so far each unit has a reading
abbrev pub invariant-loop-at : goal.invariant-loop-at
invariant-loop-at l = missing_meter l.self (take l.at-index l.periods) ≡ None
