use Rattle.std.proofs.Common.{◌≡◌, take, None}
use Rattle.hh_states.specs.DaySettlement.{missing_price}
use Rattle.hh_kept_rows.proofs.kept_register.KeptRegister.missing_price.Given as goal

-- the Settlement Periods so far have a price
abbrev pub invariant-loop-at : goal.invariant-loop-at
invariant-loop-at l = missing_price l.self (take l.at-index l.periods) ≡ None
