use Rattle.std.proofs.Common.{◌≡◌, false, take}
use Rattle.hh_states.specs.Beside.{is_among}
use Rattle.hh_settled_periods.proofs.same_since.is_among.Given as goal

-- it is not among those so far
abbrev pub invariant-loop-period : goal.invariant-loop-period
invariant-loop-period l = is_among (take l.period-index l.periods) l.at ≡ false
