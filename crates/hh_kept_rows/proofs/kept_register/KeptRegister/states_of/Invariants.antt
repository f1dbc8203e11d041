use Rattle.std.proofs.Common.{take}
use Rattle.std.specs.List.{AllZip}
use Rattle.hh_kept_rows.specs.DayBeside.{IsStateBeside}
use Rattle.hh_kept_rows.proofs.kept_register.KeptRegister.states_of.Given as goal

-- the states of the Settlement Periods so far
abbrev pub invariant-loop-at : goal.invariant-loop-at
invariant-loop-at l = AllZip (IsStateBeside l.self l.beside) (take l.at-index l.periods) l.states.items
