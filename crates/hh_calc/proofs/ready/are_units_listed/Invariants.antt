use Rattle.std.proofs.Common.{take}
use Rattle.hh_calc.specs.Ready.{IsUnitListed}
use Rattle.std.specs.Prelude.{All}
use Rattle.hh_calc.proofs.ready.are_units_listed.Given as goal

abbrev pub invariant-loop-unit : goal.invariant-loop-unit
invariant-loop-unit l = All (IsUnitListed l.accounts) (take l.unit-index l.units)
