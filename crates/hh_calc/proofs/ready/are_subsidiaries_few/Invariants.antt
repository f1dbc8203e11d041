use Rattle.std.proofs.Common.{◌≤◌, length, take}
use Rattle.std.specs.Prelude.{All}
use Rattle.hh_calc.specs.Ready.{most_subsidiaries}
use Rattle.hh_calc.proofs.ready.are_subsidiaries_few.Given as goal

abbrev pub invariant-loop-unit : goal.invariant-loop-unit
invariant-loop-unit l = All (λ u. length u.subsidiaries ≤ most_subsidiaries) (take l.unit-index l.units)
