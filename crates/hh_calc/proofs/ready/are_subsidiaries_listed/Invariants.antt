use Rattle.std.proofs.Common.{take}
use Rattle.std.specs.Prelude.{All, Contains}
use Rattle.hh_calc.proofs.ready.are_subsidiaries_listed.Given as goal

abbrev pub invariant-loop-subsidiary : goal.invariant-loop-subsidiary
invariant-loop-subsidiary l = All (λ s. Contains l.accounts s.account) (take l.subsidiary-index l.subsidiaries)
