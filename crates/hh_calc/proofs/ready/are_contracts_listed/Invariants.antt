use Rattle.std.proofs.Common.{take}
use Rattle.std.specs.Prelude.{All}
use Rattle.hh_calc.specs.Ready.{IsContractListed}
use Rattle.hh_calc.proofs.ready.are_contracts_listed.Given as goal

abbrev pub invariant-loop-place : goal.invariant-loop-place
invariant-loop-place l = All (IsContractListed l.accounts) (take l.place l.contracts)
