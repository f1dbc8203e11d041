use Rattle.std.proofs.Common.{◌≡◌, take}
use Rattle.std.specs.Prelude.{filter_map}
use Rattle.hh_kept_rows.specs.steps.KeptContracts.{contract_on}
use Rattle.hh_kept_rows.proofs.kept_register.KeptRegister.contracts_on.Given as goal

-- the rows found so far
abbrev pub invariant-loop-key : goal.invariant-loop-key
invariant-loop-key l = l.found.items ≡ filter_map (contract_on l.self l.account l.date) (take l.key-index l.self.contracts)
