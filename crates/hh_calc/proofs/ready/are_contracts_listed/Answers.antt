use Rattle.std.proofs.Common.{arith, refl}
use Rattle.hh_calc.specs.Ready.{IsContractListed}
use Rattle.hh_calc.proofs.ReadyLaws.{all_of, failed, one_more, passed}
use Rattle.hh_calc.proofs.SumLaws.{all_read}
use Rattle.hh_calc.proofs.ready.are_contracts_listed.Goals as goal

pub returns-then-not-is_contract_listed : goal.returns-then-not-is_contract_listed
returns-then-not-is_contract_listed c =
    failed _ (λ all. cc (c.if-not-is_contract_listed.ensures.1 (all_read (IsContractListed c.args.accounts.now) c.args.contracts.now c.loop-place.place c.index-contracts-place.result all (omega arith) c.index-contracts-place.is)))

pub loop-place-preserved : goal.loop-place-preserved
loop-place-preserved c =
    one_more (IsContractListed c.args.accounts.now) c.args.contracts.now c.loop-place.place c.index-contracts-place.result (omega arith) c.index-contracts-place.is c.loop-place.invariant (c.if-not-is_contract_listed.ensures.0 refl)

pub returns : goal.returns
returns c = passed _ (all_of (IsContractListed c.args.accounts.now) c.args.contracts.now c.loop-place.place (omega arith) c.loop-place.invariant)
