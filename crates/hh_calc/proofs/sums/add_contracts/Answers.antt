use Rattle.std.proofs.Common.{[], ◌*◌, ◌+◌, arith, length, take}
use Rattle.hh_calc.specs.Ready.{IsContractListed}
use Rattle.hh_calc.specs.steps.Sums.{greatest_sum, greatest_unit_sum, greatest_volume, with_contract, with_contracts}
use Rattle.hh_calc.proofs.SumLaws.{all_read, all_within, changed_on, contract_step, grown_on, no_contracts, not_grown, unchanged}
use Rattle.hh_calc.proofs.sums.add_contracts.Goals as goal

pub loop-place-init : goal.loop-place-init
loop-place-init c = record {
  added = unchanged c.args.accounts.now (with_contracts []) no_contracts c.args.sums.now;
  grown = not_grown (0 * (2 * greatest_volume)) c.args.sums.now;
}

pub add_contract-requires-clause-listed : goal.add_contract-requires-clause-listed
add_contract-requires-clause-listed c = all_read (IsContractListed c.args.accounts.now) c.args.contracts.now c.loop-place.place _ c.requires.listed (omega arith) c.index-contracts-place.is

pub add_contract-requires-clause-room : goal.add_contract-requires-clause-room
add_contract-requires-clause-room c =
    all_within (greatest_unit_sum + c.loop-place.place * (2 * greatest_volume)) greatest_sum c.loop-place.sums (omega arith)
    (c.loop-place.invariant.grown greatest_unit_sum c.requires.room)

pub loop-place-preserved : goal.loop-place-preserved
loop-place-preserved c =
    let contracts = c.args.contracts.now in
    let contract = c.index-contracts-place.result in
    let i = c.loop-place.place in
    record {
      added = changed_on c.args.accounts.now (with_contracts (take i contracts)) (with_contract contract) (with_contracts (take (i + 1) contracts))
          (contract_step contracts i contract (omega arith) c.index-contracts-place.is)
          _ _ _ c.loop-place.invariant.added c.add_contract.ensures.added;
      grown = grown_on (i * (2 * greatest_volume)) (2 * greatest_volume) ((i + 1) * (2 * greatest_volume)) (omega arith) _ _ _ c.loop-place.invariant.grown c.add_contract.ensures.grown;
    }

pub returns-clause-grown : goal.returns-clause-grown
returns-clause-grown c = λ most small.
    all_within (most + c.loop-place.place * (2 * greatest_volume)) (most + length c.args.contracts.now * (2 * greatest_volume)) c.loop-place.sums (omega arith)
    (c.loop-place.invariant.grown most small)
