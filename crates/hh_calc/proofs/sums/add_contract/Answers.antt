use Rattle.std.proofs.Common.{◌∙◌, ◌*◌, ◌+◌, ◌≡◌, ap, arith}
use Rattle.std.specs.Prelude.{neg_ℤ}
use Rattle.hh_calc.specs.Formulas.{contracted}
use Rattle.hh_calc.specs.steps.Sums.{contract_amounts, greatest_sum, greatest_volume, with_amounts, with_contract}
use Rattle.hh_calc.proofs.SumLaws.{all_within, changed_on, grown_on, sold_and_bought}
use Rattle.hh_calc.proofs.WordFacts.{held_volume, turned_word}
use Rattle.hh_calc.proofs.sums.add_contract.Goals as goal

pub add_to-requires-2-clause-room : goal.add_to-requires-2-clause-room
add_to-requires-2-clause-room c =
    all_within (greatest_sum + greatest_volume) (2 * greatest_sum) _ (omega arith) (c.add_to.ensures.grown greatest_volume c.amounts_of_contract.ensures.small greatest_sum c.requires.room)

pub returns-clause-added : goal.returns-clause-added
returns-clause-added c =
    let contract = c.args.contract.now in
    let volume = c.contracted_volume-volume.ensures.volume in
    let size = c.contracted_volume-volume.ensures.size in
    let sold : c.amounts_of_contract.result ≡ contract_amounts (contracted contract)
    = c.amounts_of_contract.ensures.amounts ∙ ap contract_amounts (held_volume (contracted contract) c.contracted_volume-volume.result volume size) in
    let bought : c.amounts_of_contract-2.result ≡ contract_amounts (neg_ℤ (contracted contract))
    = c.amounts_of_contract-2.ensures.amounts ∙ ap contract_amounts (turned_word (contracted contract) c.contracted_volume-volume.result volume size) in
    changed_on c.args.accounts.now (with_amounts contract.counterparties.seller c.amounts_of_contract.result) (with_amounts contract.counterparties.buyer c.amounts_of_contract-2.result) (with_contract contract)
    (λ a s. (λ i. with_amounts contract.counterparties.buyer (bought i) a (with_amounts contract.counterparties.seller (sold i) a s)) ∙ sold_and_bought contract a s)
    _ _ _ c.add_to.ensures.added c.add_to-2.ensures.added

pub returns-clause-grown : goal.returns-clause-grown
returns-clause-grown c =
    grown_on greatest_volume greatest_volume (2 * greatest_volume) (omega arith) _ _ _ (c.add_to.ensures.grown greatest_volume c.amounts_of_contract.ensures.small)
    (c.add_to-2.ensures.grown greatest_volume c.amounts_of_contract-2.ensures.small)
