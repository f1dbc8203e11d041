use Rattle.std.proofs.Common.{◌∙◌}
use Rattle.std.proofs.lemmas.Bool.{and_from, and_left, and_right}
use Rattle.hh_calc.specs.Formulas.{imbalance_of}
use Rattle.hh_calc.specs.Limits.{greatest_cash, greatest_energy}
use Rattle.hh_calc.proofs.RowFacts.{at_most, cash_word, figures_kept, imbalance_word, in_limit, none_kept, past_limit, sum_held}
use Rattle.hh_calc.proofs.settle.figures_within.Goals as goal

pub returns-in_err-credited : goal.returns-in_err-credited
returns-in_err-credited c =
    let past = past_limit greatest_energy c.args.sums.credited _ _ c.energy_within.ensures (sum_held c.args.sums.credited c.requires.credited) c.in_err-credited.was in
    none_kept c.from_residual.result _ _ c.from_residual.ensures (and_left _ _ (and_left _ _ (and_left _ _ (and_left _ _ past))))

pub returns-in_err-balancing : goal.returns-in_err-balancing
returns-in_err-balancing c =
    let past = past_limit greatest_energy c.args.sums.balancing _ _ c.energy_within-2.ensures (sum_held c.args.sums.balancing c.requires.balancing) c.in_err-balancing.was in
    none_kept c.from_residual-in_err-balancing.result _ _ c.from_residual-in_err-balancing.ensures (and_left _ _ (and_left _ _ (and_left _ _ (and_right _ _ past))))

pub returns-in_err-contracts : goal.returns-in_err-contracts
returns-in_err-contracts c =
    let past = past_limit greatest_energy c.args.sums.contracts _ _ c.energy_within-3.ensures (sum_held c.args.sums.contracts c.requires.contracts) c.in_err-contracts.was in
    none_kept c.from_residual-in_err-contracts.result _ _ c.from_residual-in_err-contracts.ensures (and_left _ _ (and_left _ _ (and_right _ _ past)))

pub returns-in_err-imbalance : goal.returns-in_err-imbalance
returns-in_err-imbalance c =
    let past = past_limit greatest_energy (imbalance_of c.args.sums) _ _ c.energy_within-4.ensures (imbalance_word c.args.sums c.requires) c.in_err-imbalance.was in
    none_kept c.from_residual-in_err-imbalance.result _ _ c.from_residual-in_err-imbalance.ensures (and_left _ _ (and_right _ _ past))

pub charge_of-requires : goal.charge_of-requires
charge_of-requires c =
    let (is, within) = in_limit greatest_energy (imbalance_of c.args.sums) _ _ _ c.energy_within-4.ensures (imbalance_word c.args.sums c.requires) c.in_ok-imbalance.was in
    rw is (at_most greatest_energy (imbalance_of c.args.sums) within)

pub returns-in_err-charge : goal.returns-in_err-charge
returns-in_err-charge c =
    let (is, within) = in_limit greatest_energy (imbalance_of c.args.sums) _ _ _ c.energy_within-4.ensures (imbalance_word c.args.sums c.requires) c.in_ok-imbalance.was in
    let paid = cash_word c.charge_of.result c.charge_of.type_inv ∙ rw is at c.charge_of.ensures in
    let past = past_limit greatest_cash _ _ _ c.cash_within.ensures paid c.in_err-charge.was in
    none_kept c.from_residual-in_err-charge.result _ _ c.from_residual-in_err-charge.ensures (and_right _ _ past)

pub returns : goal.returns
returns c =
    let sums = c.args.sums in
    let (credited_is, credited_in) = in_limit greatest_energy sums.credited _ _ _ c.energy_within.ensures (sum_held sums.credited c.requires.credited) c.in_ok-credited.was in
    let (balancing_is, balancing_in) = in_limit greatest_energy sums.balancing _ _ _ c.energy_within-2.ensures (sum_held sums.balancing c.requires.balancing) c.in_ok-balancing.was in
    let (contracts_is, contracts_in) = in_limit greatest_energy sums.contracts _ _ _ c.energy_within-3.ensures (sum_held sums.contracts c.requires.contracts) c.in_ok-contracts.was in
    let (imbalance_is, imbalance_in) = in_limit greatest_energy (imbalance_of sums) _ _ _ c.energy_within-4.ensures (imbalance_word sums c.requires) c.in_ok-imbalance.was in
    let paid = cash_word c.charge_of.result c.charge_of.type_inv ∙ rw imbalance_is at c.charge_of.ensures in
    let (charge_is, charge_in) = in_limit greatest_cash _ _ _ _ c.cash_within.ensures paid c.in_ok-charge.was in
    figures_kept c.args.account sums c.args.price _ _ _ _ _ credited_is balancing_is contracts_is imbalance_is charge_is
    (and_from _ _ (and_from _ _ (and_from _ _ (and_from _ _ credited_in balancing_in) contracts_in) imbalance_in) charge_in)
