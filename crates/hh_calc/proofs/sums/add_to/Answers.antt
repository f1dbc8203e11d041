use Rattle.std.proofs.Common.{◌∙◌, ap, get_or, set}
use Rattle.hh_calc.specs.steps.Sums.{no_sums, sums_plus}
use Rattle.hh_calc.proofs.SumLaws.{added_once}
use Rattle.hh_calc.proofs.sums.add_to.Goals as goal

pub returns-clause-added : goal.returns-clause-added
returns-clause-added c = λ had e.
    let place = c.in-Some.place in
    c.add_at.ensures
    ∙ ap (λ s. set s place (sums_plus (get_or s place no_sums) c.args.amounts)) e
    ∙ added_once c.args.accounts.now c.requires.ordered place c.args.account.now c.in-Some.ensures.inside c.in-Some.ensures.place had c.args.amounts no_sums
