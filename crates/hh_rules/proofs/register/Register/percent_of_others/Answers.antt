use Rattle.std.proofs.Common.{◌≡◌, ◌∙◌, ap, arith}
use Rattle.std.proofs.lemmas.Int.{ints}
use Rattle.hh_rules.specs.Percents.{percent_of_others}
use Rattle.hh_rules.proofs.PercentFacts.{others_from, others_not_negative}
use Rattle.hh_rules.proofs.register.Register.percent_of_others.Goals as goal

pub returns-clause-value : goal.returns-clause-value
returns-clause-value c =
    let key = c.args.key.now in
    let rows = c.self.inside.reallocations in
    let all = others_from key _ rows c.get-2.ensures.rising c.self.invariant _ _ _ _ c.get.ensures.value c.get-2.ensures.value c.units_of-all.ensures.value c.percent_in-own.ensures.value in
    let range = c.units_of-all.ensures.range in
    let range-own = c.percent_in-own.ensures.range in
    let difference : _ ≡ percent_of_others key rows = omega (arith, ints) in
    difference ∙ ap (λ v. percent_of_others key v.standing.tables.reallocations) c.self.view_is

pub returns-clause-range : goal.returns-clause-range
returns-clause-range c =
    let key = c.args.key.now in
    let rows = c.self.inside.reallocations in
    let all = others_from key _ rows c.get-2.ensures.rising c.self.invariant _ _ _ _ c.get.ensures.value c.get-2.ensures.value c.units_of-all.ensures.value c.percent_in-own.ensures.value in
    let range = c.units_of-all.ensures.range in
    let range-own = c.percent_in-own.ensures.range in
    let positive = others_not_negative key _ rows c.self.invariant in
    (omega (arith, ints), omega (arith, ints))
