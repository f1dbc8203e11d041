use Rattle.std.proofs.Common.{◌≡◌, ◌∙◌, sym, ap, subst, arith, pos, ◌+ℤ◌, ◌≤ℤ◌}
use Rattle.std.proofs.lemmas.Int.{ints}
use Rattle.hh_tables.specs.Tables.{IsTable}
use Rattle.hh_rows.specs.Keys.{reallocation_key_cmp}
use Rattle.hh_rules.specs.Percents.{percent_of_others}
use Rattle.hh_rules.proofs.PercentFacts.{adds_up_after}
use Rattle.hh_rules.proofs.register.Register.put_reallocation.Goals as goal

pub invariant_of-self : goal.invariant_of-self
invariant_of-self c =
    let key = c.args.row.key in
    let rows = c.self.inside.reallocations in
    let part = c.units.ensures.value in
    let part-range = c.units.ensures.range in
    let range = c.percent_of_others.ensures.range in
    let rest : c.percent_of_others.result ≡ percent_of_others key rows =
    c.percent_of_others.ensures.value ∙ ap (λ v. percent_of_others key v.standing.tables.reallocations) (sym c.self.view_is) in
    let sum : c.of-sum.result ≡ percent_of_others key rows +ℤ c.args.row.reallocation.percent = c.of-sum.ensures ∙ (omega (arith, ints)) in
    let positive : pos 0 ≤ℤ c.args.row.reallocation.percent = omega (arith, ints) in
    let rising : IsTable reallocation_key_cmp rows = subst (λ v. IsTable reallocation_key_cmp v.standing.tables.reallocations) (sym c.self.view_is) c.percent_of_others.ensures.rising in
    adds_up_after key c.args.row.reallocation c.of-sum.result _ _ _ _ c.put_both.result rising c.self.invariant positive sum
    c.put_both.ensures.first c.put_both.ensures.second c.put_both.ensures.first_err c.put_both.ensures.second_err
