use Rattle.std.proofs.Common.{arith, rules, ap, ◌≡◌, ◌∙◌, ◌<◌, ◌≤◌, length, to_z}
use Rattle.std.specs.Int.{w128}
use Rattle.hh_calc.specs.Ready.{most_subsidiaries}
use Rattle.hh_calc.proofs.CreditFacts.{credit_of, credits_more, rest_more, rest_word, small_more, unit_credits_small}
use Rattle.hh_calc.proofs.credits.push_credits.Goals as goal

pub loop-subsidiary-preserved : goal.loop-subsidiary-preserved
loop-subsidiary-preserved c =
    let unit = c.args.unit.now in
    let i = c.loop-subsidiary.subsidiary-index in
    let subsidiary = c.subsidiary-item.result in
    let inside : i < length unit.subsidiaries = omega (arith, ap length c.subsidiaries-subsidiary-items.ensures) in
    let is = rw c.subsidiaries-subsidiary-items.ensures at c.subsidiary-item.is in
    let few : i ≤ most_subsidiaries = omega (arith, c.requires.few) in
    let held = rest_word i (to_z w128 c.loop-subsidiary.rest-bits) c.credit_to-credited.result few c.loop-subsidiary.invariant.size c.credit_to-credited.ensures.size in
    let row : record { unit = c.unit.result; account = subsidiary.account; credited = c.of.result } ≡ credit_of unit subsidiary = search rules in
    record {
      credits = credits_more unit i subsidiary inside is _ _ c.loop-subsidiary.invariant.credits _ row _ c.in_ok-push.ensures.items;
      rest = held.is ∙ rest_more unit i subsidiary inside is _ _ c.loop-subsidiary.invariant.rest c.credit_to-credited.ensures.credit;
      small = small_more unit i subsidiary inside is c.loop-subsidiary.invariant.small _ c.credit_to-credited.ensures.credit c.credit_to-credited.ensures.size;
      size = rw held.is held.small;
    }

pub returns-clause-small : goal.returns-clause-small
returns-clause-small c =
    let unit = c.args.unit.now in
    let i = c.loop-subsidiary.subsidiary-index in
    unit_credits_small unit i _ (omega (arith, ap length c.subsidiaries-subsidiary-items.ensures)) (omega (arith, c.requires.few, ap length c.subsidiaries-subsidiary-items.ensures))
    c.loop-subsidiary.invariant.small c.loop-subsidiary.invariant.rest c.loop-subsidiary.invariant.size
