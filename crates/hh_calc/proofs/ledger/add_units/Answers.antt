use Rattle.std.proofs.Common.{[], ◌∙◌, ◌+◌, ◌*◌, arith, length, map, take, length-append}
use Rattle.std.proofs.lemmas.List.Sorted.{length_permutation, IsPermutation-refl}
use Rattle.hh_calc.specs.Formulas.{unit_credits, unit_sums}
use Rattle.hh_calc.specs.Ready.{HasFewSubsidiaries, IsUnitListed}
use Rattle.hh_calc.specs.steps.Sums.{greatest_credit, greatest_sum, greatest_unit_sum, greatest_volume}
use Rattle.hh_calc.proofs.LedgerLaws.{credits_placed, none_within, sums_start, units_step}
use Rattle.hh_calc.proofs.SumLaws.{all_read, all_within}
use Rattle.hh_calc.proofs.ledger.add_units.Goals as goal

pub loop-unit-init : goal.loop-unit-init
loop-unit-init c = record {
  credits = rw c.requires.none (IsPermutation-refl []);
  sums = c.requires.start ∙ sums_start c.args.accounts.now;
  small = none_within c.args.accounts.now _ _ c.requires.start;
}

pub add_unit-requires-clause-listed : goal.add_unit-requires-clause-listed
add_unit-requires-clause-listed c = all_read (IsUnitListed c.args.accounts.now) c.args.units.now c.loop-unit.unit-index _ c.requires.listed (omega arith) c.unit-item.is

pub add_unit-requires-clause-few : goal.add_unit-requires-clause-few
add_unit-requires-clause-few c = all_read HasFewSubsidiaries c.args.units.now c.loop-unit.unit-index _ c.requires.few (omega arith) c.unit-item.is

pub add_unit-requires-clause-room : goal.add_unit-requires-clause-room
add_unit-requires-clause-room c =
    all_within (length c.loop-unit.credits.items * greatest_credit + c.loop-unit.unit-index * greatest_volume) greatest_sum c.loop-unit.sums (omega arith) c.loop-unit.invariant.small

pub loop-unit-preserved : goal.loop-unit-preserved
loop-unit-preserved c =
    let units = c.args.units.now in
    let unit = c.unit-item.result in
    let i = c.loop-unit.unit-index in
    let rows = c.loop-unit.credits.items in
    let placed = c.in_ok-add_unit.ensures.credits in
    let long = length_permutation _ _ placed ∙ length-append rows (unit_credits unit) in
    record {
      credits = credits_placed units i unit (omega arith) c.unit-item.is rows _ c.loop-unit.invariant.credits placed;
      sums = c.in_ok-add_unit.ensures.added (unit_sums (take i units)) c.loop-unit.invariant.sums
          ∙ (λ j. map (λ a. units_step units i unit (omega arith) c.unit-item.is a j) c.args.accounts.now);
      small = all_within ((length c.loop-unit.credits.items * greatest_credit + i * greatest_volume) + (length (unit_credits unit) * greatest_credit + greatest_volume)) _ _ (omega arith)
          (c.in_ok-add_unit.ensures.grown (length c.loop-unit.credits.items * greatest_credit + i * greatest_volume) c.loop-unit.invariant.small);
    }

pub returns-clause-small : goal.returns-clause-small
returns-clause-small c =
    all_within (length c.loop-unit.credits.items * greatest_credit + c.loop-unit.unit-index * greatest_volume) greatest_unit_sum c.loop-unit.sums (omega arith) c.loop-unit.invariant.small
