use Rattle.std.proofs.Common.{arith, refl}
use Rattle.hh_calc.specs.Ready.{IsUnitListed}
use Rattle.hh_calc.proofs.ReadyLaws.{all_of, failed, one_more, passed}
use Rattle.hh_calc.proofs.SumLaws.{all_read}
use Rattle.hh_calc.proofs.ready.are_units_listed.Goals as goal

pub returns-then-not-is_unit_listed : goal.returns-then-not-is_unit_listed
returns-then-not-is_unit_listed c =
    failed _ (λ all. cc (c.if-not-is_unit_listed.ensures.1 (all_read (IsUnitListed c.args.accounts.now) c.args.units.now c.loop-unit.unit-index c.unit-item.result all (omega arith) c.unit-item.is)))

pub loop-unit-preserved : goal.loop-unit-preserved
loop-unit-preserved c =
    one_more (IsUnitListed c.args.accounts.now) c.args.units.now c.loop-unit.unit-index c.unit-item.result (omega arith) c.unit-item.is c.loop-unit.invariant (c.if-not-is_unit_listed.ensures.0 refl)

pub returns : goal.returns
returns c = passed _ (all_of (IsUnitListed c.args.accounts.now) c.args.units.now c.loop-unit.unit-index (omega arith) c.loop-unit.invariant)
