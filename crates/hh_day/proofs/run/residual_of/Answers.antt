use Rattle.std.proofs.Common.{◌+◌, ◌^◌, ◌<◌, sym, ap, ◌∙◌, arith}
use Rattle.std.specs.Prelude.{◌+ℤ◌}
use Rattle.hh_day.proofs.NetLaws.{total_next}
use Rattle.hh_day.proofs.SumLaws.{held_small, sum_fits, sum_held, widened}
use Rattle.hh_day.proofs.run.residual_of.Goals as goal

pub overflow_add-sum : goal.overflow_add-sum
overflow_add-sum c =
    let i = c.loop-settled.settled-index in
    let few : i + 1 < 2 ^ 64 = omega arith in
    let residual = c.residual.result in
    sum_fits _ residual c.from.result i c.loop-settled.invariant.size few c.units.ensures.range (widened residual c.units.result c.from.result c.units.ensures.range c.units.ensures.value c.from.ensures)

pub loop-settled-preserved : goal.loop-settled-preserved
loop-settled-preserved c =
    let i = c.loop-settled.settled-index in
    let few : i + 1 < 2 ^ 64 = omega arith in
    let residual = c.residual.result in
    let long = widened residual c.units.result c.from.result c.units.ensures.range c.units.ensures.value c.from.ensures in
    let next = total_next (λ q. q.1.residual) c.args.day.now i c.settled-item.result c.loop-settled-test.true c.settled-item.is in
    record {
      sum = sum_held _ residual c.from.result i c.loop-settled.invariant.size few c.units.ensures.range long
          ∙ (λ j. c.loop-settled.invariant.sum j +ℤ (c.residual.ensures ∙ ap (λ q. q.residual) c.result.ensures) j)
          ∙ sym next;
      size = held_small _ residual c.from.result i c.loop-settled.invariant.size few c.units.ensures.range long;
    }
