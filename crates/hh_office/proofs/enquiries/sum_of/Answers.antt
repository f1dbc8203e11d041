use Rattle.std.proofs.Common.{◌+◌, ◌^◌, ◌<◌, sym, ◌∙◌, arith}
use Rattle.std.specs.Prelude.{◌+ℤ◌}
use Rattle.hh_day.proofs.NetLaws.{total_next}
use Rattle.hh_day.proofs.SumLaws.{held_small, sum_fits, sum_held, widened}
use Rattle.hh_office.proofs.enquiries.sum_of.Goals as goal

pub overflow_add-sum : goal.overflow_add-sum
overflow_add-sum c =
    let i = c.loop-posting.posting-index in
    let few : i + 1 < 2 ^ 64 = omega arith in
    let pence = c.posting-item.result.1 in
    sum_fits _ pence c.from.result i c.loop-posting.invariant.size few c.units.ensures.range (widened pence c.units.result c.from.result c.units.ensures.range c.units.ensures.value c.from.ensures)

pub loop-posting-preserved : goal.loop-posting-preserved
loop-posting-preserved c =
    let i = c.loop-posting.posting-index in
    let few : i + 1 < 2 ^ 64 = omega arith in
    let pence = c.posting-item.result.1 in
    let long = widened pence c.units.result c.from.result c.units.ensures.range c.units.ensures.value c.from.ensures in
    let next = total_next (λ e. e.1) c.args.postings.now i c.posting-item.result c.loop-posting-test.true c.posting-item.is in
    record {
      sum = sum_held _ pence c.from.result i c.loop-posting.invariant.size few c.units.ensures.range long
          ∙ (λ j. c.loop-posting.invariant.sum j +ℤ pence)
          ∙ sym next;
      size = held_small _ pence c.from.result i c.loop-posting.invariant.size few c.units.ensures.range long;
    }
