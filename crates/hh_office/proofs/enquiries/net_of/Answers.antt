use Rattle.std.proofs.Common.{◌+◌, ◌^◌, ◌<◌, sym, ◌∙◌, arith}
use Rattle.std.specs.Prelude.{◌+ℤ◌}
use Rattle.hh_day.proofs.NetLaws.{total_next}
use Rattle.hh_day.proofs.SumLaws.{widened}
use Rattle.hh_office.proofs.WordLaws.{held_net_small, net_held, paid_fits}
use Rattle.hh_office.proofs.enquiries.net_of.Goals as goal

pub overflow_add-net : goal.overflow_add-net
overflow_add-net c =
    let row = c.row-item.result.1 in
    paid_fits row.charge row.share c.units.ensures.range c.units-in-loop-row.ensures.range c.from.result c.from-in-loop-row.result
    (widened row.charge c.units.result c.from.result c.units.ensures.range c.units.ensures.value c.from.ensures)
    (widened row.share c.units-in-loop-row.result c.from-in-loop-row.result c.units-in-loop-row.ensures.range c.units-in-loop-row.ensures.value c.from-in-loop-row.ensures)

pub loop-row-preserved : goal.loop-row-preserved
loop-row-preserved c =
    let i = c.loop-row.row-index in
    let few : i + 1 < 2 ^ 63 = omega arith in
    let row = c.row-item.result.1 in
    let charge = widened row.charge c.units.result c.from.result c.units.ensures.range c.units.ensures.value c.from.ensures in
    let share = widened row.share c.units-in-loop-row.result c.from-in-loop-row.result c.units-in-loop-row.ensures.range c.units-in-loop-row.ensures.value c.from-in-loop-row.ensures in
    let next = total_next (λ e. e.1.charge +ℤ e.1.share) c.args.rows.now i c.row-item.result c.loop-row-test.true c.row-item.is in
    record {
      sum = net_held row.charge row.share c.units.ensures.range c.units-in-loop-row.ensures.range c.from.result c.from-in-loop-row.result charge share
          _ i c.loop-row.invariant.size few
          ∙ (λ j. c.loop-row.invariant.sum j +ℤ (row.charge +ℤ row.share))
          ∙ sym next;
      size = held_net_small row.charge row.share c.units.ensures.range c.units-in-loop-row.ensures.range c.from.result c.from-in-loop-row.result charge share
          _ i c.loop-row.invariant.size few;
    }
