use Rattle.std.proofs.Common.{◌*◌, ◌^◌, ◌<◌, ◌≤◌, arith, length, sym, ◌∙◌}
use Rattle.std.specs.Prelude.{◌+ℤ◌, unsigned_abs}
use Rattle.hh_calc.specs.Ready.{IsNetVolume}
use Rattle.hh_calc.proofs.ReadyLaws.{one_more}
use Rattle.hh_calc.proofs.RowFacts.{widened}
use Rattle.hh_calc.proofs.SumFacts.{nets_size, nets_word}
use Rattle.hh_calc.proofs.SumLaws.{total-more}
use Rattle.hh_calc.proofs.WordFacts.{net_size}
use Rattle.hh_calc.proofs.ready.sum_of_nets.Goals as goal

pub loop-net-preserved : goal.loop-net-preserved
loop-net-preserved c =
    let nets = c.args.nets.now in
    let i = c.loop-net.net-index in
    let net = c.net-item.result in
    let inside : i < length nets = omega arith in
    let few : i < 2 ^ 64 = omega arith in
    let size : unsigned_abs net ≤ 10 ^ 11 = net_size net c.units.ensures.range in
    let so_far : unsigned_abs c.loop-net.sum ≤ i * 10 ^ 11 = rw c.loop-net.sum-is at c.loop-net.invariant.small in
    let wide = widened net _ _ c.units.ensures.value (omega arith) c.from-sum.ensures in
    let held = nets_word _ _ c.loop-net.sum net c.loop-net.sum-is wide (omega arith) size in
    record {
      sum = held ∙ (λ j. (sym c.loop-net.sum-is ∙ c.loop-net.invariant.sum) j +ℤ net) ∙ sym (total-more (λ kwh. kwh) nets i net inside c.net-item.is);
      sizes = one_more IsNetVolume nets i net inside c.net-item.is c.loop-net.invariant.sizes c.units.ensures.range;
      small = rw held (nets_size i c.loop-net.sum net so_far size);
    }
