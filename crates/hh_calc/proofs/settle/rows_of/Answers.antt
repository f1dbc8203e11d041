use Rattle.std.proofs.Common.{◌≤◌, arith, get_or, refl}
use Rattle.std.specs.Prelude.{pos, unsigned_abs}
use Rattle.hh_calc.specs.Limits.{greatest_cash}
use Rattle.hh_calc.specs.Settled.{figures_of}
use Rattle.hh_calc.proofs.RowFacts.{widened}
use Rattle.hh_calc.proofs.RowsFacts.{shown_next}
use Rattle.hh_calc.proofs.settle.rows_of.Goals as goal

pub loop-place-preserved : goal.loop-place-preserved
loop-place-preserved c =
    let place = c.loop-place.place in
    let share = get_or c.args.shares.now place (pos 0) in
    let small : unsigned_abs share ≤ greatest_cash = c.requires.small place (pos 0) c.loop-place-test.true in
    record {
      figures = shown_next figures_of c.args.figures.now place _ c.index-figures-place.result (omega (arith, c.requires.each)) c.index-figures-place.is _ c.row_of.result c.loop-place.invariant.figures c.row_of.ensures.figures _ c.in_ok-push.ensures.items;
      shares = shown_next (λ r. r.share) c.args.shares.now place (pos 0) share c.loop-place-test.true refl _ c.row_of.result c.loop-place.invariant.shares (widened share share c.row_of.result.share refl (omega arith) c.row_of.ensures.share) _ c.in_ok-push.ensures.items;
    }
