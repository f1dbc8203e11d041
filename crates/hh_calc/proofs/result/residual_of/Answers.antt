use Rattle.std.proofs.Common.{◌≡◌, sym, subst, ◌∙◌, arith, w64, FitsSigned, to_z, of_z}
use Rattle.std.specs.Prelude.{◌-ℤ◌}
use Rattle.std.proofs.lemmas.Int.{ints, to_z-of_z}
use Rattle.hh_calc.proofs.RowsFacts.{residual_more}
use Rattle.hh_calc.proofs.result.residual_of.Goals as goal

pub loop-row-preserved : goal.loop-row-preserved
loop-row-preserved c =
    let held = c.loop-row.residual in
    let charge = c.units.result in
    let less = c.in_ok-residual.residual in
    let more = residual_more (λ r. r.charge) c.args.rows.now c.loop-row.row-index c.row-item.result c.loop-row-test.true c.row-item.is held charge (sym c.loop-row.residual-is ∙ c.loop-row.invariant) c.units.ensures.value in
    let range = c.units.ensures.range in
    let fits : FitsSigned w64 charge = omega (arith, ints) in
    let (room, is) = c.in_ok-residual.ensures in
    let left : less ≡ held -ℤ charge = is ∙ (λ i. c.loop-row.residual-is i -ℤ to_z-of_z w64 charge fits i) in
    let passed : to_z w64 (of_z w64 less) ≡ less = to_z-of_z w64 less (subst (FitsSigned w64) (sym is) room) in
    passed ∙ left ∙ more
