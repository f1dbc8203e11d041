use Rattle.std.proofs.Common.{◌≡◌, ◌+◌, ◌++◌, ◌∷◌, [], List, arith, subst, sym, take}
use Rattle.sqlite.specs.Held.{state}
use Rattle.sqlite.specs.State.{HasCleanDisk}
use Rattle.hh_registrations.specs.declared.unit_steps.UnitStep.{UnitStep}
use Rattle.hh_sqlrows.proofs.FrameLaws.{writes_then}
use Rattle.hh_sqlrows.proofs.ManyLaws.{take_next}
use Rattle.hh_sqlchanges.specs.steps.Becoming.{Becomes}
use Rattle.hh_sqlchanges.specs.steps.FileRows.{with_unit_steps}
use Rattle.hh_sqlchanges.proofs.UnitStepLaws.{steps_more}
use Rattle.hh_sqlchanges.proofs.unit_writing.write_unit_steps.Goals as goal

pub steps-preserved : goal.steps-preserved
steps-preserved g c =
    let old = state g.S.Store c.args.tx.now.conn.now in
    let mid = state g.S.Store c.steps.tx.conn.now in
    let new = state g.S.Store c.write_unit_step.new.tx.conn.now in
    let one = c.in_ok-write_unit_step.ensures in
    let kept = c.steps.invariant in
    let whole : take (c.steps.step-index + 1) c.args.steps.now ≡ take c.steps.step-index c.args.steps.now ++ c.step-item.result ∷ [] = take_next c.args.steps.now c.steps.step-index c.step-item.result (omega arith) c.step-item.is in
    let before : HasCleanDisk new → HasCleanDisk mid = λ clean. omega (arith, one.frame.survives.clean, clean) in
    record {
      frame = writes_then g.S.Store _ _ _ tt _ kept.frame one.frame;
      writes = λ clean inside is.
          let all = kept.writes (before clean) inside is in
          subst (λ (ss : List UnitStep). Becomes (with_unit_steps ss) old.now new.now) (sym whole) (steps_more (take c.steps.step-index c.args.steps.now) c.step-item.result old.now mid.now new.now all (one.writes clean (kept.frame.inside (before clean) inside) all.stays.is_office));
    }
