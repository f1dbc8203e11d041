use Rattle.std.proofs.Common.{◌≡◌, ◌+◌, ◌∙◌, ap, arith, false, subst, sym, take}
use Rattle.std.proofs.lemmas.List.{take_all}
use Rattle.std.specs.Ordering.{is_lt}
use Rattle.std.specs.Prelude.{Some}
use Rattle.hh_kept_rows.specs.steps.Parts.{NoneAfter, is_after}
use Rattle.hh_kept_rows.proofs.UntilLaws.{before_not_after, not_after_both, not_after_itself, not_before, until_more}
use Rattle.hh_kept_rows.proofs.part.last_period.Goals as goal
use Rattle.hh_kept_rows.proofs.part.last_period.Goals.{then-is_lt, else-is_lt}

pub loop-reading-preserved : goal.loop-reading-preserved
loop-reading-preserved c =
    let last = c.loop-reading.last in
    let reading = c.reading-item.result in
    let tested = ap is_lt (sym c.cmp.ensures) ∙ sym c.is_lt.ensures in
    elim c.if-is_lt.branch [
      | then-is_lt w ↦
          let later = before_not_after last reading.0.at (tested ∙ w.if-is_lt.true) in
          record {
            first = subst (λ next. is_after c.args.first next ≡ false) (sym w.last-is) (not_after_both c.args.first last reading.0.at c.loop-reading.invariant.first later);
            until = subst (λ next. NoneAfter (Some next) (take (c.loop-reading.reading-index + 1) c.args.readings.now)) (sym w.last-is)
                (until_more last reading.0.at c.args.readings.now c.loop-reading.reading-index reading (omega arith) c.reading-item.is later (not_after_itself reading.0.at) c.loop-reading.invariant.until);
          }
      | else-is_lt w ↦
          let later = not_before last reading.0.at (tested ∙ w.if-is_lt.false) in
          record {
            first = subst (λ next. is_after c.args.first next ≡ false) (sym w.last-is) c.loop-reading.invariant.first;
            until = subst (λ next. NoneAfter (Some next) (take (c.loop-reading.reading-index + 1) c.args.readings.now)) (sym w.last-is)
                (until_more last last c.args.readings.now c.loop-reading.reading-index reading (omega arith) c.reading-item.is (not_after_itself last) later c.loop-reading.invariant.until);
          }
    ]

pub returns-clause-until : goal.returns-clause-until
returns-clause-until c = subst (NoneAfter (Some c.loop-reading.last)) (take_all c.loop-reading.reading-index c.args.readings.now (omega arith)) c.loop-reading.invariant.until
