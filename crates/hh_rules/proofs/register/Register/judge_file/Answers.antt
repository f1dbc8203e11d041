use Rattle.std.proofs.Common.{◌≡◌, ◌+◌, ◌∙◌, ap, length, sym, subst, Ok, Err, arith, w64}
use Rattle.std.proofs.lemmas.Int.{to_z-of_z}
use Rattle.hh_rules.specs.FileRows.{JudgesFile}
use Rattle.hh_rules.specs.steps.RegisterView.{IsKeptIn}
use Rattle.hh_rules.proofs.FileLaws.{judged_from_start, refused_but, judged_to_end, judged_but, count_with, passed_on}
use Rattle.hh_rules.proofs.register.Register.judge_file.Goals as goal

pub returns-in_err-done-clause-judged : goal.returns-in_err-done-clause-judged
returns-in_err-done-clause-judged c =
    let passed = to_z-of_z w64 c.args.moment c.ranges.moment in
    λ history serves. passed_on (λ file. file) c.from_residual-in_err-done.result c.in_err-done.field-0.0 _ c.from_residual-in_err-done.ensures
    (subst (λ m. JudgesFile c.args.zone.now c.args.self m c.args.rows.now (Err c.in_err-done.field-0.0)) passed
    (refused_but c.args.zone.now c.args.self _ c.args.rows.now c.loop-index.index c.loop-index.self c.index-rows-index.result (omega arith) c.index-rows-index.is
    c.loop-index.file c.loop-index.invariant.judged c.in_err-done.field-0.0 c.in_err-done.ensures.judged) history serves)

pub loop-index-preserved : goal.loop-index-preserved
loop-index-preserved c =
    let more = count_with c.index-rows-index.result c.in_ok-done.done c.loop-index.file in
    let added = c.in_ok-add.ensures.ok in
    let before = c.loop-index.invariant.count in
    record {
      judged = judged_but c.args.zone.now c.args.self _ c.args.rows.now c.loop-index.index c.loop-index.self c.index-rows-index.result (omega arith) c.index-rows-index.is
          c.loop-index.file c.loop-index.invariant.judged c.in_ok-done.ensures.judged c.take_row.new.self c.in_ok-done.ensures.next c.in_ok-done.done c.in_ok-done.ensures.done c.add.new.self added;
      count = subst (λ f. length f.rows + f.late ≡ c.loop-index.index + 1) (sym added) (more ∙ ap (λ n. n + 1) before);
      kept = c.in_ok-done.ensures.kept;
    }

pub returns-clause-judged : goal.returns-clause-judged
returns-clause-judged c =
    let passed = to_z-of_z w64 c.args.moment c.ranges.moment in
    let end : c.loop-index.index ≡ length c.args.rows.now = omega arith in
    subst (λ m. JudgesFile c.args.zone.now c.args.self m c.args.rows.now (Ok c.loop-index.file)) passed
    (judged_to_end c.args.zone.now c.args.self _ c.args.rows.now c.loop-index.index c.loop-index.self c.loop-index.file end c.loop-index.invariant.judged)

pub loop-index-init : goal.loop-index-init
loop-index-init c = record {
  judged = judged_from_start c.args.zone.now c.args.self _ c.args.rows.now _ c.in_ok-file.ensures;
  count = ap (λ f. length f.rows + f.late) c.in_ok-file.ensures;
  kept = subst (IsKeptIn c.args.zone.now) (sym c.nothing-last.ensures) tt;
}
