use Rattle.std.proofs.Common.{subst, sym, ap, ◌∙◌, w64, to_z, of_z}
use Rattle.std.proofs.lemmas.Int.{to_z-of_z}
use Rattle.hh_rules.specs.FileRows.{JudgesFile, coming_at}
use Rattle.hh_states.specs.Steps.{timetable_at}
use Rattle.hh_texts.specs.Files.{file_rows}
use Rattle.hh_office.specs.Views.{Kept, OfficeView, midnight_of}
use Rattle.hh_office.proofs.StepLaws.{judges_at, judges_upload}
use Rattle.hh_office.proofs.RefusalLaws.{answer_counted, elsewhere_counts, file_elsewhere, given_elsewhere, gives_elsewhere, judged_elsewhere, reached_by, refuses_alike}
use Rattle.hh_office.proofs.office.Office.judge.Goals as goal

pub returns-clause-judged : goal.returns-clause-judged
returns-clause-judged g c sure s stands =
    let rows = c.in_ok-rows.rows.items in
    let register = c.in_ok-register.register in
    let result = c.judge_file.result in
    let reads = ap (file_rows c.args.upload.now.kind) (sym c.as_slice.ensures) ∙ c.in_ok-rows.ensures.rows in
    let zone = ap (λ (o : OfficeView). o.zone) (ap (λ (k : Kept _). k.seen) c.self-2.view_is ∙ c.in_ok-register.ensures.same sure) in
    let passed = to_z-of_z w64 c.args.moment c.ranges.moment in
    judges_upload c.args.self.now.seen s c.args.moment rows register stands (rw c.deref.ensures.value at (c.in_ok-register.ensures.serves sure)) c.args.upload.now reads result
    (subst (λ z. JudgesFile z register c.args.moment rows result) zone
    (subst (λ m. JudgesFile c.self-2.inside.zone register m rows result) passed
    (subst (λ rs. JudgesFile c.self-2.inside.zone register (to_z w64 (of_z w64 c.args.moment)) rs result) c.deref-2.ensures.value c.judge_file.ensures.judged)))

pub returns-in_err-rows-clause-refusals_counted : goal.returns-in_err-rows-clause-refusals_counted
returns-in_err-rows-clause-refusals_counted g c sure some =
    let fault = c.in_err-rows.field-0.0 in
    refuses_alike c.from_residual.result fault _ _ c.from_residual.ensures
    (elsewhere_counts fault _ (given_elsewhere fault _ (file_elsewhere c.args.upload.now.kind _) c.in_err-rows.ensures.rows))

pub returns-clause-refusals_counted : goal.returns-clause-refusals_counted
returns-clause-refusals_counted g c sure some =
    let rows = c.in_ok-rows.rows.items in
    let register = c.in_ok-register.register in
    let result = c.judge_file.result in
    let zone = ap (λ (o : OfficeView). o.zone) (ap (λ (k : Kept _). k.seen) c.self-2.view_is ∙ c.in_ok-register.ensures.same sure) in
    let passed = to_z-of_z w64 c.args.moment c.ranges.moment in
    let judges = judges_at c.args.self.now.seen some.0 c.args.moment rows register some.1 (rw c.deref.ensures.value at (c.in_ok-register.ensures.serves sure)) result
    (subst (λ z. JudgesFile z register c.args.moment rows result) zone
    (subst (λ m. JudgesFile c.self-2.inside.zone register m rows result) passed
    (subst (λ rs. JudgesFile c.self-2.inside.zone register (to_z w64 (of_z w64 c.args.moment)) rs result) c.deref-2.ensures.value c.judge_file.ensures.judged))) in
    answer_counted result _ _ (gives_elsewhere (λ file. file) result _ (judged_elsewhere (timetable_at (midnight_of c.args.self.now.seen) some.0) some.0.history (coming_at c.args.moment rows)) judges) (c.in_ok-register.ensures.refusals_counted sure (reached_by c.args.self.now.seen some))
