use Rattle.std.proofs.Common.{◌≡◌, ℕ, List, rules, refl, ap, subst, ◌∙◌, Some, Err}
use Rattle.std.specs.Prelude.{IsTrue, option_map}
use Rattle.std.specs.FinMap.{find}
use Rattle.hh_devices.specs.DeviceChanges.{change}
use Rattle.hh_store.specs.Exports.{results_text}
use Rattle.hh_store.specs.run.ReportedRun.{ReportedRun}
use Rattle.hh_states.specs.Reads.{results_in}
use Rattle.hh_states.specs.Runs.{run_key_cmp}
use Rattle.hh_store.specs.Outputs.{Outputs, export_with, reported_as}
use Rattle.hh_office.specs.Reports.{ReportsAs, or_no_run}
use Rattle.hh_office.specs.Views.{Kept, OfficeView}
use Rattle.hh_office.proofs.ReportStopLaws.{report_given_up, report_stopped}
use Rattle.hh_office.proofs.office.Office.write_results.Goals as goal

pub returns-in_err-summary-clause-reports : goal.returns-in_err-summary-clause-reports
returns-in_err-summary-clause-reports g c sure =
    report_given_up (change g.S.Sink.taken g.S.Sink.failures c.args.out.now c.args.out.now) (refl, refl) _ c.in_err-summary.field-0.0 c.from_residual.result c.from_residual.ensures

pub returns-in_err-export-clause-reports : goal.returns-in_err-export-clause-reports
returns-in_err-export-clause-reports g c sure =
    let key = c.args.run.now in
    let content = c.args.self.now.seen.content in
    let summary = c.in-Some.summary in
    let device = change g.S.Sink.taken g.S.Sink.failures c.args.out.now c.export.new.out in
    let e = c.in_err-export.field-0.0 in
    let result = c.from_residual-in_err-export.result in
    let stood = subst (λ (k : Kept _). IsTrue (g.T.Tables.is_open k.tables)) c.self.view_is (c.in_err-export.ensures.stood sure) in
    let same = ap (λ (k : Kept _). k.seen.content) c.self.view_is ∙ ap (λ (o : OfficeView). o.content) (c.in_ok-summary.ensures.same stood) in
    let value = c.in_ok-summary.ensures.value stood in
    let there : Some summary ≡ find run_key_cmp key content.runs = search rules in
    let text : ReportedRun → List ℕ = λ run. results_text run (results_in content key) in
    let writes = subst (λ content. Outputs device {A = Unit {0}} (export_with content key summary) (Err e)) same (c.in_err-export.ensures.writes sure) in
    subst (λ found. ReportsAs device (or_no_run (option_map text (option_map (reported_as key) found))) result) there
    (report_stopped device (export_with content key summary) e result c.from_residual-in_err-export.ensures writes)
