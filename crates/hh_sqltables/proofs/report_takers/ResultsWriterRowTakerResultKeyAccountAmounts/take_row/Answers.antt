use Rattle.std.proofs.Common.{◌∙◌, ◌++◌, [], ◌∷◌, map, Err, ap, subst, sym}
use Rattle.hh_devices.specs.DeviceChanges.{change}
use Rattle.hh_devices.specs.Devices.{AppendsFront}
use Rattle.hh_reports.specs.Exports.{results_text}
use Rattle.hh_reports.specs.Output.{CountsFault}
use Rattle.hh_reports.specs.Writers.{HasResults}
use Rattle.hh_keyed_rows.specs.Outputs.{Outputs}
use Rattle.hh_keyed_rows.specs.StoreFaults.{output_fault}
use Rattle.hh_sqltables.specs.Reported.{period_row}
use Rattle.hh_sqltables.proofs.AnswerLaws.{counted_alike, takes_stopped}
use Rattle.hh_sqltables.proofs.ManyLaws.{map_last}
use Rattle.hh_sqltables.proofs.report_takers.ResultsWriterRowTakerResultKeyAccountAmounts.take_row.Goals as goal

pub returns-in_err-row : goal.returns-in_err-row
returns-in_err-row g c begun report rows has =
    let fault = c.in_err-row.field-0.0 in
    let device = change g.O.Sink.taken g.O.Sink.failures begun c.row.new.out in
    let listed = ap (λ r. map period_row rows ++ (c.args.key.now.period, r) ∷ []) c.with.ensures ∙ sym (map_last period_row rows (c.args.key.now, c.args.value.now)) in
    let sent = subst (λ rs. AppendsFront device.old device.new (results_text report rs) × CountsFault device fault) listed (c.in_err-row.ensures begun report (map period_row rows) has) in
    let told : Outputs device {A = Unit {0}} (results_text report (map period_row (rows ++ (c.args.key.now, c.args.value.now) ∷ []))) (Err (output_fault fault)) = (sent.0, counted_alike device fault sent.1) in
    takes_stopped (λ rs. HasResults device c.row.new.self report (map period_row rs)) (λ f rs. Outputs device {A = Unit {0}} (results_text report (map period_row rs)) (Err f)) rows _ c.from_residual.result (output_fault fault) c.from_residual.ensures.1 told

pub returns : goal.returns
returns g c begun report rows has =
    let device = change g.O.Sink.taken g.O.Sink.failures begun c.row.new.out in
    let listed = ap (λ r. map period_row rows ++ (c.args.key.now.period, r) ∷ []) c.with.ensures ∙ sym (map_last period_row rows (c.args.key.now, c.args.value.now)) in
    subst (HasResults device c.row.new.self report) listed (c.in_ok-row.ensures begun report (map period_row rows) has)
