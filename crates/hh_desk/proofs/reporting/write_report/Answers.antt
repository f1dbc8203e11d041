use Rattle.hh_devices.specs.DeviceChanges.{change}
use Rattle.hh_http_serve.specs.Reports.{report_for}
use Rattle.hh_http_serve.specs.Views.{midnight_of}
use Rattle.hh_desk.proofs.ErrandCrashLaws.{if_written, nothing_as}
use Rattle.hh_desk.proofs.ReportLaws.{report_stops}
use Rattle.hh_desk.proofs.reporting.write_report.Goals as goal

pub returns-in_err-report-clause-ends : goal.returns-in_err-report-clause-ends
returns-in_err-report-clause-ends g c sure s stands =
    let device = change g.O.Sink.taken g.O.Sink.failures c.args.out.now c.report.new.out in
    let report = report_for (midnight_of c.args.office.now.seen) s c.args.line.now.key.now c.args.line.now.report in
    report_stops (g.T.Tables.refusals c.args.office.now.tables) (g.T.Tables.refusals c.report.new.self.tables) device report c.in_err-report.field-0.0
    (c.in_err-report.ensures.refusals_counted sure (midnight_of c.args.office.now.seen, s, stands))
    (c.in_err-report.ensures.reports sure s stands) c.from_residual.result c.from_residual.ensures.1

pub returns-in_err-report-clause-crash : goal.returns-in_err-report-clause-crash
returns-in_err-report-clause-crash g c =
    nothing_as g.T.Tables.is_honest g.T.Tables.is_open g.T.Tables.may_leave c.args.office.now.tables c.report.new.self.tables _ _
    (λ P. if_written c.in_err-report.field-0.0 c.from_residual.result P c.from_residual.ensures.1) c.in_err-report.ensures.crash
