use Rattle.std.proofs.Common.{Err, subst, sym}
use Rattle.hh_devices.specs.DeviceChanges.{change}
use Rattle.hh_states.specs.States.{State}
use Rattle.hh_desk.specs.Promises.{Represents}
use Rattle.hh_desk.specs.Refusals.{CountsMore, CountsReportStop, CountsStoreFault}
use Rattle.hh_desk.specs.Reports.{ReportsAs, report_for}
use Rattle.hh_desk.specs.Views.{midnight_of}
use Rattle.hh_script.specs.Reports.{report_of}
use Rattle.hh_session.specs.steps.Reporting.{RunsReport}
use Rattle.hh_session.proofs.CourseLaws.{OnErr-map, ok_both}
use Rattle.hh_session.proofs.GivingUpLaws.{report_up}
use Rattle.hh_session.proofs.ReportingLaws.{reached_by, begun_report, cut_report, told_report}
use Rattle.hh_session.proofs.reporting.write_report.Goals as goal

pub returns-in-Err-Refused-clause-done : goal.returns-in-Err-Refused-clause-done
returns-in-Err-Refused-clause-done g c sure =
    let taken = g.O.Sink.taken in
    let failures = g.O.Sink.failures in
    let old = c.args.out.now in
    let mid = c.report.new.out in
    let fault = c.in-Err-Refused.fault in
    let earlier = g.T.Tables.refusals c.args.office.now.tables in
    let later = g.T.Tables.refusals c.report.new.self.tables in
    let store : (s : State) → Represents c.args.office.now.seen s → CountsStoreFault fault earlier later =
    λ s stands. subst (λ stop. CountsReportStop {A = Unit {0}} (Err stop) earlier later) c.in-Err-Refused.field-0-is
    (c.in-Err-Refused.ensures.refusals_counted sure (midnight_of c.args.office.now.seen, s, stands)) in
    ok_both c.tell_refused.result _ _ _
    (λ came told undone.
    subst (RunsReport (CountsMore earlier later) c.args.office.now.seen (change taken failures old c.tell_refused.new.out) (report_of c.args.line.now)) (sym undone)
    (λ s stands.
    let report = report_for (midnight_of c.args.office.now.seen) s c.args.line.now.key.now c.args.line.now.report in
    told_report taken failures old mid c.tell_refused.new.out fault earlier later (store s stands) report
    (subst (λ stop. ReportsAs (change taken failures old mid) {A = Unit {0}} report (Err stop))
    c.in-Err-Refused.field-0-is (c.in-Err-Refused.ensures.reports sure s stands)) told)) c.tell_refused.ensures.told c.tell_refused.ensures.came

pub returns-in-Err-Refused-clause-cut : goal.returns-in-Err-Refused-clause-cut
returns-in-Err-Refused-clause-cut g c sure =
    let taken = g.O.Sink.taken in
    let failures = g.O.Sink.failures in
    let old = c.args.out.now in
    let mid = c.report.new.out in
    let fault = c.in-Err-Refused.fault in
    let earlier = g.T.Tables.refusals c.args.office.now.tables in
    let later = g.T.Tables.refusals c.report.new.self.tables in
    let store : (s : State) → Represents c.args.office.now.seen s → CountsStoreFault fault earlier later =
    λ s stands. subst (λ stop. CountsReportStop {A = Unit {0}} (Err stop) earlier later) c.in-Err-Refused.field-0-is
    (c.in-Err-Refused.ensures.refusals_counted sure (midnight_of c.args.office.now.seen, s, stands)) in
    OnErr-map c.tell_refused.result _ _
    (λ told s stands.
    let report = report_for (midnight_of c.args.office.now.seen) s c.args.line.now.key.now c.args.line.now.report in
    begun_report taken failures old mid c.tell_refused.new.out fault earlier later (store s stands) report
    (subst (λ stop. ReportsAs (change taken failures old mid) {A = Unit {0}} report (Err stop))
    c.in-Err-Refused.field-0-is (c.in-Err-Refused.ensures.reports sure s stands)) told) c.tell_refused.ensures.cut

pub returns-in-Err-Write-clause-cut : goal.returns-in-Err-Write-clause-cut
returns-in-Err-Write-clause-cut g c sure =
    let taken = g.O.Sink.taken in
    let failures = g.O.Sink.failures in
    let old = c.args.out.now in
    let mid = c.report.new.out in
    λ s stands.
    let report = report_for (midnight_of c.args.office.now.seen) s c.args.line.now.key.now c.args.line.now.report in
    cut_report taken failures old mid mid _ report
    (subst (λ stop. ReportsAs (change taken failures old mid) {A = Unit {0}} report (Err stop))
    c.in-Err-Write.field-0-is (c.in-Err-Write.ensures.reports sure s stands))

pub returns-in-Ok-clause-refusals_up : goal.returns-in-Ok-clause-refusals_up
returns-in-Ok-clause-refusals_up g c sure some =
    report_up _ _ c.report.result (c.report.ensures.refusals_counted sure (reached_by c.args.office.now.seen some))

pub returns-in-Err-Refused-clause-refusals_up : goal.returns-in-Err-Refused-clause-refusals_up
returns-in-Err-Refused-clause-refusals_up g c sure some =
    report_up _ _ c.report.result (c.report.ensures.refusals_counted sure (reached_by c.args.office.now.seen some))

pub returns-in-Err-Write-clause-refusals_up : goal.returns-in-Err-Write-clause-refusals_up
returns-in-Err-Write-clause-refusals_up g c sure some =
    report_up _ _ c.report.result (c.report.ensures.refusals_counted sure (reached_by c.args.office.now.seen some))
