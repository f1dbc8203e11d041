use Rattle.std.proofs.Common.{[], map, refl, sym, subst, arith}
use Rattle.std.specs.Prelude.{Ok}
use Rattle.sqlite.specs.Held.{state}
use Rattle.hh_devices.specs.DeviceChanges.{change}
use Rattle.std.specs.List.Sorted.{IsNonDecreasingBy}
use Rattle.hh_reports.specs.DayReport.{day_report_begun, day_report_text}
use Rattle.hh_store.specs.Outputs.{Outputs}
use Rattle.hh_sqlrows.specs.Contents.{period_row, rows_of_run}
use Rattle.hh_sqlstore.proofs.ReportLaws.{counted_by, front_of_more, goes_on_by, told_as_output, told_on}
use Rattle.hh_sqlrows.proofs.RisingLaws.{run_rises}
use Rattle.hh_sqlstore.proofs.reporting.write_day_report.Goals as goal

pub returns-in_err-writer-clause-writes : goal.returns-in_err-writer-clause-writes
returns-in_err-writer-clause-writes g c stands is settled =
    let rows = rows_of_run c.args.run.now (state g.S.Store c.args.conn.now).now.trees in
    let run = c.args.reported.now in
    let device = change g.O.Sink.taken g.O.Sink.failures c.args.out.now c.begin.new.out in
    let in_order = run_rises c.args.run.now (state g.S.Store c.args.conn.now).now.trees in
    let sent = c.in_err-writer.ensures in
    let on = goes_on_by period_row (day_report_begun run) (day_report_text run) [] rows (rows, refl) (λ later is. c.reports_go_on.ensures.day run (map period_row []) later (λ k d within. absurd (omega arith)) (subst (IsNonDecreasingBy (λ e. e.0)) (sym is) in_order)) in
    told_as_output device (day_report_text run (map period_row rows)) c.in_err-writer.field-0.0 c.from_residual.result c.from_residual.ensures.1 (front_of_more device _ _ on sent.0, sent.1)

pub returns-in_err-give_results_of-clause-writes : goal.returns-in_err-give_results_of-clause-writes
returns-in_err-give_results_of-clause-writes g c stands is settled =
    let rows = rows_of_run c.args.run.now (state g.S.Store c.args.conn.now).now.trees in
    let run = c.args.reported.now in
    let device = change g.O.Sink.taken g.O.Sink.failures c.args.out.now c.give_results_of.new.out in
    let given = c.in_err-give_results_of.ensures.gives c.args.out.now run c.in_ok-writer.ensures in
    let in_order = c.in_err-give_results_of.ensures.in_order in
    let on = goes_on_by period_row (day_report_begun run) (day_report_text run) given.0 rows (given.2 stands is) (λ later is. c.reports_go_on.ensures.day run (map period_row given.0) later given.1.0 (subst (IsNonDecreasingBy (λ e. e.0)) (sym is) in_order)) in
    told_on device (day_report_text run (map period_row rows)) c.in_err-give_results_of.field-0.0 c.from_residual-in_err-give_results_of.result c.from_residual-in_err-give_results_of.ensures.1 (front_of_more device _ _ on given.1.1.0, given.1.1.1)

pub returns-in_err-give_results_of-clause-counted : goal.returns-in_err-give_results_of-clause-counted
returns-in_err-give_results_of-clause-counted g c =
    let run = c.args.reported.now in
    let device = change g.O.Sink.taken g.O.Sink.failures c.args.out.now c.give_results_of.new.out in
    let given = c.in_err-give_results_of.ensures.gives c.args.out.now run c.in_ok-writer.ensures in
    counted_by device (day_report_begun run (map period_row given.0)) c.from_residual-in_err-give_results_of.result
    (told_on device (day_report_begun run (map period_row given.0)) c.in_err-give_results_of.field-0.0 c.from_residual-in_err-give_results_of.result c.from_residual-in_err-give_results_of.ensures.1 (given.1.1.0, given.1.1.1))

pub returns-in_err-finish-clause-writes : goal.returns-in_err-finish-clause-writes
returns-in_err-finish-clause-writes g c stands is settled =
    let run = c.args.reported.now in
    let device = change g.O.Sink.taken g.O.Sink.failures c.args.out.now c.finish.new.out in
    let given = c.in_ok-give_results_of.ensures.gives c.args.out.now run c.in_ok-writer.ensures in
    let sent = c.in_err-finish.ensures c.args.out.now run (map period_row given.0) given.1 in
    subst (λ all. Outputs device {A = Unit {0}} (day_report_text run (map period_row all)) c.from_residual-in_err-finish.result) (given.2 stands is)
    (told_as_output device (day_report_text run (map period_row given.0)) c.in_err-finish.field-0.0 c.from_residual-in_err-finish.result c.from_residual-in_err-finish.ensures.1 sent)

pub returns-in_err-finish-clause-counted : goal.returns-in_err-finish-clause-counted
returns-in_err-finish-clause-counted g c =
    let run = c.args.reported.now in
    let device = change g.O.Sink.taken g.O.Sink.failures c.args.out.now c.finish.new.out in
    let given = c.in_ok-give_results_of.ensures.gives c.args.out.now run c.in_ok-writer.ensures in
    let sent = c.in_err-finish.ensures c.args.out.now run (map period_row given.0) given.1 in
    counted_by device (day_report_text run (map period_row given.0)) c.from_residual-in_err-finish.result
    (told_as_output device (day_report_text run (map period_row given.0)) c.in_err-finish.field-0.0 c.from_residual-in_err-finish.result c.from_residual-in_err-finish.ensures.1 sent)

pub returns-clause-writes : goal.returns-clause-writes
returns-clause-writes g c stands is settled =
    let run = c.args.reported.now in
    let device = change g.O.Sink.taken g.O.Sink.failures c.args.out.now c.finish.new.out in
    let given = c.in_ok-give_results_of.ensures.gives c.args.out.now run c.in_ok-writer.ensures in
    let sent = c.in_ok-finish.ensures c.args.out.now run (map period_row given.0) given.1 in
    subst (λ all. Outputs device {A = Unit {0}} (day_report_text run (map period_row all)) (Ok tt)) (given.2 stands is) sent

pub returns-clause-counted : goal.returns-clause-counted
returns-clause-counted g c =
    let run = c.args.reported.now in
    let device = change g.O.Sink.taken g.O.Sink.failures c.args.out.now c.finish.new.out in
    let given = c.in_ok-give_results_of.ensures.gives c.args.out.now run c.in_ok-writer.ensures in
    (c.in_ok-finish.ensures c.args.out.now run (map period_row given.0) given.1).1
