use Rattle.std.proofs.Common.{Ok, Err, map, subst, sym}
use Rattle.sqlite.specs.Held.{state}
use Rattle.hh_devices.specs.DeviceChanges.{change}
use Rattle.hh_reports.specs.DayReport.{day_report_text}
use Rattle.hh_store.specs.Outputs.{Outputs, day_report_with, reported_as}
use Rattle.hh_store.specs.declared.output_fault.OutputFault.{OutputFault}
use Rattle.hh_sqlrows.specs.Contents.{content_of, period_row, rows_of_run}
use Rattle.hh_sqlstore.specs.Stores.{Stored, content_in}
use Rattle.hh_sqlparts.proofs.ReadingLaws.{only}
use Rattle.hh_sqlstore.proofs.IdleLaws.{of_committed}
use Rattle.hh_sqlstore.proofs.ReadLaws.{results_picked}
use Rattle.hh_sqlstore.proofs.ReportLaws.{reported_so}
use Rattle.hh_sqlstore.proofs.CrashLaws.{reading_adds_nothing}
use Rattle.hh_sqlstore.proofs.tables.SqlTablesTables.day_report.Goals as goal

pub returns-in-Ok-clause-writes : goal.returns-in-Ok-clause-writes
returns-in-Ok-clause-writes g c stands =
    let device = change g.O.Sink.taken g.O.Sink.failures c.args.out.now c.write_day_report.new.out in
    let run = c.args.run.now in
    let summary = c.args.summary.now in
    let trees = (state g.S.Store c.self.inside.connection).committed.trees in
    let written = of_committed g.S.Store _ c.self.invariant c.write_day_report.new.conn c.self.inside.refusals (only _ _ _ c.in-Ok.ensures.frame)
    (λ trees. Outputs device {A = Unit {0}} (day_report_text c.reported_as-reported.result (map period_row (rows_of_run run trees))) (Ok tt)) c.in-Ok.ensures.writes stands in
    let told : Outputs device {A = Unit {0}} (day_report_with (content_of c.self.inside.settings trees) run summary) (Ok tt) =
    reported_so {A = Unit {0}} device (Ok tt) day_report_text c.reported_as-reported.result (reported_as run summary) c.reported_as-reported.ensures _ _ (results_picked run trees) written in
    subst (λ (t : Stored _). Outputs device {A = Unit {0}} (day_report_with (content_in g.S.Store t) run summary) (Ok tt)) c.self.view_is told

pub returns-in-Err-clause-writes : goal.returns-in-Err-clause-writes
returns-in-Err-clause-writes g c stands =
    let device = change g.O.Sink.taken g.O.Sink.failures c.args.out.now c.write_day_report.new.out in
    let run = c.args.run.now in
    let summary = c.args.summary.now in
    let trees = (state g.S.Store c.self.inside.connection).committed.trees in
    let written = of_committed g.S.Store _ c.self.invariant c.write_day_report.new.conn c.self.inside.refusals (only _ _ _ c.in-Err.ensures.frame)
    (λ trees. Outputs device {A = Unit {0}} (day_report_text c.reported_as-reported.result (map period_row (rows_of_run run trees))) (Err c.in-Err.fault)) c.in-Err.ensures.writes stands in
    let told : Outputs device {A = Unit {0}} (day_report_with (content_of c.self.inside.settings trees) run summary) (Err c.in-Err.fault) =
    reported_so {A = Unit {0}} device (Err c.in-Err.fault) day_report_text c.reported_as-reported.result (reported_as run summary) c.reported_as-reported.ensures _ _ (results_picked run trees) written in
    subst (λ (fault : OutputFault). Outputs device {A = Unit {0}} (day_report_with (content_in g.S.Store c.args.self.now) run summary) (Err fault)) (sym c.refuse_report.ensures.same)
    (subst (λ (t : Stored _). Outputs device {A = Unit {0}} (day_report_with (content_in g.S.Store t) run summary) (Err c.in-Err.fault)) c.self.view_is told)

pub returns-in-Ok-clause-crash : goal.returns-in-Ok-clause-crash
returns-in-Ok-clause-crash g c =
    reading_adds_nothing g.S.Store _ c.self.invariant c.write_day_report.new.conn c.self.inside.refusals (λ P. P) c.in-Ok.ensures.frame.stays c.in-Ok.ensures.frame.honest c.in-Ok.ensures.frame.crash _ c.self.view_is

pub returns-in-Err-clause-crash : goal.returns-in-Err-clause-crash
returns-in-Err-clause-crash g c =
    reading_adds_nothing g.S.Store _ c.self.invariant c.write_day_report.new.conn c.refuse_report.new.refusals (λ P. Unit {0}) (λ stands clean. tt) c.in-Err.ensures.frame.honest c.in-Err.ensures.frame.crash _ c.self.view_is
