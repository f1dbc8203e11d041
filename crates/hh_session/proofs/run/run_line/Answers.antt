use Rattle.std.proofs.Common.{subst, sym}
use Rattle.std.specs.Prelude.{IfOk, OnErr}
use Rattle.hh_devices.specs.DeviceChanges.{change}
use Rattle.hh_desk.specs.Refusals.{CountsMore}
use Rattle.hh_script.specs.Reports.{report_of}
use Rattle.hh_script.specs.Steps.{load_of, run_of, step_of}
use Rattle.hh_desk.specs.Views.{midnight_of}
use Rattle.hh_desk.specs.Doing.{LoadDoes, RunDoes}
use Rattle.hh_session.specs.Came.{was_done}
use Rattle.hh_session.specs.steps.Course.{RunsStep, StopsStep}
use Rattle.hh_session.proofs.CourseLaws.{IfOk-map, OnErr-map, line_cut, line_done, load_gives_up, ok_both, run_gives_up}
use Rattle.hh_session.proofs.ReportingLaws.{report_step, report_stop}
use Rattle.hh_session.proofs.run.run_line.Goals as goal

pub returns-in-Load-clause-done : goal.returns-in-Load-clause-done
returns-in-Load-clause-done g c sure =
    let host = g.H.Host.view c.args.host.now in
    let old = c.args.office.now.seen in
    let new = c.load_file-told.new.office.seen in
    let fails = CountsMore (g.T.Tables.refusals c.args.office.now.tables) (g.T.Tables.refusals c.load_file-told.new.office.tables) in
    let device = change g.O.Sink.taken g.O.Sink.failures c.args.out.now c.tell.new.out in
    let load = load_of c.in-Load.load in
    subst (λ line. IfOk c.tell.result (λ came. RunsStep host fails old new device (step_of line) (was_done came))) (sym c.in-Load.is)
    (ok_both c.tell.result _ _ _
    (λ came told is.
    line_done old new device c.load_file-told.result (λ s told t. LoadDoes host fails (midnight_of old) s load told t) (load_gives_up host fails (midnight_of old) load)
    (c.load_file-told.ensures.runs sure) (c.load_file-told.ensures.untouched sure) (was_done came) is told) c.tell.ensures.told c.tell.ensures.came)

pub returns-in-Load-clause-cut : goal.returns-in-Load-clause-cut
returns-in-Load-clause-cut g c sure =
    let host = g.H.Host.view c.args.host.now in
    let old = c.args.office.now.seen in
    let new = c.load_file-told.new.office.seen in
    let fails = CountsMore (g.T.Tables.refusals c.args.office.now.tables) (g.T.Tables.refusals c.load_file-told.new.office.tables) in
    let device = change g.O.Sink.taken g.O.Sink.failures c.args.out.now c.tell.new.out in
    let load = load_of c.in-Load.load in
    subst (λ line. OnErr c.tell.result (StopsStep host fails old new device (step_of line))) (sym c.in-Load.is)
    (OnErr-map c.tell.result _ _
    (line_cut old new device c.load_file-told.result (λ s told t. LoadDoes host fails (midnight_of old) s load told t) (load_gives_up host fails (midnight_of old) load)
    (c.load_file-told.ensures.runs sure) (c.load_file-told.ensures.untouched sure)) c.tell.ensures.cut)

pub returns-in-Run-clause-done : goal.returns-in-Run-clause-done
returns-in-Run-clause-done g c sure =
    let host = g.H.Host.view c.args.host.now in
    let old = c.args.office.now.seen in
    let new = c.make_run-told.new.office.seen in
    let fails = CountsMore (g.T.Tables.refusals c.args.office.now.tables) (g.T.Tables.refusals c.make_run-told.new.office.tables) in
    let device = change g.O.Sink.taken g.O.Sink.failures c.args.out.now c.tell-in-Run.new.out in
    let run = run_of c.in-Run.run' in
    subst (λ line. IfOk c.tell-in-Run.result (λ came. RunsStep host fails old new device (step_of line) (was_done came))) (sym c.in-Run.is)
    (ok_both c.tell-in-Run.result _ _ _
    (λ came told is.
    line_done old new device c.make_run-told.result (λ s told t. RunDoes fails (midnight_of old) s run told t) (run_gives_up fails (midnight_of old) run)
    (c.make_run-told.ensures.runs sure) (c.make_run-told.ensures.untouched sure) (was_done came) is told) c.tell-in-Run.ensures.told c.tell-in-Run.ensures.came)

pub returns-in-Run-clause-cut : goal.returns-in-Run-clause-cut
returns-in-Run-clause-cut g c sure =
    let host = g.H.Host.view c.args.host.now in
    let old = c.args.office.now.seen in
    let new = c.make_run-told.new.office.seen in
    let fails = CountsMore (g.T.Tables.refusals c.args.office.now.tables) (g.T.Tables.refusals c.make_run-told.new.office.tables) in
    let device = change g.O.Sink.taken g.O.Sink.failures c.args.out.now c.tell-in-Run.new.out in
    let run = run_of c.in-Run.run' in
    subst (λ line. OnErr c.tell-in-Run.result (StopsStep host fails old new device (step_of line))) (sym c.in-Run.is)
    (OnErr-map c.tell-in-Run.result _ _
    (line_cut old new device c.make_run-told.result (λ s told t. RunDoes fails (midnight_of old) s run told t) (run_gives_up fails (midnight_of old) run)
    (c.make_run-told.ensures.runs sure) (c.make_run-told.ensures.untouched sure)) c.tell-in-Run.ensures.cut)

pub returns-in-Serve-clause-done : goal.returns-in-Serve-clause-done
returns-in-Serve-clause-done g c sure =
    let host = g.H.Host.view c.args.host.now in
    let old = c.args.office.now.seen in
    let new = c.serve_connections.new.office.seen in
    let fails = CountsMore (g.T.Tables.refusals c.args.office.now.tables) (g.T.Tables.refusals c.serve_connections.new.office.tables) in
    let device = change g.O.Sink.taken g.O.Sink.failures c.args.out.now c.serve_connections.new.out in
    subst (λ line. IfOk c.serve_connections.result (λ came. RunsStep host fails old new device (step_of line) (was_done came))) (sym c.in-Serve.is)
    (c.serve_connections.ensures.done sure)

pub returns-in-Serve-clause-cut : goal.returns-in-Serve-clause-cut
returns-in-Serve-clause-cut g c sure =
    let host = g.H.Host.view c.args.host.now in
    let old = c.args.office.now.seen in
    let new = c.serve_connections.new.office.seen in
    let fails = CountsMore (g.T.Tables.refusals c.args.office.now.tables) (g.T.Tables.refusals c.serve_connections.new.office.tables) in
    let device = change g.O.Sink.taken g.O.Sink.failures c.args.out.now c.serve_connections.new.out in
    subst (λ line. OnErr c.serve_connections.result (StopsStep host fails old new device (step_of line))) (sym c.in-Serve.is)
    (c.serve_connections.ensures.cut sure)

pub returns-in-Report-clause-done : goal.returns-in-Report-clause-done
returns-in-Report-clause-done g c sure =
    let host = g.H.Host.view c.args.host.now in
    let old = c.args.office.now.seen in
    let new = c.write_report.new.office.seen in
    let fails = CountsMore (g.T.Tables.refusals c.args.office.now.tables) (g.T.Tables.refusals c.write_report.new.office.tables) in
    let device = change g.O.Sink.taken g.O.Sink.failures c.args.out.now c.write_report.new.out in
    subst (λ line. IfOk c.write_report.result (λ came. RunsStep host fails old new device (step_of line) (was_done came))) (sym c.in-Report.is)
    (IfOk-map c.write_report.result _ _
    (λ came. report_step host fails old new (c.write_report.ensures.same sure) device (report_of c.in-Report.report) (was_done came)) (c.write_report.ensures.done sure))

pub returns-in-Report-clause-cut : goal.returns-in-Report-clause-cut
returns-in-Report-clause-cut g c sure =
    let host = g.H.Host.view c.args.host.now in
    let old = c.args.office.now.seen in
    let new = c.write_report.new.office.seen in
    let fails = CountsMore (g.T.Tables.refusals c.args.office.now.tables) (g.T.Tables.refusals c.write_report.new.office.tables) in
    let device = change g.O.Sink.taken g.O.Sink.failures c.args.out.now c.write_report.new.out in
    subst (λ line. OnErr c.write_report.result (StopsStep host fails old new device (step_of line))) (sym c.in-Report.is)
    (OnErr-map c.write_report.result _ _ (report_stop host fails old new (c.write_report.ensures.same sure) device (report_of c.in-Report.report)) (c.write_report.ensures.cut sure))
