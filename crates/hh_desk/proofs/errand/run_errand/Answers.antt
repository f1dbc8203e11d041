use Rattle.std.proofs.Common.{subst, sym}
use Rattle.hh_devices.specs.DeviceChanges.{change}
use Rattle.hh_http_serve.specs.Refusals.{CountsMore}
use Rattle.hh_script.specs.Reports.{report_of}
use Rattle.hh_script.specs.Steps.{load_of, run_of}
use Rattle.hh_desk.specs.Errands.{EndsErrand, errand_of}
use Rattle.hh_desk.specs.ErrandCrashes.{ErrandLeaves}
use Rattle.hh_desk.proofs.ErrandCrashLaws.{ends_by}
use Rattle.hh_desk.proofs.ErrandLaws.{load_ends, report_ends, run_ends}
use Rattle.hh_desk.proofs.errand.run_errand.Goals as goal

pub returns-in-Load-clause-ends : goal.returns-in-Load-clause-ends
returns-in-Load-clause-ends g c sure =
    let host = g.H.Host.view c.args.host.now in
    let old = c.args.office.now.seen in
    let new = c.load_file-told.new.office.seen in
    let fails = CountsMore (g.T.Tables.refusals c.args.office.now.tables) (g.T.Tables.refusals c.load_file-told.new.office.tables) in
    let device = change g.O.Sink.taken g.O.Sink.failures c.args.out.now c.tell.new.out in
    subst (λ errand. EndsErrand host fails old new device (errand_of errand) c.tell.result) (sym c.in-Load.is)
    (load_ends host fails old new device (load_of c.in-Load.load) c.load_file-told.result c.tell.result (c.load_file-told.ensures.runs sure) c.tell.ensures.told)

pub returns-in-Run-clause-ends : goal.returns-in-Run-clause-ends
returns-in-Run-clause-ends g c sure =
    let host = g.H.Host.view c.args.host.now in
    let old = c.args.office.now.seen in
    let new = c.make_run-told.new.office.seen in
    let fails = CountsMore (g.T.Tables.refusals c.args.office.now.tables) (g.T.Tables.refusals c.make_run-told.new.office.tables) in
    let device = change g.O.Sink.taken g.O.Sink.failures c.args.out.now c.tell-in-Run.new.out in
    subst (λ errand. EndsErrand host fails old new device (errand_of errand) c.tell-in-Run.result) (sym c.in-Run.is)
    (run_ends host fails old new device (run_of c.in-Run.run') c.make_run-told.result c.tell-in-Run.result (c.make_run-told.ensures.runs sure) c.tell-in-Run.ensures.told)

pub returns-in-Report-clause-ends : goal.returns-in-Report-clause-ends
returns-in-Report-clause-ends g c sure =
    let host = g.H.Host.view c.args.host.now in
    let old = c.args.office.now.seen in
    let new = c.write_report.new.office.seen in
    let fails = CountsMore (g.T.Tables.refusals c.args.office.now.tables) (g.T.Tables.refusals c.write_report.new.office.tables) in
    let device = change g.O.Sink.taken g.O.Sink.failures c.args.out.now c.write_report.new.out in
    subst (λ errand. EndsErrand host fails old new device (errand_of errand) c.write_report.result) (sym c.in-Report.is)
    (report_ends host fails old new device (report_of c.in-Report.report) c.write_report.result (c.write_report.ensures.same sure) (c.write_report.ensures.ends sure))

pub returns-in-Load-clause-left : goal.returns-in-Load-clause-left
returns-in-Load-clause-left g c =
    let device = change g.O.Sink.taken g.O.Sink.failures c.args.out.now c.tell.new.out in
    subst (λ errand. ErrandLeaves g.T.Tables.is_honest g.T.Tables.is_open g.T.Tables.may_leave g.T.Tables.holds c.args.office.now c.load_file-told.new.office (g.H.Host.view c.args.host.now) (errand_of errand) c.tell.result) (sym c.in-Load.is)
    (c.load_file-told.ensures.honest, (c.load_file-told.result, c.load_file-told.ensures.left, ends_by device c.load_file-told.result c.tell.result c.tell.ensures.told))

pub returns-in-Run-clause-left : goal.returns-in-Run-clause-left
returns-in-Run-clause-left g c =
    let device = change g.O.Sink.taken g.O.Sink.failures c.args.out.now c.tell-in-Run.new.out in
    subst (λ errand. ErrandLeaves g.T.Tables.is_honest g.T.Tables.is_open g.T.Tables.may_leave g.T.Tables.holds c.args.office.now c.make_run-told.new.office (g.H.Host.view c.args.host.now) (errand_of errand) c.tell-in-Run.result) (sym c.in-Run.is)
    (c.make_run-told.ensures.honest, (c.make_run-told.result, c.make_run-told.ensures.left, ends_by device c.make_run-told.result c.tell-in-Run.result c.tell-in-Run.ensures.told))
