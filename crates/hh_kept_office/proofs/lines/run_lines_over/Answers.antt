use Rattle.std.proofs.Common.{map, IsTrue, subst, sym}
use Rattle.hh_devices.specs.DeviceChanges.{change}
use Rattle.hh_script.specs.Steps.{step_of}
use Rattle.hh_session.proofs.CourseLaws.{OnOk-map, ended_early}
use Rattle.hh_session.specs.Course.{AllDone}
use Rattle.hh_session.specs.Refusals.{CountsMore}
use Rattle.hh_kept_office.proofs.OverLaws.{early_over, runs_over}
use Rattle.hh_kept_office.proofs.lines.run_lines_over.Goals as goal

pub returns-clause-done : goal.returns-clause-done
returns-clause-done g c up =
    let stood = subst (λ t. IsTrue (g.T.Tables.is_open t)) c.into_tables.ensures.same up in
    OnOk-map c.run_lines-ran.result _ _
    (runs_over (g.H.Host.view c.args.host.now)
    (CountsMore (g.T.Tables.refusals c.args.tables) (g.T.Tables.refusals c.into_tables.result)) c.london.result c.london.ensures
    (g.T.Tables.content c.args.tables) (g.T.Tables.content c.into_tables.result) c.run_lines-ran.new.office.seen c.into_tables.ensures.content
    (change g.O.Sink.taken g.O.Sink.failures c.args.out.now c.run_lines-ran.new.out) (AllDone c.args.strict) (map step_of c.args.lines.now))
    (rw (c.new-office.ensures.seen, c.new-office.ensures.tables, sym c.into_tables.ensures.same) at (c.run_lines-ran.ensures.done stood))

pub returns-clause-cut : goal.returns-clause-cut
returns-clause-cut g c up =
    let stood = subst (λ t. IsTrue (g.T.Tables.is_open t)) c.into_tables.ensures.same up in
    ended_early _ _ c.run_lines-ran.result
    (λ why _. early_over (g.H.Host.view c.args.host.now)
    (CountsMore (g.T.Tables.refusals c.args.tables) (g.T.Tables.refusals c.into_tables.result)) c.london.result c.london.ensures
    (g.T.Tables.content c.args.tables) (g.T.Tables.content c.into_tables.result) c.run_lines-ran.new.office.seen c.into_tables.ensures.content
    (change g.O.Sink.taken g.O.Sink.failures c.args.out.now c.run_lines-ran.new.out) c.args.strict (map step_of c.args.lines.now) why)
    (rw (c.new-office.ensures.seen, c.new-office.ensures.tables, sym c.into_tables.ensures.same) at (c.run_lines-ran.ensures.cut stood))
