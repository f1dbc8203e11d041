use Rattle.std.proofs.Common.{map, subst}
use Rattle.sqlite.specs.Held.{state}
use Rattle.hh_devices.specs.DeviceChanges.{change}
use Rattle.hh_sqlstore.specs.Stores.{content_in}
use Rattle.hh_script.specs.Steps.{step_of}
use Rattle.hh_session.specs.Course.{AllDone}
use Rattle.hh_session.specs.Refusals.{CountsMore}
use Rattle.hh_kept_office.specs.Running.{EarlyOver, WritesOver}
use Rattle.hh_kept_office.proofs.RunningLaws.{early_held, err_by, if_early, ok_by, writes_held}
use Rattle.hh_kept_office.proofs.running.run_in_database.Goals as goal

pub returns-in-Ok-clause-done : goal.returns-in-Ok-clause-done
returns-in-Ok-clause-done g c content held =
    let host = g.H.Host.view c.args.host.now in
    let device = change g.O.Sink.taken g.O.Sink.failures c.args.out.now c.run_over_database.new.out in
    let steps = map step_of c.args.lines.now in
    let old = content_in g.S.Store c.in-Ok.tables in
    ok_by _ c.run_over_database.result (λ after writes sure up.
    let db = (state g.S.Store after.connection).committed in
    writes_held host device db after.refusals (AllDone c.args.strict) steps old content (c.in-Ok.ensures.content content held (sure up))
    (subst (λ n. WritesOver host (CountsMore n after.refusals) device db steps old (AllDone c.args.strict)) c.in-Ok.ensures.unrefused (writes up)))
    c.run_over_database.ensures.done c.run_over_database.ensures.sure

pub returns-in-Ok-clause-cut : goal.returns-in-Ok-clause-cut
returns-in-Ok-clause-cut g c content held =
    let host = g.H.Host.view c.args.host.now in
    let device = change g.O.Sink.taken g.O.Sink.failures c.args.out.now c.run_over_database.new.out in
    let steps = map step_of c.args.lines.now in
    let old = content_in g.S.Store c.in-Ok.tables in
    err_by _ c.run_over_database.result (λ e cuts sure. if_early e.0 _ _ (λ why cut up.
    let db = (state g.S.Store e.1.connection).committed in
    early_held host device db e.1.refusals c.args.strict steps old content (c.in-Ok.ensures.content content held (sure up)) why
    (subst (λ n. EarlyOver host (CountsMore n e.1.refusals) device db c.args.strict steps old why) c.in-Ok.ensures.unrefused (cut up))) cuts)
    c.run_over_database.ensures.cut c.run_over_database.ensures.sure

pub returns-in-Ok-clause-untouched : goal.returns-in-Ok-clause-untouched
returns-in-Ok-clause-untouched g c =
    err_by _ c.run_over_database.result (λ e run sure refused. absurd (run refused)) c.run_over_database.ensures.run c.run_over_database.ensures.sure

pub returns-in-Ok-clause-left : goal.returns-in-Ok-clause-left
returns-in-Ok-clause-left g c =
    err_by _ c.run_over_database.result (λ e run sure refused. absurd (run refused)) c.run_over_database.ensures.run c.run_over_database.ensures.sure
