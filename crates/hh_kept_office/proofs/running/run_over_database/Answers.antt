use Rattle.std.proofs.Common.{IsTrue, map, subst, sym}
use Rattle.sqlite.specs.Held.{state}
use Rattle.hh_devices.specs.DeviceChanges.{change}
use Rattle.hh_sqlstore.specs.Stores.{content_in}
use Rattle.hh_script.specs.Steps.{step_of}
use Rattle.hh_session.specs.Course.{AllDone}
use Rattle.hh_session.specs.Refusals.{CountsMore}
use Rattle.hh_kept_office.specs.Running.{EarlyOver, WritesOver}
use Rattle.hh_kept_office.proofs.RunningLaws.{early_over, err_then, ok_then, writes_over}
use Rattle.hh_kept_office.proofs.running.run_over_database.Goals as goal

pub returns-in-Ok-clause-done : goal.returns-in-Ok-clause-done
returns-in-Ok-clause-done g c up =
    let host = g.H.Host.view c.args.host.now in
    let device = change g.O.Sink.taken g.O.Sink.failures c.args.out.now c.run_lines_over-ran.new.out in
    let steps = map step_of c.args.lines.now in
    let tables = c.run_lines_over-ran.result.1 in
    let db = (state g.S.Store c.of-after.result.connection).committed in
    let stood : IsTrue (state g.S.Store tables.connection).is_open = subst (λ k. IsTrue (state g.S.Store k).is_open) c.of-after.ensures.connection up in
    subst (λ n. WritesOver host (CountsMore c.args.tables.refusals n) device db steps (content_in g.S.Store c.args.tables) (AllDone c.args.strict)) (sym c.of-after.ensures.refusals)
    (writes_over host device db (CountsMore c.args.tables.refusals tables.refusals) c.reached_conserve.ensures (content_in g.S.Store c.args.tables)
    (content_in g.S.Store tables) (c.of-after.ensures.holds up) (AllDone c.args.strict) steps
    (ok_then c.run_lines_over-ran.result.0 c.in-Ok.field-0 c.in-Ok.is (c.run_lines_over-ran.ensures.done stood)))

pub returns-in-Err-clause-cut : goal.returns-in-Err-clause-cut
returns-in-Err-clause-cut g c up =
    let host = g.H.Host.view c.args.host.now in
    let device = change g.O.Sink.taken g.O.Sink.failures c.args.out.now c.run_lines_over-ran.new.out in
    let steps = map step_of c.args.lines.now in
    let tables = c.run_lines_over-ran.result.1 in
    let db = (state g.S.Store c.of-after.result.connection).committed in
    let stood : IsTrue (state g.S.Store tables.connection).is_open = subst (λ k. IsTrue (state g.S.Store k).is_open) c.of-after.ensures.connection up in
    subst (λ n. EarlyOver host (CountsMore c.args.tables.refusals n) device db c.args.strict steps (content_in g.S.Store c.args.tables) c.in-Err.why) (sym c.of-after.ensures.refusals)
    (early_over host device db (CountsMore c.args.tables.refusals tables.refusals) c.reached_conserve.ensures (content_in g.S.Store c.args.tables)
    (content_in g.S.Store tables) (c.of-after.ensures.holds up) c.args.strict steps c.in-Err.why
    (err_then _ c.run_lines_over-ran.result.0 c.in-Err.why c.in-Err.is (c.run_lines_over-ran.ensures.cut stood)))
