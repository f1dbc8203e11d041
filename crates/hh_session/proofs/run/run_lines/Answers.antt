use Rattle.std.proofs.Common.{◌+◌, map, take, ap, ◌∙◌, subst, sym}
use Rattle.std.proofs.lemmas.Bool.{true≢false}
use Rattle.std.proofs.lemmas.List.{take_all}
use Rattle.hh_devices.specs.DeviceChanges.{change}
use Rattle.hh_desk.specs.Refusals.{CountsMore}
use Rattle.hh_script.specs.Steps.{step_of}
use Rattle.hh_session.specs.Course.{AllDone, EndsEarly, RunsScript}
use Rattle.hh_session.specs.Came.{was_done}
use Rattle.hh_session.specs.declared.run.LinesStop.TheVariants.{Line, Output}
use Rattle.hh_session.proofs.CourseLaws.{early_conserves, ended_by, ended_early, first_steps, line_heard, line_heard_up, line_stops, next_step, script_conserves, script_stops, up_more}
use Rattle.hh_session.proofs.run.run_lines.Goals as goal
use Rattle.hh_session.proofs.run.run_lines.Goals.{else-strict-via-else-strict, else-strict-via-then-strict+else-not-was_done}

pub loop-index-preserved : goal.loop-index-preserved
loop-index-preserved g c = record {
  run = λ sure.
      let ran = c.hear.ensures.sure sure in
      let standing = c.in_ok-came.ensures.sure ran in
      line_heard (g.H.Host.view c.args.host.now) c.args.office.now.seen c.loop-index.office.seen c.run_line.new.office.seen c.hear.new.office.seen
      (g.T.Tables.refusals c.args.office.now.tables) (g.T.Tables.refusals c.loop-index.office.tables) (g.T.Tables.refusals c.run_line.new.office.tables) (g.T.Tables.refusals c.hear.new.office.tables)
      g.O.Sink.taken g.O.Sink.failures c.args.out.now c.loop-index.out c.run_line.new.out c.args.strict c.args.lines.now c.loop-index.index c.index-lines-index.result c.loop-index-test.true c.index-lines-index.is
      (c.loop-index.invariant.run standing) (c.loop-index.invariant.refusals_up standing) (c.in_ok-came.ensures.refusals_up ran) (was_done c.in_ok-came.came) (c.in_ok-came.ensures.done ran)
      (c.hear.ensures.same sure) (c.hear.ensures.refusals_up sure) (
      elim c.else-strict.branch [
        | else-strict-via-else-strict w ↦ λ strict. absurd (true≢false (sym strict ∙ w.if-strict.false))
        | else-strict-via-then-strict+else-not-was_done w ↦ λ _. sym w.was_done.ensures ∙ w.if-not-was_done.false
      ]);
  refusals_up = λ sure.
      let ran = c.hear.ensures.sure sure in
      let standing = c.in_ok-came.ensures.sure ran in
      line_heard_up (g.H.Host.view c.args.host.now) c.args.office.now.seen c.loop-index.office.seen c.run_line.new.office.seen c.hear.new.office.seen
      (g.T.Tables.refusals c.args.office.now.tables) (g.T.Tables.refusals c.loop-index.office.tables) (g.T.Tables.refusals c.run_line.new.office.tables) (g.T.Tables.refusals c.hear.new.office.tables)
      g.O.Sink.taken g.O.Sink.failures c.args.out.now c.loop-index.out c.run_line.new.out c.args.strict c.args.lines.now c.loop-index.index c.index-lines-index.result c.loop-index-test.true c.index-lines-index.is
      (c.loop-index.invariant.run standing) (c.loop-index.invariant.refusals_up standing) (c.in_ok-came.ensures.refusals_up ran) (was_done c.in_ok-came.came) (c.in_ok-came.ensures.done ran)
      (c.hear.ensures.same sure) (c.hear.ensures.refusals_up sure);
  sure = λ sure. c.loop-index.invariant.sure (c.in_ok-came.ensures.sure (c.hear.ensures.sure sure));
  well = c.in_ok-came.ensures.well ∙ c.loop-index.invariant.well;
}

pub returns-then-not-was_done-clause-cut : goal.returns-then-not-was_done-clause-cut
returns-then-not-was_done-clause-cut g c sure =
    let ran = c.hear.ensures.sure sure in
    let standing = c.in_ok-came.ensures.sure ran in
    line_stops (g.H.Host.view c.args.host.now) c.args.office.now.seen c.loop-index.office.seen c.run_line.new.office.seen c.hear.new.office.seen
    (g.T.Tables.refusals c.args.office.now.tables) (g.T.Tables.refusals c.loop-index.office.tables) (g.T.Tables.refusals c.run_line.new.office.tables) (g.T.Tables.refusals c.hear.new.office.tables)
    g.O.Sink.taken g.O.Sink.failures c.args.out.now c.loop-index.out c.run_line.new.out c.args.strict c.args.lines.now c.loop-index.index c.index-lines-index.result c.loop-index-test.true c.index-lines-index.is
    (c.loop-index.invariant.run standing) (c.loop-index.invariant.refusals_up standing) (c.in_ok-came.ensures.refusals_up ran) (was_done c.in_ok-came.came) (c.in_ok-came.ensures.done ran)
    (c.hear.ensures.same sure) (c.hear.ensures.refusals_up sure)
    c.if-strict.true (sym c.was_done.ensures ∙ c.if-not-was_done.true)

pub returns-then-not-was_done-clause-sums_cut : goal.returns-then-not-was_done-clause-sums_cut
returns-then-not-was_done-clause-sums_cut g c sure =
    early_conserves c.reached_conserve.ensures (g.H.Host.view c.args.host.now) (CountsMore (g.T.Tables.refusals c.args.office.now.tables) (g.T.Tables.refusals c.hear.new.office.tables))
    c.args.office.now.seen c.hear.new.office.seen (change g.O.Sink.taken g.O.Sink.failures c.args.out.now c.run_line.new.out) c.args.strict (map step_of c.args.lines.now) (Line (c.loop-index.index + 1))
    (returns-then-not-was_done-clause-cut g c sure)

pub returns-then-not-was_done-clause-refusals_up : goal.returns-then-not-was_done-clause-refusals_up
returns-then-not-was_done-clause-refusals_up g c sure =
    let ran = c.hear.ensures.sure sure in
    let standing = c.in_ok-came.ensures.sure ran in
    line_heard_up (g.H.Host.view c.args.host.now) c.args.office.now.seen c.loop-index.office.seen c.run_line.new.office.seen c.hear.new.office.seen
    (g.T.Tables.refusals c.args.office.now.tables) (g.T.Tables.refusals c.loop-index.office.tables) (g.T.Tables.refusals c.run_line.new.office.tables) (g.T.Tables.refusals c.hear.new.office.tables)
    g.O.Sink.taken g.O.Sink.failures c.args.out.now c.loop-index.out c.run_line.new.out c.args.strict c.args.lines.now c.loop-index.index c.index-lines-index.result c.loop-index-test.true c.index-lines-index.is
    (c.loop-index.invariant.run standing) (c.loop-index.invariant.refusals_up standing) (c.in_ok-came.ensures.refusals_up ran) (was_done c.in_ok-came.came) (c.in_ok-came.ensures.done ran)
    (c.hear.ensures.same sure) (c.hear.ensures.refusals_up sure)

pub returns-then-not-was_done-clause-sure : goal.returns-then-not-was_done-clause-sure
returns-then-not-was_done-clause-sure g c sure = c.loop-index.invariant.sure (c.in_ok-came.ensures.sure (c.hear.ensures.sure sure))

pub returns-in_err-came-clause-cut : goal.returns-in_err-came-clause-cut
returns-in_err-came-clause-cut g c sure =
    let lines = c.args.lines.now in
    let i = c.loop-index.index in
    let taken = g.O.Sink.taken in
    let failures = g.O.Sink.failures in
    let refusals = g.T.Tables.refusals in
    let host = g.H.Host.view c.args.host.now in
    let standing = c.in_err-came.ensures.sure sure in
    let stopped = script_stops host c.args.office.now.seen c.loop-index.office.seen c.run_line.new.office.seen
    (refusals c.args.office.now.tables) (refusals c.loop-index.office.tables) (refusals c.run_line.new.office.tables) taken failures c.args.out.now c.loop-index.out c.run_line.new.out c.args.strict
    (map step_of (take i lines)) (step_of c.index-lines-index.result) (c.loop-index.invariant.run standing) (c.loop-index.invariant.refusals_up standing) (c.in_err-came.ensures.refusals_up sure)
    (map step_of lines) (i + 1) (first_steps lines (i + 1) ∙ next_step lines i c.index-lines-index.result c.loop-index-test.true c.index-lines-index.is) (c.in_err-came.ensures.cut sure) in
    ended_by (EndsEarly host (CountsMore (refusals c.args.office.now.tables) (refusals c.run_line.new.office.tables)) c.args.office.now.seen c.run_line.new.office.seen
    (change taken failures c.args.out.now c.run_line.new.out) c.args.strict (map step_of lines)) c.from_residual.result Output c.from_residual.ensures.1 stopped

pub returns-in_err-came-clause-sums_cut : goal.returns-in_err-came-clause-sums_cut
returns-in_err-came-clause-sums_cut g c sure =
    ended_early _ _ c.from_residual.result
    (λ why _. early_conserves c.reached_conserve.ensures (g.H.Host.view c.args.host.now) (CountsMore (g.T.Tables.refusals c.args.office.now.tables) (g.T.Tables.refusals c.run_line.new.office.tables))
    c.args.office.now.seen c.run_line.new.office.seen (change g.O.Sink.taken g.O.Sink.failures c.args.out.now c.run_line.new.out) c.args.strict (map step_of c.args.lines.now) why)
    (returns-in_err-came-clause-cut g c sure)

pub returns-in_err-came-clause-refusals_up : goal.returns-in_err-came-clause-refusals_up
returns-in_err-came-clause-refusals_up g c sure =
    let standing = c.in_err-came.ensures.sure sure in
    up_more (g.H.Host.view c.args.host.now) c.args.office.now.seen c.loop-index.office.seen c.run_line.new.office.seen
    _ _ _ g.O.Sink.taken g.O.Sink.failures c.args.out.now c.loop-index.out c.run_line.new.out c.args.strict (map step_of (take c.loop-index.index c.args.lines.now)) (step_of c.index-lines-index.result)
    (c.loop-index.invariant.run standing) (c.loop-index.invariant.refusals_up standing) (c.in_err-came.ensures.refusals_up sure)

pub returns-clause-sums : goal.returns-clause-sums
returns-clause-sums g c sure =
    let lines = c.args.lines.now in
    let i = c.loop-index.index in
    let taken = g.O.Sink.taken in
    let failures = g.O.Sink.failures in
    let host = g.H.Host.view c.args.host.now in
    let fails = CountsMore (g.T.Tables.refusals c.args.office.now.tables) (g.T.Tables.refusals c.loop-index.office.tables) in
    script_conserves c.reached_conserve.ensures host fails c.args.office.now.seen c.loop-index.office.seen (change taken failures c.args.out.now c.loop-index.out) (AllDone c.args.strict) (map step_of lines)
    (subst (RunsScript host fails c.args.office.now.seen c.loop-index.office.seen (change taken failures c.args.out.now c.loop-index.out) (AllDone c.args.strict)) (ap (map step_of) (take_all i lines c.loop-index-test.false)) (c.loop-index.invariant.run sure))
