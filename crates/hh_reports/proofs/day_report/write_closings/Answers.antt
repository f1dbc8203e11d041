use Rattle.std.proofs.Common.{◌+◌, ◌-◌, ◌<◌, ◌≤◌, ◌++◌, refl, subst, sym, take, arith}
use Rattle.std.specs.Prelude.{ℤ}
use Rattle.std.specs.List.{flat_map, range_with_len}
use Rattle.hh_devices.specs.DeviceChanges.{change}
use Rattle.hh_reports.specs.Output.{IsPassed}
use Rattle.hh_reports.specs.steps.DayReport.{closing_line, closing_lines}
use Rattle.hh_reports.proofs.ListLaws.{stopped_early}
use Rattle.hh_reports.proofs.OutputLaws.{lines_more, lines_stopped, told_on}
use Rattle.hh_reports.proofs.ReportLaws.{all_periods, among_periods, period_at, short_word}
use Rattle.hh_reports.proofs.day_report.write_closings.Goals as goal

pub returns-in_err-write_closing : goal.returns-in_err-write_closing
returns-in_err-write_closing g c =
    let first = c.args.closed + 1 in
    let total = c.args.until - c.args.closed in
    let step = c.loop-count.count in
    let inside : step < total = omega arith in
    let before = subst (λ (z : ℤ). IsPassed (change g.S.Sink.taken g.S.Sink.failures c.args.out.now c.loop-count.out) c.loop-count.page (c.args.page.now ++ flat_map (closing_line first z) (take step (range_with_len first total))))
    (short_word c.args.charges c.requires.small) c.loop-count.invariant in
    told_on _ c.write_closing.new.page _ c.in_err-write_closing.field-0.0 _ c.from_residual-in_err-write_closing.ensures.1
    (lines_stopped (closing_line first c.args.charges) (range_with_len first total) step (first + step) (among_periods first total step inside) (period_at first total step inside) _ _ _ _ _ _ _ _ c.in_err-write_closing.field-0.0 before (rw (short_word c.args.charges c.requires.small) at c.in_err-write_closing.ensures))

pub loop-count-preserved : goal.loop-count-preserved
loop-count-preserved g c =
    let first = c.args.closed + 1 in
    let total = c.args.until - c.args.closed in
    let step = c.loop-count.count in
    let inside : step < total = omega arith in
    let real = short_word c.args.charges c.requires.small in
    let before = subst (λ (z : ℤ). IsPassed (change g.S.Sink.taken g.S.Sink.failures c.args.out.now c.loop-count.out) c.loop-count.page (c.args.page.now ++ flat_map (closing_line first z) (take step (range_with_len first total))))
    real c.loop-count.invariant in
    subst (λ (z : ℤ). IsPassed (change g.S.Sink.taken g.S.Sink.failures c.args.out.now c.write_closing.new.out) c.write_closing.new.page (c.args.page.now ++ flat_map (closing_line first z) (take (step + 1) (range_with_len first total))))
    (sym real)
    (lines_more (closing_line first c.args.charges) (range_with_len first total) step (first + step) (among_periods first total step inside) (period_at first total step inside) _ _ _ _ _ _ _ _ _ before (rw real at c.in_ok-write_closing.ensures))

pub returns : goal.returns
returns g c =
    let first = c.args.closed + 1 in
    let total = c.args.until - c.args.closed in
    let all : total ≤ c.loop-count.count = omega arith in
    let before = subst (λ (z : ℤ). IsPassed (change g.S.Sink.taken g.S.Sink.failures c.args.out.now c.loop-count.out) c.loop-count.page (c.args.page.now ++ flat_map (closing_line first z) (take c.loop-count.count (range_with_len first total))))
    (short_word c.args.charges c.requires.small) c.loop-count.invariant in
    rw (all_periods first total c.loop-count.count all) at before

pub returns-in_err-pass : goal.returns-in_err-pass
returns-in_err-pass g c =
    let page = c.args.page.now in
    let fault = c.in_err-pass.field-0.0 in
    let closings = closing_lines c.args.closed c.args.charges c.args.until in
    told_on _ c.pass.new.self _ fault _ c.from_residual.ensures.1 (stopped_early _ page closings (page ++ closings) fault refl c.in_err-pass.ensures)
