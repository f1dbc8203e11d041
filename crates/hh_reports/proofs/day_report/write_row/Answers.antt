use Rattle.std.proofs.Common.{◌-◌, ◌++◌, [], ap, cond, min, subst, sym}
use Rattle.hh_devices.specs.DeviceChanges.{change}
use Rattle.hh_reports.specs.DayReport.{period_account_line}
use Rattle.hh_reports.specs.steps.Output.{Passes}
use Rattle.hh_reports.specs.steps.DayReport.{closing_lines, run_row_lines}
use Rattle.hh_reports.proofs.DayLaws.{inside_run}
use Rattle.hh_reports.proofs.OutputLaws.{stopped_before, told_on, written_on}
use Rattle.hh_reports.proofs.ReportLaws.{short_word}
use Rattle.hh_reports.proofs.day_report.write_row.Goals as goal

pub returns-in_err-write_closings : goal.returns-in_err-write_closings
returns-in_err-write_closings g c =
    let run = c.args.run.now in
    let fault = c.in_err-write_closings.field-0.0 in
    let closings = closing_lines (min run.periods (c.args.last - 1)) c.args.charges (min run.periods (c.args.period - 1)) in
    let line = run_row_lines run (c.args.period, c.args.row.now) in
    told_on _ c.write_closings.new.page _ fault _ c.from_residual.ensures.1
    (stopped_before _ c.args.page.now closings line fault (rw (c.closed_before-closed.ensures.value, c.closed_before-until.ensures.value, short_word c.args.charges c.requires) at c.in_err-write_closings.ensures))

pub returns : goal.returns
returns g c =
    let run = c.args.run.now in
    let closings = closing_lines (min run.periods (c.args.last - 1)) c.args.charges (min run.periods (c.args.period - 1)) in
    let line = run_row_lines run (c.args.period, c.args.row.now) in
    let written = subst (λ l. Passes (change g.S.Sink.taken g.S.Sink.failures c.write_closings.new.out c.write_account.new.out) c.write_account.new.page (c.write_closings.new.page ++ l) c.write_account.result)
    (sym (ap (λ b. cond b (period_account_line c.args.period c.args.row.now) []) (inside_run c.args.period run.periods c.if-period-run.false))) c.write_account.ensures in
    written_on _ _ _ c.args.page.now _ c.write_account.new.page _ _ _ closings line c.write_account.result
    (rw (c.closed_before-closed.ensures.value, c.closed_before-until.ensures.value, short_word c.args.charges c.requires) at c.in_ok-write_closings.ensures) written
