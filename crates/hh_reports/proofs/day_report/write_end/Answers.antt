use Rattle.std.proofs.Common.{◌-◌, ◌++◌, min}
use Rattle.std.specs.Prelude.{codes}
use Rattle.std.specs.List.{flat_map}
use Rattle.hh_reports.specs.DayReport.{net_line}
use Rattle.hh_reports.specs.steps.DayReport.{closing_lines}
use Rattle.hh_reports.proofs.OutputLaws.{stopped_before, stopped_on, told_on, went_on, written_on}
use Rattle.hh_reports.proofs.ReportLaws.{short_word}
use Rattle.hh_reports.proofs.day_report.write_end.Goals as goal

pub returns-in_err-write_closings : goal.returns-in_err-write_closings
returns-in_err-write_closings g c =
    let page = c.args.page.now in
    let fault = c.in_err-write_closings.field-0.0 in
    let closings = closing_lines (min c.args.run.now.periods (c.args.last - 1)) c.args.charges c.args.run.now.periods in
    let nets = flat_map net_line c.args.nets.now in
    told_on _ c.write_closings.new.page _ fault _ c.from_residual.ensures.1
    (stopped_before _ page (closings ++ nets) (codes "END\n") fault
    (stopped_before _ page closings nets fault (rw (c.closed_before-closed.ensures.value, short_word c.args.charges c.requires) at c.in_err-write_closings.ensures)))

pub returns-in_err-write_nets : goal.returns-in_err-write_nets
returns-in_err-write_nets g c =
    let page = c.args.page.now in
    let fault = c.in_err-write_nets.field-0.0 in
    let closings = closing_lines (min c.args.run.now.periods (c.args.last - 1)) c.args.charges c.args.run.now.periods in
    let nets = flat_map net_line c.args.nets.now in
    told_on _ c.write_nets.new.page _ fault _ c.from_residual-in_err-write_nets.ensures.1
    (stopped_before _ page (closings ++ nets) (codes "END\n") fault
    (stopped_on _ _ _ page _ _ _ _ closings nets fault (rw (c.closed_before-closed.ensures.value, short_word c.args.charges c.requires) at c.in_ok-write_closings.ensures) c.in_err-write_nets.ensures))

pub returns : goal.returns
returns g c =
    let page = c.args.page.now in
    let closings = closing_lines (min c.args.run.now.periods (c.args.last - 1)) c.args.charges c.args.run.now.periods in
    let nets = flat_map net_line c.args.nets.now in
    written_on _ _ _ page _ c.put.new.self _ _ _ (closings ++ nets) (codes "END\n") c.put.result
    (went_on _ _ _ page _ _ _ _ _ closings nets (rw (c.closed_before-closed.ensures.value, short_word c.args.charges c.requires) at c.in_ok-write_closings.ensures) c.in_ok-write_nets.ensures) c.put.ensures
