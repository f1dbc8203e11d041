use Rattle.hh_reports.specs.DayReport.{heads_line, title_line}
use Rattle.hh_reports.proofs.OutputLaws.{stopped_before, told_on, written_on}
use Rattle.hh_reports.proofs.day_report.write_heads.Goals as goal

pub returns-in_err-write_title : goal.returns-in_err-write_title
returns-in_err-write_title g c =
    let fault = c.in_err-write_title.field-0.0 in
    told_on _ c.write_title.new.page _ fault _ c.from_residual.ensures.1 (stopped_before _ c.args.page.now (title_line c.args.run.now) heads_line fault c.in_err-write_title.ensures)

pub returns : goal.returns
returns g c =
    written_on _ _ _ c.args.page.now _ c.put.new.self _ _ _ (title_line c.args.run.now) heads_line c.put.result c.in_ok-write_title.ensures (rw c.heads.ensures at c.put.ensures)
