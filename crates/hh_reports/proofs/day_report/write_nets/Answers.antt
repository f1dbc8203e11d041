use Rattle.hh_reports.specs.DayReport.{net_line}
use Rattle.hh_reports.proofs.OutputLaws.{lines_more, lines_stopped, told_on}
use Rattle.hh_reports.proofs.day_report.write_nets.Goals as goal

pub returns-in_err-write_net : goal.returns-in_err-write_net
returns-in_err-write_net g c =
    told_on _ c.write_net.new.page _ c.in_err-write_net.field-0.0 _ c.from_residual.ensures.1
    (lines_stopped net_line c.args.nets.now c.loop-net.net-index c.net-item.result c.loop-net-test.true c.net-item.is _ _ _ _ _ _ _ _ c.in_err-write_net.field-0.0 c.loop-net.invariant c.in_err-write_net.ensures)

pub loop-net-preserved : goal.loop-net-preserved
loop-net-preserved g c =
    lines_more net_line c.args.nets.now c.loop-net.net-index c.net-item.result c.loop-net-test.true c.net-item.is _ _ _ _ _ _ _ _ _ c.loop-net.invariant c.in_ok-write_net.ensures
