use Rattle.std.proofs.Common.{◌∙◌, ap, subst}
use Rattle.hh_devices.specs.DeviceChanges.{change}
use Rattle.hh_reports.specs.DayReport.{day_report_text}
use Rattle.hh_reports.specs.Output.{Sends}
use Rattle.hh_reports.proofs.OrderLaws.{text-sorted}
use Rattle.hh_reports.proofs.day_report.write_day_report.Goals as goal

pub returns : goal.returns
returns g c =
    let run = c.args.run.now in
    let sorted = c.in_ok-sorted.sorted.items in
    let same = ap (day_report_text run) c.deref.ensures.value ∙ text-sorted run c.args.rows.now sorted c.in_ok-sorted.ensures.same c.in_ok-sorted.ensures.stable in
    record { writes = subst (λ text. Sends (change g.S.Sink.taken g.S.Sink.failures c.args.out.now c.write_rising-2.new.out) text c.write_rising-2.result) same c.write_rising-2.ensures }
