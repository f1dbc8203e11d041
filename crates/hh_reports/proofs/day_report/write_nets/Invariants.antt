use Rattle.std.proofs.Common.{◌++◌, take}
use Rattle.std.specs.List.{flat_map}
use Rattle.hh_devices.specs.DeviceChanges.{change}
use Rattle.hh_reports.specs.DayReport.{net_line}
use Rattle.hh_reports.specs.Output.{IsPassed}
use Rattle.hh_reports.proofs.day_report.write_nets.Given as goal

-- the lines of the nets so far went out or are held back
abbrev pub invariant-loop-net : goal.invariant-loop-net
invariant-loop-net g l = IsPassed (change g.S.Sink.taken g.S.Sink.failures l.fn.out l.out) l.page (l.fn.page ++ flat_map net_line (take l.net-index l.nets))
