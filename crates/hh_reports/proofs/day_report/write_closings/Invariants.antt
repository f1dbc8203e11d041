use Rattle.std.proofs.Common.{◌+◌, ◌-◌, ◌++◌, take}
use Rattle.std.specs.List.{flat_map, range_with_len}
use Rattle.hh_devices.specs.DeviceChanges.{change}
use Rattle.hh_reports.specs.Output.{IsPassed}
use Rattle.hh_reports.specs.steps.DayReport.{closing_line}
use Rattle.hh_reports.proofs.day_report.write_closings.Given as goal

-- the residuals of the periods so far went out or are held back
abbrev pub invariant-loop-count : goal.invariant-loop-count
invariant-loop-count g l = IsPassed (change g.S.Sink.taken g.S.Sink.failures l.fn.out l.out) l.page (l.fn.page ++ flat_map (closing_line (l.closed + 1) l.fn.charges) (take l.count (range_with_len (l.closed + 1) (l.until - l.closed))))
