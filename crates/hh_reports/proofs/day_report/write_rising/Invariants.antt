use Rattle.std.proofs.Common.{take}
use Rattle.hh_devices.specs.DeviceChanges.{change}
use Rattle.hh_reports.specs.Writers.{HasDay}
use Rattle.hh_reports.proofs.day_report.write_rising.Given as goal

-- the rows so far were given
abbrev pub invariant-loop-row : goal.invariant-loop-row
invariant-loop-row g l = HasDay (change g.S.Sink.taken g.S.Sink.failures l.fn.out l.out) l.writer l.run (take l.row-index l.rows)
