-- The timing of a notification row.
use Rattle.std.specs.Prelude.{ℤ}
use Rattle.hh_rows.specs.declared.settlement_period.SettlementPeriod.{SettlementPeriod}
use Rattle.hh_rules.specs.declared.timing.Timing.{Timing}
use Rattle.hh_rules.specs.Lateness.{Timetable, is_before_deadline, is_there, timing_by}

-- the timing of a contract or reallocation row for a Settlement Period
abbrev pub notification_timing : Timetable → ℤ → SettlementPeriod → Timing
notification_timing timetable moment at =
    timing_by (is_there timetable.midnight at) (is_before_deadline timetable moment at)
