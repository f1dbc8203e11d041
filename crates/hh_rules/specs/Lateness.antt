-- Whether the Settlement Period of a row exists, and whether the row comes in time for it.
use Rattle.std.specs.Prelude.{ℕ, ℤ, int_lt, Bool, true, false, if◌then◌else◌}
use Rattle.hh_rows.specs.Days.{Midnights, deadline, has_period}
use Rattle.hh_rows.specs.declared.settlement_period.SettlementPeriod.{SettlementPeriod}
use Rattle.hh_rows.specs.declared.rows.Row.{Row}
use Rattle.hh_rows.specs.declared.rows.Row.TheVariants as row
use Rattle.hh_rules.specs.declared.timing.Timing.{Timing}
use Rattle.hh_rules.specs.declared.timing.Timing.TheVariants.{NoSuchPeriod, Late, InTime}

-- when local midnights fall, and how many minutes before a period its notifications close
pub record Timetable : Type 0 where
  pub midnight : Midnights
  pub lead_minutes : ℕ

-- an accepted row with the moment at which it came
pub record Accepted : Type 0 where
  pub moment : ℤ
  pub row : Row

-- a row that came at a moment, if it is accepted
abbrev pub accepted_at : ℤ → Row → Accepted
accepted_at moment r = record { moment = moment; row = r }

-- the date of a Settlement Period has a period of its number
abbrev pub is_there : Midnights → SettlementPeriod → Bool
is_there midnight at = has_period midnight at.date at.period

-- whether a moment lies before the deadline of a Settlement Period
abbrev pub is_before_deadline : Timetable → ℤ → SettlementPeriod → Bool
is_before_deadline timetable moment at =
    int_lt moment (deadline timetable.midnight timetable.lead_minutes at.date at.period)

-- the row's date has the row's period; rows of parties and units have none
abbrev pub has_its_period : Midnights → Row → Bool
has_its_period midnight (row.Meter r) = is_there midnight r.key.at
has_its_period midnight (row.Price r) = is_there midnight r.at
has_its_period midnight (row.Contract r) = is_there midnight r.key.at
has_its_period midnight (row.Reallocation r) = is_there midnight r.key.unit_period.at
has_its_period midnight _ = true

-- a contract or reallocation row is in time if its moment lies before its period's deadline; other rows are never late
abbrev pub is_in_time : Timetable → Accepted → Bool
is_in_time timetable a = elim a.row [
  | row.Contract r ↦ is_before_deadline timetable a.moment r.key.at
  | row.Reallocation r ↦ is_before_deadline timetable a.moment r.key.unit_period.at
  | _ ↦ true
]

-- the timing of a row, by whether its date has its period, and whether it comes in time
abbrev pub timing_by : Bool → Bool → Timing
timing_by has_period in_time = if has_period then (if in_time then InTime else Late) else NoSuchPeriod

-- the timing of a row
abbrev pub timing_of : Timetable → Accepted → Timing
timing_of timetable a = timing_by (has_its_period timetable.midnight a.row) (is_in_time timetable a)

-- the date lacks the period
abbrev pub lacks_period : Timing → Bool
lacks_period NoSuchPeriod = true
lacks_period _ = false

-- the row is not late
abbrev pub comes_in_time : Timing → Bool
comes_in_time InTime = true
comes_in_time _ = false
