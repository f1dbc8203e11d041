-- What the steps of a judgement tell of a row that comes to a register.
use Rattle.std.specs.Prelude.{◌≡◌, ℤ, Bool, Option, Some, None}
use Rattle.jiff.specs.declared.tz.timezone.TimeZone.{TimeZone}
use Rattle.jiff.specs.Words.{plain_zone}
use Rattle.hh_rows.specs.day.Day.{Day}
use Rattle.hh_rows.specs.Zone.{count_in, midnight_in}
use Rattle.hh_names.specs.declared.fault.Refusal.{Refusal}
use Rattle.hh_rows.specs.declared.rows.Row.{Row}
use Rattle.hh_rules.specs.RegisterView.{RegisterView, in_time_at, refusal_at}

-- the kept Settlement Day, if there is one, is one of the zone
abbrev pub IsKeptIn : TimeZone → Option Day → Type 0
IsKeptIn zone None = Unit {0}
IsKeptIn zone (Some day) =
    (day.start ≡ midnight_in (plain_zone zone) day.date) × (count_in (plain_zone zone) day.date ≡ Some day.count)

-- for a row that comes to a register at a moment
module _ (zone : TimeZone) (register : RegisterView) (moment : ℤ) (r : Row) where
  -- a mark tells whether the row comes in time
  abbrev pub TellsInTime : Bool → Type 0
  TellsInTime in_time = in_time ≡ in_time_at zone register moment r

  -- the row is refused for this reason
  abbrev pub IsRefusedFor : Refusal → Type 0
  IsRefusedFor why = refusal_at zone register moment r ≡ Some why
