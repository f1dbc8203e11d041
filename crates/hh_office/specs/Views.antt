-- What contracts see of an office.
use Rattle.std.specs.Prelude.{Bool, IsTrue}
use Rattle.jiff.specs.declared.tz.timezone.TimeZone.{TimeZone}
use Rattle.jiff.specs.Words.{plain_zone}
use Rattle.hh_time.specs.Days.{Midnights}
use Rattle.hh_time.specs.Zone.{midnight_in}
use Rattle.hh_states.specs.Content.{Content}

-- an office: the zone of its Settlement Days, and what its tables contain
pub record OfficeView : Type 0 where
  pub zone : TimeZone
  pub content : Content

-- An office as contracts see it: what its promises are about, and the tables themselves, about which a store tells more.
pub record Kept (T : Type 0) : Type 0 where
  pub seen : OfficeView
  pub tables : T

-- The premise of all that an office promises: its tables are open up to now, as the store says. Tables in memory always are. Those of a
-- file are if the disk returned what was written, nobody else wrote to it, and no fault has closed it.
abbrev pub IsSure : {T : Type 0} → (T → Bool) → Kept T → Type 0
IsSure is_open office = IsTrue (is_open office.tables)

-- when local midnights fall in an office's zone
abbrev pub midnight_of : OfficeView → Midnights
midnight_of office = midnight_in (plain_zone office.zone)
