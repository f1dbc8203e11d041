-- What comes of a command at an office whose tables are kept.
use Rattle.std.specs.Prelude.{◌≡◌, ◌⊎◌, ℕ, List, Result, Err, codes}
use Rattle.sqlite.specs.Effect.{Database}
use Rattle.jiff.specs.declared.tz.timezone.TimeZone.{TimeZone}
use Rattle.hh_devices.specs.DeviceChanges.{DeviceChange}
use Rattle.hh_rows.specs.declared.settings.Settings.{Settings}
use Rattle.hh_states.specs.Content.{Content}
use Rattle.hh_store.specs.declared.store_fault.StoreFault.{StoreFault}
use Rattle.hh_store.specs.StoreFaults.{store_fault}
use Rattle.hh_host.specs.Views.{HostView}
use Rattle.hh_session.specs.errand.ErrandStop.{ErrandStop}
use Rattle.hh_session.specs.errand.ErrandStop.TheVariants as stop
use Rattle.hh_session.specs.Errands.{EndsErrand, ErrandStep}
use Rattle.hh_sqlrows.specs.Contents.{beside_in, mark_in}
use Rattle.hh_sqlrows.specs.Office.{IsOffice}
use Rattle.hh_sqlstore.specs.Holds.{HasSettings, Holds}
use Rattle.hh_sqlstore.specs.Values.{version}
use Rattle.hh_session.specs.Script.{IsMarketZone}
use Rattle.hh_session.specs.Views.{OfficeView}

-- an office in the zone of the market
abbrev pub office_of : TimeZone → Content → OfficeView
office_of zone content = record { zone = zone; content = content }

-- `host` is what a host may show about files and ports. The store may have failed only if `fails` holds. `device` is the change of an
-- output.
module _ (host : HostView) (fails : Type 0) (device : DeviceChange) where
  -- a command ended with `result` at an office in the market's zone, whose content was `before` and is `after`
  abbrev pub EndsOver : Content → Content → ErrandStep → Result Unit ErrandStop → Type 0
  EndsOver before after step result =
      (zone : TimeZone) × IsMarketZone zone × EndsErrand host fails (office_of zone before) (office_of zone after) device step result

  -- the same, and a database contains the tables after the command
  abbrev pub LeavesKept : Content → Database → ErrandStep → Result Unit ErrandStop → Type 0
  LeavesKept before left step result = (after : Content) × Holds version after left × EndsOver before after step result

  -- the tables were not taken over: nothing was written, and the database is as it was
  abbrev pub IsNotTaken : Database → Database → Result Unit ErrandStop → Type 0
  IsNotTaken found left result = (fault : StoreFault) × (result ≡ Err (stop.Refused (store_fault fault))) × (device.new ≡ device.old) × (left ≡ found)

  -- a command ended with `result` over a database. The database contained the tables of an office, and contains those after the command; or
  -- they were not taken over
  abbrev pub EndsKept : Database → Database → ErrandStep → Result Unit ErrandStop → Type 0
  EndsKept found left step result =
      ((before : Content) × Holds version before found × LeavesKept before left step result) ⊎ IsNotTaken found left result

-- a command was refused for a fault of a store
abbrev pub IsRefusedByStore : ErrandStop → Type 0
IsRefusedByStore why = (fault : StoreFault) × (why ≡ stop.Refused (store_fault fault))

-- A database has become that of an office of the present version, with settings that name it. If it contained the content of an office of
-- version 1, it contains the same content. If it was of the present version, it is as it was. What is kept beside the content is as it was.
pub record BecomesPresent (old new : Database) : Type 0 where
  pub is_office : IsOffice new
  pub kept : Settings
  pub settings : HasSettings version kept new.trees
  pub from_one : (content : Content) → Holds 1 content old → Holds version content new
  pub from_present : (content : Content) → Holds version content old → new ≡ old
  pub mark : mark_in new.trees ≡ mark_in old.trees
  pub beside : beside_in new.trees ≡ beside_in old.trees

-- what is told when an office was made
abbrev pub ready_line : List ℕ
ready_line = codes "ready\n"

-- what is told when an office was taken to the present version
abbrev pub version_line : List ℕ
version_line = codes "version 2\n"
