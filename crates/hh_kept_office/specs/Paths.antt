-- What comes of a command on an office at a path.
use Rattle.std.specs.Prelude.{◌≡◌, ◌⊎◌, true, false, ℕ, List, Result, Ok, Err, IsTrue, ⊤}
use Rattle.std.specs.Io.KnownBytes.{Appends}
use Rattle.hh_devices.specs.DeviceChanges.{DeviceChange}
use Rattle.hh_devices.specs.Devices.{AppendsFront}
use Rattle.hh_rows.specs.declared.settings.Settings.{Settings}
use Rattle.hh_store.specs.declared.store_fault.StoreFault.{StoreFault}
use Rattle.hh_store.specs.StoreFaults.{store_fault}
use Rattle.hh_host.specs.Views.{HostView}
use Rattle.hh_session.specs.errand.ErrandStop.{ErrandStop}
use Rattle.hh_session.specs.errand.ErrandStop.TheVariants as stop
use Rattle.hh_session.specs.Errands.{ErrandStep}
use Rattle.hh_sqlstore.specs.Holds.{IsNewOffice}
use Rattle.hh_kept_office.specs.declared.path.PathStop.{PathStop}
use Rattle.hh_kept_office.specs.declared.path.PathStop.TheVariants.{Errand, Exists, NoFile}
use Rattle.hh_kept_office.specs.Places.{Connected, LeavesConnected, MigratesConnected, Places}
use Rattle.hh_kept_office.specs.Kept.{EndsKept, IsRefusedByStore, ready_line, version_line}

-- the fault of a command if a database is not opened
abbrev pub unopened_stop : StoreFault → PathStop
unopened_stop fault = Errand (stop.Refused (store_fault fault))

-- how a command at a path ends, given how it ended on the database there
abbrev pub at_path : Result Unit ErrandStop → Result Unit PathStop
at_path (Ok x) = Ok x
at_path (Err why) = Err (Errand why)

-- A database in which an office was to be made was closed. If the office was refused, it was removed as well.
abbrev pub IsPutAway : Type 0 → Type 0 → Result Unit ErrandStop → Type 0
IsPutAway closed discarded (Ok x) = closed
IsPutAway closed discarded (Err stop.Output) = closed
IsPutAway closed discarded (Err why) = discarded

-- `places` are the databases at the paths of a host. A command is asked at `path`. `device` is the change of an output.
module _ (places : Places) (path : List ℕ) (device : DeviceChange) where
  -- nothing was written
  abbrev pub WritesNothing : Type 0
  WritesNothing = device.new ≡ device.old

  -- the path could not be looked at, or no database was opened there
  abbrev pub IsUnopened : Result Unit PathStop → Type 0
  IsUnopened result = (fault : StoreFault) × places.refuses path fault × (result ≡ Err (unopened_stop fault)) × WritesNothing

  -- An office with these settings was made in a database that was `found` when opened and is `left` when closed, and that is told. Or the
  -- office was not made.
  abbrev pub MakesKept : Settings → Connected → Connected → Result Unit ErrandStop → Type 0
  MakesKept settings found left (Ok x) = (IsTrue left.is_open → IsNewOffice settings left.committed) × Appends device.old device.new ready_line
  MakesKept settings found left (Err stop.Output) =
      (IsTrue left.is_open → IsNewOffice settings left.committed) × AppendsFront device.old device.new ready_line
  MakesKept settings found left (Err why) = LeavesConnected found left × WritesNothing

  -- The office in a database that was `found` when opened and is `left` when closed was taken to the present version, and that is told. Or
  -- it was refused.
  abbrev pub MigratesKept : Connected → Connected → Result Unit ErrandStop → Type 0
  MigratesKept found left (Ok x) = MigratesConnected found left × Appends device.old device.new version_line
  MigratesKept found left (Err stop.Output) = MigratesConnected found left × AppendsFront device.old device.new version_line
  MigratesKept found left (Err why) = IsRefusedByStore why × LeavesConnected found left × WritesNothing

  -- a database was made at the path, an office was to be made in it, and the database was put away
  abbrev pub IsMade : Settings → Result Unit PathStop → Type 0
  IsMade settings result =
      (found left : Connected) × (ended : Result Unit ErrandStop)
      × places.opens path found × IsPutAway (places.closes path left) (places.discards path left) ended × (result ≡ at_path ended) × MakesKept settings found left ended

  -- a database was opened at the path and closed there, and a command on it ended as `ends` says
  abbrev pub IsUsed : (Connected → Connected → Result Unit ErrandStop → Type 0) → Result Unit PathStop → Type 0
  IsUsed ends result =
      (found left : Connected) × (ended : Result Unit ErrandStop)
      × places.opens path found × places.closes path left × (result ≡ at_path ended) × ends found left ended

  -- an office was to be made at the path: the path could not be looked at or no database was made; or something was found there; or nothing
  -- was, and a database was made
  abbrev pub MakesAt : Settings → Result Unit PathStop → Type 0
  MakesAt settings result =
      IsUnopened result
      ⊎ (((result ≡ Err Exists) × places.finds path true × WritesNothing)
      ⊎ (places.finds path false × IsMade settings result))

  -- The office at the path was to be taken to the present version: the path could not be looked at or no database was opened; or nothing
  -- was found there; or a database was opened there.
  abbrev pub MigratesAt : Result Unit PathStop → Type 0
  MigratesAt result =
      IsUnopened result
      ⊎ (((result ≡ Err NoFile) × places.finds path false × WritesNothing)
      ⊎ (places.finds path true × IsUsed MigratesKept result))

  -- A command was asked at the path: the path could not be looked at or no database was opened; or nothing was found there; or a database
  -- was opened there. If the connection was open in the end, the command ended over the database. `host` is what a host may show about
  -- files and ports.
  abbrev pub EndsAt : HostView → ErrandStep → Result Unit PathStop → Type 0
  EndsAt host step result =
      IsUnopened result
      ⊎ (((result ≡ Err NoFile) × places.finds path false × WritesNothing)
      ⊎ (places.finds path true × IsUsed (λ found left ended. IsTrue left.is_open → EndsKept host ⊤ device found.committed left.committed step ended) result))
