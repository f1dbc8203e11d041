-- How a command on a database ends.
use Rattle.std.specs.Prelude.{◌≡◌, ◌⊎◌, ℤ, Bool, Option, Some, None, Result, Ok, Err}
use Rattle.clap.specs.Words.{Text}
use Rattle.hh_devices.specs.DeviceChanges.{DeviceChange}
use Rattle.hh_store.specs.StoreFaults.{store_fault}
use Rattle.hh_host.specs.Views.{HostView}
use Rattle.hh_kept_office.specs.declared.path.PathStop.{PathStop}
use Rattle.hh_kept_office.specs.declared.path.PathStop.TheVariants as path
use Rattle.hh_kept_office.specs.declared.scripts.ScriptPathStop.{ScriptPathStop}
use Rattle.hh_kept_office.specs.declared.scripts.ScriptPathStop.TheVariants as at
use Rattle.hh_kept_office.specs.Paths.{EndsAt, MakesAt, MigratesAt}
use Rattle.hh_kept_office.specs.Places.{Places}
use Rattle.hh_kept_office.specs.Scripts.{EndsScript}
use Rattle.hh_words.specs.Tasks.{Task, ToInit, ToLoad, ToMigrate, ToReport, ToRun, ToRunScript, ToServe}
use Rattle.hh_kept_office.specs.Errands.{ErrandStep, Load, Report, Run, Serve}
use Rattle.hh_kept_office.specs.errand.ErrandStop.TheVariants as errand
use Rattle.hh_settle.specs.Stopping.{script_stop}
use Rattle.hh_settle.specs.declared.stop.Stop.{Stop}
use Rattle.hh_settle.specs.declared.stop.Stop.TheVariants as stop

-- a moment is the one that was given; if none was given, it is any that the clock may tell
abbrev pub IsMoment : Option ℤ → ℤ → Type 0
IsMoment None moment = Unit {0}
IsMoment (Some given) moment = moment ≡ given

-- what a task asks of an office
abbrev pub AsksOfOffice : Task → ErrandStep → Type 0
AsksOfOffice (ToLoad l) step =
    (moment : ℤ) × IsMoment l.at moment × (step ≡ Load (record { moment = moment; key = l.key; kind = l.kind; path = l.path; name = l.name }))
AsksOfOffice (ToRun r) step = (moment : ℤ) × IsMoment r.at moment × (step ≡ Run (record { moment = moment; key = r.key; run = r.run }))
AsksOfOffice (ToReport r) step = step ≡ Report (record { key = r.key; report = r.report })
AsksOfOffice (ToServe s) step = step ≡ Serve (record { at = s.at; port = s.port; count = s.count })
AsksOfOffice (ToInit settings) step = ⊥
AsksOfOffice ToMigrate step = ⊥
AsksOfOffice (ToRunScript file) step = ⊥

-- the clock is asked for the moment of a task
abbrev pub AsksClock : Task → Type 0
AsksClock (ToLoad l) = l.at ≡ None
AsksClock (ToRun r) = r.at ≡ None
AsksClock _ = ⊥

-- why a command stops, given why its errand at a path stopped
abbrev pub path_stop : PathStop → Stop
path_stop path.Exists = stop.Exists
path_stop path.NoFile = stop.NoFile
path_stop (path.Errand (errand.Refused fault)) = stop.Refused (record { fault = fault; input = None })
path_stop (path.Errand errand.Unreadable) = stop.File
path_stop (path.Errand errand.NoSocket) = stop.NoSocket
path_stop (path.Errand errand.Output) = stop.Output

-- why a command stops, given why its script at a path was not run to its end
abbrev pub script_path_stop : ScriptPathStop → Stop
script_path_stop at.NoFile = stop.NoFile
script_path_stop (at.Unopened fault) = stop.Refused (record { fault = store_fault fault; input = None })
script_path_stop (at.Script why) = script_stop why

-- `host` is what a host may show about files and ports, `places` are the databases at its paths, and `device` is the change of an output.
module _ (host : HostView) (places : Places) (path : Text) (device : DeviceChange) where
  -- a task that asks something of the office at a path ends with this result
  abbrev pub EndsAsked : Task → Result Unit PathStop → Type 0
  EndsAsked task result = (step : ErrandStep) × AsksOfOffice task step × EndsAt places path device host step result

  -- a task is done; a script may be strict
  abbrev pub DoesTask : Bool → Task → Type 0
  DoesTask strict (ToInit settings) = MakesAt places path device settings (Ok tt)
  DoesTask strict ToMigrate = MigratesAt places path device (Ok tt)
  DoesTask strict (ToRunScript file) = EndsScript host device file strict places path (Ok tt)
  DoesTask strict task = EndsAsked task (Ok tt)

  -- a task that asks something of an office stops for this reason, or because the clock told no moment; in that case nothing was written
  abbrev pub StopsAsked : Task → Stop → Type 0
  StopsAsked task s = ((why : PathStop) × (s ≡ path_stop why) × EndsAsked task (Err why)) ⊎ ((s ≡ stop.NoClock) × AsksClock task × (device.new ≡ device.old))

  -- a task stops for this reason; a script may be strict
  abbrev pub StopsTask : Bool → Task → Stop → Type 0
  StopsTask strict (ToInit settings) s = (why : PathStop) × (s ≡ path_stop why) × MakesAt places path device settings (Err why)
  StopsTask strict ToMigrate s = (why : PathStop) × (s ≡ path_stop why) × MigratesAt places path device (Err why)
  StopsTask strict (ToRunScript file) s = (why : ScriptPathStop) × (s ≡ script_path_stop why) × EndsScript host device file strict places path (Err why)
  StopsTask strict task s = StopsAsked task s
