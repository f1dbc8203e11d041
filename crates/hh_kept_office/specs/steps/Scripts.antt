-- What comes of a script that is run over an office whose tables were taken over.
use Rattle.std.specs.Prelude.{◌≡◌, ⊤, Bool, ℕ, List, Result, Ok, Err, IsTrue}
use Rattle.hh_devices.specs.DeviceChanges.{DeviceChange}
use Rattle.hh_states.specs.Content.{Content}
use Rattle.hh_store.specs.StoreFaults.{store_fault}
use Rattle.hh_host.specs.Views.{HostView}
use Rattle.hh_script.specs.Steps.{Step}
use Rattle.hh_session.specs.Course.{AllDone}
use Rattle.hh_kept_office.specs.declared.stop.DatabaseStop.{DatabaseStop}
use Rattle.hh_kept_office.specs.declared.stop.DatabaseStop.TheVariants as database
use Rattle.hh_kept_office.specs.Running.{EarlyOver, WritesOver}
use Rattle.hh_session.specs.Script.{IsScript, IsUnread}
use Rattle.hh_session.specs.declared.script.ScriptStop.{ScriptStop}
use Rattle.hh_session.specs.declared.script.ScriptStop.TheVariants as script
use Rattle.hh_kept_office.specs.Places.{Connected, LeavesConnected}

-- why a script is not run over a database, or not to its end
abbrev pub stop_of : DatabaseStop → ScriptStop
stop_of (database.Early why) = script.Early why
stop_of (database.Refused fault) = script.Refused (store_fault fault)

-- `host` is what a host may show about files and ports. `device` is the change of an output. `file` is the path of a script. The tables
-- that were taken over have this content. The script was run over them, in a database as it was before and as it is after the script. Or it
-- was not run to its end. Or it cannot be had, and then nothing was run and nothing was written.
abbrev pub RunsFileOver : HostView → DeviceChange → List ℕ → Bool → Content → Connected → Connected → Result Unit ScriptStop → Type 0
RunsFileOver host device file strict content taken left (Ok x) =
    (steps : List Step) × IsScript host file steps × (IsTrue left.is_open → WritesOver host ⊤ device left.committed steps content (AllDone strict))
RunsFileOver host device file strict content taken left (Err (script.Early why)) =
    (steps : List Step) × IsScript host file steps × (IsTrue left.is_open → EarlyOver host ⊤ device left.committed strict steps content why)
RunsFileOver host device file strict content taken left (Err why) =
    IsUnread host file why × LeavesConnected taken left × (device.new ≡ device.old)
