-- What comes of a script that is run over an office at a path.
use Rattle.std.specs.Prelude.{◌≡◌, ◌⊎◌, ⊤, Bool, true, false, ℕ, List, Result, Ok, Err, IsTrue}
use Rattle.sqlite.specs.Effect.{Database}
use Rattle.hh_devices.specs.DeviceChanges.{DeviceChange}
use Rattle.hh_states.specs.Content.{Content}
use Rattle.hh_store.specs.declared.store_fault.StoreFault.{StoreFault}
use Rattle.hh_store.specs.StoreFaults.{store_fault}
use Rattle.hh_host.specs.Views.{HostView}
use Rattle.hh_script.specs.Steps.{Step}
use Rattle.hh_session.specs.Course.{AllDone}
use Rattle.hh_sqlstore.specs.Holds.{Holds}
use Rattle.hh_sqlstore.specs.Values.{version}
use Rattle.hh_kept_office.specs.Running.{EarlyOver, WritesOver}
use Rattle.hh_session.specs.Script.{IsScript, IsUnread}
use Rattle.hh_session.specs.ScriptStops.{IsUnrun}
use Rattle.hh_session.specs.declared.script.ScriptStop.{ScriptStop}
use Rattle.hh_session.specs.declared.script.ScriptStop.TheVariants as script
use Rattle.hh_kept_office.specs.declared.scripts.ScriptPathStop.{ScriptPathStop}
use Rattle.hh_kept_office.specs.declared.scripts.ScriptPathStop.TheVariants.{NoFile, Script, Unopened}
use Rattle.hh_kept_office.specs.Places.{Connected, LeavesConnected, Places, TakesConnected}

-- how a script at a path ends, given how it ended over the database there
abbrev pub script_at : Result Unit ScriptStop → Result Unit ScriptPathStop
script_at (Ok x) = Ok x
script_at (Err why) = Err (Script why)

-- no line of the script was run
abbrev pub IsUnrunAt : ScriptPathStop → Type 0
IsUnrunAt (Script why) = IsUnrun why
IsUnrunAt _ = Unit {0}

-- the database contains the tables of an office
abbrev pub HoldsOffice : Database → Type 0
HoldsOffice db = (content : Content) × Holds version content db

-- `host` is what a host may show about files and ports. `device` is the change of an output. `file` is the path of a script.
module _ (host : HostView) (device : DeviceChange) (file : List ℕ) where
  -- the tables of an office are not taken over
  abbrev pub IsOfNoOffice : ScriptStop → Type 0
  IsOfNoOffice why = (fault : StoreFault) × (why ≡ script.Refused (store_fault fault))

  -- The database was `found` when opened and is `left` when closed. Done: the script was run from each state whose tables the database
  -- contained, if the connection is open in the end, and all lines were done if it is strict. Early: its lines were not run to their end.
  -- Otherwise nothing was run and nothing was written: the tables were not taken over, and the database is as it was; or they were taken
  -- over, and the script cannot be had.
  abbrev pub RunsFile : Bool → Connected → Connected → Result Unit ScriptStop → Type 0
  RunsFile strict found left (Ok x) = (steps : List Step) × IsScript host file steps
      × ((content : Content) → Holds version content found.committed → IsTrue left.is_open → WritesOver host ⊤ device left.committed steps content (AllDone strict))
  RunsFile strict found left (Err (script.Early why)) = (steps : List Step) × IsScript host file steps
      × ((content : Content) → Holds version content found.committed → IsTrue left.is_open → EarlyOver host ⊤ device left.committed strict steps content why)
  RunsFile strict found left (Err why) =
      ((IsOfNoOffice why × LeavesConnected found left)
      ⊎ ((IsTrue left.is_open → HoldsOffice found.committed) × IsUnread host file why × TakesConnected found left))
      × (device.new ≡ device.old)

  -- A script was to be run at a path: the path could not be looked at or no database was opened; or nothing was found there; or a database
  -- was opened, and the script was run.
  abbrev pub EndsScript : Bool → Places → List ℕ → Result Unit ScriptPathStop → Type 0
  EndsScript strict places path result =
      ((fault : StoreFault) × places.refuses path fault × (result ≡ Err (Unopened fault)) × (device.new ≡ device.old))
      ⊎ (((result ≡ Err NoFile) × places.finds path false × (device.new ≡ device.old))
      ⊎ (places.finds path true
      × ((found left : Connected) × (ended : Result Unit ScriptStop)
      × places.opens path found × places.closes path left × (result ≡ script_at ended) × RunsFile strict found left ended)))
