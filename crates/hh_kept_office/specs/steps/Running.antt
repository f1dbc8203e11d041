-- What comes of the lines of a script over an office, given the content of its tables before and after them.
use Rattle.std.specs.Prelude.{ℕ, Bool, List, take}
use Rattle.std.specs.Io.KnownBytes.{Appends}
use Rattle.hh_devices.specs.DeviceChanges.{DeviceChange}
use Rattle.hh_devices.specs.Devices.{AppendsFront}
use Rattle.hh_states.specs.Changes.{TablesRepresent}
use Rattle.hh_states.specs.Content.{Content}
use Rattle.hh_states.specs.States.{State}
use Rattle.hh_host.specs.Views.{HostView}
use Rattle.hh_script.specs.Steps.{Step}
use Rattle.hh_session.specs.declared.run.LinesStop.{LinesStop}
use Rattle.hh_session.specs.declared.run.LinesStop.TheVariants.{Line, Output}
use Rattle.hh_session.specs.Course.{AllDoneButLast, LastNotDone, MayStopBehind, ScriptDoes, cut_after}
use Rattle.hh_kept_office.specs.Running.{InMarket}

-- `host` is what a host may show about files and ports. The store may have failed only if `fails` holds. `device` is the change of an
-- output.
module _ (host : HostView) (fails : Type 0) (device : DeviceChange) (old new : Content) where
  -- The steps were run, and what they write was written. `may` says which steps may have been done, and which may not.
  abbrev pub RunsOver : (List Step → Bool → Type 0) → List Step → Type 0
  RunsOver may steps = InMarket (λ midnight. (s : State) → TablesRepresent midnight old s
      → (text : List ℕ) × (t : State)
      × ScriptDoes host fails midnight may s steps text t × Appends device.old device.new text × TablesRepresent midnight new t)

  -- only the first of the steps were run, the last of these was cut short, and a beginning of what they write was written
  abbrev pub StopsOver : Bool → List Step → Type 0
  StopsOver strict steps = InMarket (λ midnight. (s : State) → TablesRepresent midnight old s
      → (count : ℕ) × (text : List ℕ) × (t : State)
      × ScriptDoes host fails midnight (AllDoneButLast strict) s (cut_after count steps) text t × AppendsFront device.old device.new text × TablesRepresent midnight new t)

  -- the steps were not run to their end: the output failed; or they are strict, and only those up to a line were run, the first not done
  abbrev pub EarlyBetween : Bool → List Step → LinesStop → Type 0
  EarlyBetween strict steps Output = StopsOver strict steps
  EarlyBetween strict steps (Line number) = MayStopBehind strict steps number × RunsOver LastNotDone (take number steps)
