-- What a line that serves connections does, as the contract of a private function says it.
use Rattle.std.specs.Prelude.{ℕ, Bool, List}
use Rattle.std.specs.Io.KnownBytes.{Appends}
use Rattle.hh_devices.specs.DeviceChanges.{DeviceChange}
use Rattle.hh_devices.specs.Devices.{AppendsFront}
use Rattle.hh_states.specs.States.{State}
use Rattle.hh_desk.specs.Promises.{Represents, RepresentsNow}
use Rattle.hh_desk.specs.Views.{OfficeView, midnight_of}
use Rattle.hh_host.specs.Views.{HostView}
use Rattle.hh_script.specs.declared.serve.ServeLine.{ServeLine}
use Rattle.hh_session.specs.Serving.{ServeDoes, awaits_none}

-- `device` is the change of an output. `host` is what a host may show about files and ports. The store may have failed only if `fails`
-- holds.
module _ (host : HostView) (fails : Type 0) (old new : OfficeView) (device : DeviceChange) (line : ServeLine) where
  -- a line that serves was run from each state that the office represented, it was done or not, and what it writes was written
  abbrev pub RunsServing : Bool → Type 0
  RunsServing done = (s : State) → Represents old s
      → (text : List ℕ) × (t : State) × ServeDoes host fails (midnight_of old) s line done text t × Appends device.old device.new text × RepresentsNow old new t

  -- a beginning of what it writes was written, and it awaited no connection
  abbrev pub StopsServing : Type 0
  StopsServing = (s : State) → Represents old s
      → (done : Bool) × (text : List ℕ) × (t : State) × ServeDoes host fails (midnight_of old) s (awaits_none line) done text t × AppendsFront device.old device.new text × RepresentsNow old new t
