-- What the lines of a script do, as the contracts of private functions say it.
use Rattle.std.specs.Prelude.{◌⊎◌, ℕ, Bool, List}
use Rattle.std.specs.Io.KnownBytes.{Appends}
use Rattle.hh_devices.specs.DeviceChanges.{DeviceChange}
use Rattle.hh_devices.specs.Devices.{AppendsFront}
use Rattle.hh_states.specs.States.{State}
use Rattle.hh_desk.specs.Promises.{Represents, RepresentsNow}
use Rattle.hh_desk.specs.Views.{OfficeView, midnight_of}
use Rattle.hh_host.specs.Views.{HostView}
use Rattle.hh_script.specs.Steps.{Step}
use Rattle.hh_desk.specs.declared.told.Told.{Told}
use Rattle.hh_desk.specs.Doing.{IsRefusal, no_memory}
use Rattle.hh_session.specs.Lines.{told_line}
use Rattle.hh_session.specs.Course.{StepDoes, cut_short}

-- `told` came of a line. Its text is written, or the text of refused memory in the place of a refusal.
module _ (device : DeviceChange) (told : Told) where
  -- the text was written
  abbrev pub TellsLine : Type 0
  TellsLine = Appends device.old device.new (told_line told) ⊎ (IsRefusal told × Appends device.old device.new (told_line no_memory))

  -- a beginning of the text was written
  abbrev pub BeginsLine : Type 0
  BeginsLine = AppendsFront device.old device.new (told_line told) ⊎ (IsRefusal told × AppendsFront device.old device.new (told_line no_memory))

-- `device` is the change of an output. `host` is what a host may show about files and ports. The store may have failed only if `fails`
-- holds.
module _ (host : HostView) (fails : Type 0) (old new : OfficeView) (device : DeviceChange) where
  -- a step was run from each state that the office represented, it was done or not, and what it writes was written
  abbrev pub RunsStep : Step → Bool → Type 0
  RunsStep step done = (s : State) → Represents old s
      → (text : List ℕ) × (t : State) × StepDoes host fails (midnight_of old) s step done text t × Appends device.old device.new text × RepresentsNow old new t

  -- a step was run from each state that the office represented, it was cut short, and a beginning of what it writes was written
  abbrev pub StopsStep : Step → Type 0
  StopsStep step = (s : State) → Represents old s
      → (done : Bool) × (text : List ℕ) × (t : State) × StepDoes host fails (midnight_of old) s (cut_short step) done text t × AppendsFront device.old device.new text × RepresentsNow old new t
