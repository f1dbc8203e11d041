-- How it is told what came of a load or a run.
use Rattle.std.specs.Prelude.{◌≡◌, ℕ, List, Result, Ok, Err}
use Rattle.std.specs.Io.KnownBytes.{Appends}
use Rattle.hh_devices.specs.DeviceChanges.{DeviceChange}
use Rattle.hh_devices.specs.Devices.{AppendsFront}
use Rattle.hh_desk.specs.declared.told.Told.{Told}
use Rattle.hh_desk.specs.declared.errand.ErrandStop.{ErrandStop}
use Rattle.hh_desk.specs.declared.errand.ErrandStop.TheVariants as stop
use Rattle.hh_desk.specs.Errands.{told_outcome}

-- what was done was written, or a beginning of it; or the reason why nothing was done is given, and nothing was written
abbrev pub TellsOutcome : DeviceChange → Told → Result Unit ErrandStop → Type 0
TellsOutcome device told (Ok _) = (text : List ℕ) × (told_outcome told ≡ Ok text) × Appends device.old device.new text
TellsOutcome device told (Err stop.Output) = (text : List ℕ) × (told_outcome told ≡ Ok text) × AppendsFront device.old device.new text
TellsOutcome device told (Err why) = (told_outcome told ≡ Err why) × (device.new ≡ device.old)
