-- How a call of the program ends. No contract knows its words.
use Rattle.std.specs.Prelude.{◌≡◌, ◌⊎◌, Bool, List}
use Rattle.std.specs.Io.KnownBytes.{Appends}
use Rattle.clap.specs.Words.{Text}
use Rattle.hh_devices.specs.DeviceChanges.{DeviceChange, HasFailed, IsWell}
use Rattle.hh_devices.specs.Devices.{AppendsFront}
use Rattle.hh_host.specs.Views.{any_view}
use Rattle.hh_kept_office.specs.Places.{any_places}
use Rattle.hh_period.specs.Outcome.{memory_rejection}
use Rattle.hh_words.specs.Lines.{version_text}
use Rattle.hh_settle.specs.declared.stop.Stop.{Stop}
use Rattle.hh_settle.specs.declared.stop.Stop.TheVariants as stop
use Rattle.hh_settle.specs.Stops.{DoesWords, Stops, Tells, UnlessExplained}

-- nothing was written to a device, and it did not fail
abbrev pub IsSilent : DeviceChange → Type 0
IsSilent device = (device.new ≡ device.old) × IsWell device

-- the program's version was written
abbrev pub TellsVersion : DeviceChange → Type 0
TellsVersion out = Appends out.old out.new version_text

-- the output failed, a beginning of the version was written, and the fault is told
abbrev pub StopsVersion : DeviceChange → DeviceChange → Type 0
StopsVersion out err = HasFailed out × AppendsFront out.old out.new version_text × Tells err stop.Output

-- a call stops before its words are a line: its key file cannot be read, or memory was refused
abbrev pub IsBeforeWords : Stop → Type 0
IsBeforeWords s = (s ≡ stop.File) ⊎ (s ≡ stop.Refused memory_rejection)

-- some words formed a line and it was done, or the version was written
abbrev pub IsDone : DeviceChange → DeviceChange → Type 0
IsDone out err =
    ((words : List Text) × (strict : Bool) × (explain : Bool) × DoesWords any_view any_places strict words out × UnlessExplained explain (IsSilent err))
    ⊎ (TellsVersion out × IsSilent err)

-- some words formed a line and it stopped; or the call stopped before its words were a line; or the version could not be written
abbrev pub IsStopped : DeviceChange → DeviceChange → Type 0
IsStopped out err =
    ((words : List Text) × (strict : Bool) × (explain : Bool) × Stops any_view any_places strict explain words out err)
    ⊎ (((s : Stop) × (explain : Bool) × IsBeforeWords s × (out.new ≡ out.old) × UnlessExplained explain (Tells err s)) ⊎ StopsVersion out err)
