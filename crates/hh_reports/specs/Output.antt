-- The outcome of a call that writes a text.
use Rattle.std.specs.Prelude.{◌≡◌, ℕ, ◌<◌, List, ◌++◌, length, Result, Ok, Err}
use Rattle.std.specs.Io.KnownBytes.{Appends}
use Rattle.hh_devices.specs.DeviceChanges.{DeviceChange, HasFailed, IsWell}
use Rattle.hh_devices.specs.Devices.{AppendsFront}
use Rattle.hh_reports.specs.declared.fault.ReportFault.{ReportFault}
use Rattle.hh_reports.specs.declared.fault.ReportFault.TheVariants.{Memory, Write}

-- What a call changes in a sink.
module _ (device : DeviceChange) where
  -- a failure is counted if the fault says that the sink failed, and none if memory was refused
  abbrev pub CountsFault : ReportFault → Type 0
  CountsFault Memory = IsWell device
  CountsFault Write = HasFailed device

  -- the text went out and the sink did not fail, or the call failed and a beginning of the text went out
  abbrev pub Sends : {A : Type 0} → List ℕ → Result A ReportFault → Type 0
  Sends text (Ok x) = Appends device.old device.new text × IsWell device
  Sends text (Err fault) = AppendsFront device.old device.new text × CountsFault fault

  -- the result is as it should be, or the call failed and a beginning of the whole text went out
  abbrev pub Reaches : {A : Type 0} → (A → Type 0) → List ℕ → Result A ReportFault → Type 0
  Reaches Is all (Ok x) = Is x
  Reaches Is all (Err fault) = AppendsFront device.old device.new all × CountsFault fault

-- less than a full page
abbrev pub IsShort : List ℕ → Type 0
IsShort holds = length holds < 16_384

-- What a call changes in a sink; after it a page holds these bytes back.
module _ (device : DeviceChange) (holds : List ℕ) where
  -- a beginning of the text went out, the page holds the rest back, which is less than a full page, and the sink did not fail
  pub record IsPassed (all : List ℕ) : Type 0 where
    pub gone : List ℕ
    pub went : Appends device.old device.new gone
    pub rest : all ≡ gone ++ holds
    pub short : IsShort holds
    pub well : IsWell device
