-- What a crash leaves of an office's tables after a connection was served.
use Rattle.std.specs.Prelude.{◌≡◌, ◌⊎◌, ℕ, ℤ, List, false, Bool, Option, Result, Ok, Err}
use Rattle.std.specs.Io.KnownBytes.{Appends}
use Rattle.hh_devices.specs.DeviceChanges.{DeviceChange}
use Rattle.hh_devices.specs.Devices.{AppendsFront}
use Rattle.hh_requests.specs.declared.reply.Reply.{Reply}
use Rattle.hh_requests.specs.declared.request.Request.{Request}
pub use Rattle.hh_office.specs.Crashes.{AddsNothing, CrashStep, IfReported}
use Rattle.hh_office.specs.Views.{Kept}
use Rattle.hh_office.specs.Content.{Content}
use Rattle.hh_wire.specs.ReplyText.{reply_text}
use Rattle.hh_wire.specs.declared.incoming.Incoming.TheVariants.{Asked}
use Rattle.hh_http_serve.specs.Serves.{IsReadOf}
use Rattle.hh_http_serve.specs.declared.serve.ServeFault.{ServeFault}
use Rattle.hh_http_serve.specs.declared.serve.ServeFault.TheVariants.{Memory, Write}
use Rattle.hh_http_serve.specs.declared.serve.Served.{Served}
use Rattle.hh_http_serve.specs.declared.serve.Served.TheVariants as outcome

-- `source` is what a source brought. `old` is the office before a call that comes at `moment`, and `new` after it.
module _ {T L : Type 0} (is_honest : T → Type 0) (is_open : T → Bool) (may_leave : T → L → Type 0) (holds : L → Content → Type 0) (old new : Kept T)
    (source : Option (List ℕ)) (moment : ℤ) where
  -- the office gave this reply to the request that the bytes ask, with all that it promises about a crash
  abbrev pub LeavesHandled : Reply → Type 0
  LeavesHandled given =
      (request : Request) × IsReadOf source (Ok (Asked request)) × CrashStep is_honest is_open may_leave holds old new moment request given

  -- `device` is the change of a sink by the call.
  module _ (device : DeviceChange) where
    -- The office replied, and its reply or a beginning of it was written, or memory was refused for building it. Or the office was asked
    -- nothing, and it and its tables are as they were.
    abbrev pub LeavesServed : Result Served ServeFault → Type 0
    LeavesServed (Ok outcome.Replied) = (given : Reply) × LeavesHandled given × Appends device.old device.new (reply_text given false)
    LeavesServed (Err Write) = ((given : Reply) × LeavesHandled given × AppendsFront device.old device.new (reply_text given false)) ⊎ (new ≡ old)
    LeavesServed (Err Memory) = (given : Reply) × LeavesHandled given
    LeavesServed served = new ≡ old
