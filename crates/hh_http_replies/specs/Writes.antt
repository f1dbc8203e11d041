-- What a call that writes a reply leaves in its sink.
use Rattle.std.specs.Prelude.{ℕ, List, Result, Ok, Err}
use Rattle.std.specs.Io.KnownBytes.{Appends, Keeps}
use Rattle.hh_devices.specs.DeviceChanges.{DeviceChange, HasFailed, IsWell}
use Rattle.hh_devices.specs.Devices.{AppendsFront}
use Rattle.hh_devices.specs.declared.device.DeviceFailed.{DeviceFailed}
use Rattle.hh_http_replies.specs.ReplyText.{RepliesRefused}
use Rattle.hh_http_replies.specs.declared.refusal.Refused.{Refused}
use Rattle.hh_http_replies.specs.declared.reply.WriteFault.{WriteFault}
use Rattle.hh_http_replies.specs.declared.reply.WriteFault.TheVariants.{Memory, Write}

-- `device` is the change of a sink by a call.
module _ (device : DeviceChange) (text : List ℕ) where
  -- the text was written and no call failed; or a beginning of it was written and a call failed; or memory ran out and nothing was written
  abbrev pub WritesReply : Result (Unit {0}) WriteFault → Type 0
  WritesReply (Ok u) = Appends device.old device.new text × IsWell device
  WritesReply (Err Write) = AppendsFront device.old device.new text × HasFailed device
  WritesReply (Err Memory) = Keeps device.old device.new × IsWell device

-- `device` is the change of a sink by a call that replies to a refused request.
module _ (device : DeviceChange) (refused : Refused) where
  -- a reply to it was written and no call failed, or a beginning of one was written and a call failed
  abbrev pub WritesRefusal : Result (Unit {0}) DeviceFailed → Type 0
  WritesRefusal (Ok u) = (text : List ℕ) × RepliesRefused refused text × Appends device.old device.new text × IsWell device
  WritesRefusal (Err failed) = (text : List ℕ) × RepliesRefused refused text × AppendsFront device.old device.new text × HasFailed device
