-- What a call that writes the reply to a refused request leaves.
use Rattle.std.proofs.Common.{ℕ, List, Result, Ok, Err, OnErr, OnOk}
use Rattle.std.specs.Io.KnownBytes.{Appends}
use Rattle.hh_devices.specs.DeviceChanges.{DeviceChange, HasFailed, IsWell}
use Rattle.hh_devices.specs.Devices.{AppendsFront}
use Rattle.hh_devices.specs.declared.device.DeviceFailed.{DeviceFailed}
use Rattle.hh_http_replies.specs.ReplyText.{RepliesRefused}
use Rattle.hh_http_replies.specs.Writes.{WritesRefusal}
use Rattle.hh_http_replies.specs.declared.refusal.Refused.{Refused}

-- a call that writes such a reply whole
pub writes_refusal : (device : DeviceChange) (refused : Refused) (text : List ℕ) → RepliesRefused refused text → (result : Result (Unit {0}) DeviceFailed)
    → OnOk result (Appends device.old device.new text) → OnErr result (AppendsFront device.old device.new text)
    → OnErr result (HasFailed device) → OnOk result (IsWell device) → WritesRefusal device refused result
writes_refusal device refused text replies (Ok u) whole front failed well = (text, replies, whole, well)
writes_refusal device refused text replies (Err e) whole front failed well = (text, replies, front, failed)
