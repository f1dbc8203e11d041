-- What comes of serving a connection: a request is read, the office handles it, and one reply is written.
use Rattle.std.specs.Prelude.{◌≡◌, ◌≢◌, ◌⊎◌, ℕ, ℤ, List, false, Option, IfSome, Result, Ok, Err}
use Rattle.std.specs.Io.KnownBytes.{Appends, Keeps}
use Rattle.hh_devices.specs.DeviceChanges.{DeviceChange, HasFailed, IsWell}
use Rattle.hh_devices.specs.Devices.{AppendsFront, Failed}
use Rattle.hh_http_heads.specs.Found.{HasGiven}
use Rattle.hh_names.specs.Faults.{memory_fault}
use Rattle.hh_requests.specs.declared.reply.Reply.{Reply}
use Rattle.hh_requests.specs.declared.reply.Reply.TheVariants as reply
use Rattle.hh_requests.specs.declared.request.Request.{Request}
use Rattle.hh_office.specs.States.{State}
use Rattle.hh_office.specs.Machine.{next}
use Rattle.hh_office.specs.PartyViews.{ForbidsOthers, ShowsByView}
use Rattle.hh_office.specs.Promises.{ConservesAfter, HandleStep, RefusalLeaves, RepeatsOnce, Represents, RepresentsAfter}
use Rattle.hh_office.specs.Refusals.{CountsReply, RepresentsSome}
use Rattle.hh_office.specs.Views.{OfficeView, midnight_of}
use Rattle.hh_wire.specs.refusal.Refused.{Refused}
use Rattle.hh_wire.specs.ReplyText.{RepliesRefused, reply_text}
use Rattle.hh_wire.specs.declared.incoming.Incoming.{Incoming}
use Rattle.hh_wire.specs.declared.incoming.Incoming.TheVariants as incoming
use Rattle.hh_wire.specs.declared.incoming.WireFault.{WireFault}
use Rattle.hh_wire.specs.declared.incoming.WireFault.TheVariants as fault
use Rattle.hh_wire.specs.Message.{Awaits, Reads}
use Rattle.hh_http_serve.specs.declared.serve.ServeFault.{ServeFault}
use Rattle.hh_http_serve.specs.declared.serve.ServeFault.TheVariants.{Memory, Read, Write}
use Rattle.hh_http_serve.specs.declared.serve.Served.{Served}
use Rattle.hh_http_serve.specs.declared.serve.Served.TheVariants as outcome

-- the office handled a request at a moment and gave this reply, with all that it promises about a request
pub record Handles (old new : OfficeView) (counted counts : ℕ) (moment : ℤ) (request : Request) (given : Reply) : Type 0 where
  pub step : HandleStep old new moment request given
  pub represents : RepresentsAfter old new moment request given
  pub untouched : RefusalLeaves old new given
  pub once : RepeatsOnce old new request given
  pub sums : ConservesAfter old new moment request given
  pub view : ShowsByView old request given
  pub foreign : ForbidsOthers old request given
  pub refusals_counted : RepresentsSome old → CountsReply given counted counts

-- what is answered: a reply of the office, or a refusal of the request before the office is asked
abbrev pub Answer : Type 0
Answer = Result Reply Refused

-- the bytes of an answer: those of the office's reply; or, for a refusal, those of its reply or of the reply that memory was refused
abbrev pub RepliesAnswer : Answer → List ℕ → Type 0
RepliesAnswer (Ok given) text = text ≡ reply_text given false
RepliesAnswer (Err refused) text = RepliesRefused refused text

-- `read` was read from a source, whose bytes are known or not
abbrev pub IsReadOf : Option (List ℕ) → Result Incoming WireFault → Type 0
IsReadOf source read = IfSome source (λ bytes. Reads bytes read)

-- `source` is what a source brought. `old` is the office before a call that comes at `moment`, and `new` after it. The office's store had
-- counted `counted` refusals before the call, and counts `counts` after it.
module _ (source : Option (List ℕ)) (old new : OfficeView) (counted counts : ℕ) (moment : ℤ) where
  -- The answer is the office's reply to the request that the bytes ask, which the office handled. Or it refuses what the bytes ask, or
  -- tells that memory for reading it was refused, and the office is as it was.
  abbrev pub IsAnswer : Answer → Type 0
  IsAnswer (Ok given) = (request : Request) × IsReadOf source (Ok (incoming.Asked request)) × Handles old new counted counts moment request given
  IsAnswer (Err refused) = IsReadOf source (Err (fault.Refused refused)) × (new ≡ old)

  -- `device` is the change of a sink by the call.
  module _ (device : DeviceChange) where
    -- Closed: the client sent nothing, and nothing was done. Replied: the office's reply was written. Refused: the reply of a refusal was
    -- written. Read: a read failed, and nothing was done. Write: a beginning of an answer was written. Memory: the office handled the
    -- request, but memory for building its reply was refused, so nothing was written; that reply is not itself the refusal for memory.
    abbrev pub Serves : Result Served ServeFault → Type 0
    Serves (Ok outcome.Closed) = IsReadOf source (Ok incoming.Closed) × (new ≡ old) × Keeps device.old device.new
    Serves (Ok outcome.Replied) = (given : Reply) × IsAnswer (Ok given) × Appends device.old device.new (reply_text given false)
    Serves (Ok outcome.Refused) = (refused : Refused) × (text : List ℕ) × IsAnswer (Err refused) × RepliesRefused refused text × Appends device.old device.new text
    Serves (Err Read) = (new ≡ old) × Keeps device.old device.new
    Serves (Err Write) = (answer : Answer) × (text : List ℕ) × IsAnswer answer × RepliesAnswer answer text × AppendsFront device.old device.new text
    Serves (Err Memory) = (given : Reply) × IsAnswer (Ok given) × (given ≢ reply.Refused memory_fault) × Keeps device.old device.new

-- an office represents the state that it represented before, or the machine's state after one request that came at a moment
abbrev pub RepresentsAfterOne : OfficeView → OfficeView → ℤ → Type 0
RepresentsAfterOne old new moment =
    (s : State) → Represents old s
    → (new.zone ≡ old.zone) × (Represents new s ⊎ ((request : Request) × Represents new (next (midnight_of old) s moment request)))

-- a source counts one failure if a call answers that a read failed, and otherwise none
abbrev pub CountsReading : Result Served ServeFault → ℕ → ℕ → Type 0
CountsReading (Err Read) old new = Failed old new
CountsReading served old new = new ≡ old

-- a sink counts one failure if a call answers that a write failed, and otherwise none
abbrev pub CountsWriting : DeviceChange → Result Served ServeFault → Type 0
CountsWriting device (Err Write) = HasFailed device
CountsWriting device served = IsWell device

-- if a read failed, what the source had brought until then is the beginning of a request that needs more bytes
abbrev pub ServingFailsAwaiting : Result Served ServeFault → Option (List ℕ) → Option (List ℕ) → Type 0
ServingFailsAwaiting (Err Read) old new = HasGiven Awaits old new
ServingFailsAwaiting served old new = Unit {0}
