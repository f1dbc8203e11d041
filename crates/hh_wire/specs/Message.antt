-- What the bytes of a connection ask of the office.
use Rattle.std.specs.Prelude.{◌≡◌, ◌≢◌, ◌⊎◌, ℕ, ◌<◌, ◌≤◌, nat_lt, List, [], length, take, Bool, false, not, ◌&&◌, is_none, if◌then◌else◌, Option, Some, None, Result, Ok, Err, bytes_eq}
use Rattle.httparse.specs.Grammar.{RequestHead}
use Rattle.hh_devices.specs.Devices.{Failed}
use Rattle.hh_http_heads.specs.Found.{HasGiven}
use Rattle.hh_http_heads.specs.Fronts.{AwaitsHead, HasNoFront, IsFront}
use Rattle.hh_http_heads.specs.Headings.{Heading, asks_head, heading_of, is_bad, key_shown, length_given, length_of}
use Rattle.hh_http_replies.specs.declared.refusal.Refused.{Refused}
use Rattle.hh_http_replies.specs.declared.refusal.RequestRefusal.{RequestRefusal}
use Rattle.hh_http_replies.specs.declared.refusal.RequestRefusal.TheVariants as refusal
use Rattle.hh_wire.specs.declared.incoming.Incoming.{Incoming}
use Rattle.hh_wire.specs.declared.incoming.Incoming.TheVariants.{Closed, Asked}
use Rattle.hh_wire.specs.declared.incoming.WireFault.{WireFault}
use Rattle.hh_wire.specs.declared.incoming.WireFault.TheVariants as fault
use Rattle.hh_wire.specs.Routes.{action_at, is_load, method_of, parts_of}

-- the most bytes of a body
abbrev pub most_body_bytes : ℕ
most_body_bytes = 1_048_576

-- a request, or its refusal
abbrev pub Message : Type 0
Message = Result Incoming Refused

-- the refusal of a request after its head was read
abbrev pub refusal_message : Heading → RequestRefusal → Message
refusal_message h cause = Err (record { cause = cause; head_only = asks_head h })

-- what a head asks with a body
abbrev pub asked_with : Heading → List ℕ → Message
asked_with h body = elim (action_at (parts_of h.target) body) [
  | None ↦ refusal_message h refusal.NoRoute
  | Some action ↦
      if not (bytes_eq h.method (method_of action)) then refusal_message h (refusal.BadMethod (method_of action))
      else if is_load action && is_none (length_given h) then refusal_message h refusal.LengthRequired
      else Ok (Asked (record { key = key_shown h; action = action }))
]

-- what a head asks with the bytes that follow it
abbrev pub asked_by : Heading → List ℕ → Message
asked_by h rest =
    if is_bad h then refusal_message h refusal.BadRequest
    else if nat_lt most_body_bytes (length_of h) then refusal_message h refusal.BodyTooLarge
    else if nat_lt (length rest) (length_of h) then refusal_message h refusal.BadRequest
    else asked_with h (take (length_of h) rest)

-- bytes that begin with no head
abbrev pub no_head : Message
no_head = Err (record { cause = refusal.BadRequest; head_only = false })

-- what the bytes of a connection ask: nothing if there are none, or what their head asks with what follows it, or a bad request
abbrev pub IsMessage : List ℕ → Message → Type 0
IsMessage bytes message =
    ((bytes ≡ []) × (message ≡ Ok Closed))
    ⊎ (((head : RequestHead) × (rest : List ℕ) × IsFront bytes head rest × (message ≡ asked_by (heading_of head) rest))
    ⊎ ((bytes ≢ []) × HasNoFront bytes × (message ≡ no_head)))

-- a head keeps the rules, and the rest of its body, which is not too long, is still to come
pub record LacksBody (h : Heading) (rest : List ℕ) : Type 0 where
  pub kept : is_bad h ≡ false
  pub small : length_of h ≤ most_body_bytes
  pub lacks : length rest < length_of h

-- bytes lack the rest of a body
abbrev pub AwaitsBody : List ℕ → Type 0
AwaitsBody bytes = (head : RequestHead) × (rest : List ℕ) × IsFront bytes head rest × LacksBody (heading_of head) rest

-- bytes need more: what follows them decides what they ask
abbrev pub Awaits : List ℕ → Type 0
Awaits bytes = AwaitsHead bytes ⊎ AwaitsBody bytes

-- one fact for the refusal for memory, another for any other refusal
abbrev pub ByCause : RequestRefusal → Type 0 → Type 0 → Type 0
ByCause refusal.Memory memory other = memory
ByCause cause memory other = other

-- bytes begin with a head, and `head_only` says whether it asks only for the head of a reply
abbrev pub AsksHead : List ℕ → Bool → Type 0
AsksHead bytes head_only = (head : RequestHead) × (rest : List ℕ) × IsFront bytes head rest × (head_only ≡ asks_head (heading_of head))

-- what was answered is what the bytes ask; memory may be refused in its place; if a read failed, nothing is said about the bytes
abbrev pub Reads : List ℕ → Result Incoming WireFault → Type 0
Reads bytes (Ok incoming) = IsMessage bytes (Ok incoming)
Reads bytes (Err fault.Read) = Unit {0}
Reads bytes (Err (fault.Refused r)) = ByCause r.cause (AsksHead bytes r.head_only) (IsMessage bytes (Err r))

-- a call counts one failure if it answers that a read failed, and otherwise none
abbrev pub CountsRead : Result Incoming WireFault → ℕ → ℕ → Type 0
CountsRead (Ok incoming) old new = new ≡ old
CountsRead (Err fault.Read) old new = Failed old new
CountsRead (Err (fault.Refused r)) old new = new ≡ old

-- if a read failed, what the source had given until then needs more
abbrev pub FailsAwaiting : Result Incoming WireFault → Option (List ℕ) → Option (List ℕ) → Type 0
FailsAwaiting (Ok incoming) old new = Unit {0}
FailsAwaiting (Err fault.Read) old new = HasGiven Awaits old new
FailsAwaiting (Err (fault.Refused r)) old new = Unit {0}
