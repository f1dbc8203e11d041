-- What a head asks for, and the fault after it was read.
use Rattle.std.specs.Prelude.{◌≡◌, Result, Ok, Err}
use Rattle.hh_requests.specs.declared.request.Action.{Action}
use Rattle.hh_http_heads.specs.Headings.{Heading, asks_head, key_shown}
use Rattle.hh_http_replies.specs.declared.refusal.RequestRefusal.{RequestRefusal}
use Rattle.hh_wire.specs.Message.{Message, refusal_message}
use Rattle.hh_wire.specs.declared.incoming.Incoming.TheVariants.{Asked}
use Rattle.hh_wire.specs.declared.incoming.WireFault.{WireFault}
use Rattle.hh_wire.specs.declared.incoming.WireFault.TheVariants as fault
use Rattle.hh_wire.specs.declared.stop.Stop.{Stop}
use Rattle.hh_wire.specs.declared.stop.Stop.TheVariants.{Read, Refused}

-- the fault of a request after its head was read
abbrev pub fault_behind : Heading → Stop → WireFault
fault_behind h Read = fault.Read
fault_behind h (Refused cause) = fault.Refused (record { cause = cause; head_only = asks_head h })

-- a message asks for this with the head's key, or is refused for this cause
abbrev pub AsksFor : Heading → Message → Result Action RequestRefusal → Type 0
AsksFor h message (Ok action) = message ≡ Ok (Asked (record { key = key_shown h; action = action }))
AsksFor h message (Err cause) = message ≡ refusal_message h cause
