-- What comes of reading on after a head.
use Rattle.std.specs.Prelude.{◌≡◌, Result, Ok, Err}
use Rattle.hh_requests.specs.declared.request.Request.{Request}
use Rattle.hh_http_heads.specs.Headings.{Heading}
use Rattle.hh_http_replies.specs.declared.refusal.RequestRefusal.{RequestRefusal}
use Rattle.hh_wire.specs.declared.incoming.Incoming.TheVariants.{Asked}
use Rattle.hh_wire.specs.declared.stop.Stop.{Stop}
use Rattle.hh_wire.specs.declared.stop.Stop.TheVariants.{Read, Refused}
use Rattle.hh_wire.specs.Message.{ByCause, Message, refusal_message}

-- the result is what the head asks; memory may be refused in its place
abbrev pub Asks : Heading → Message → Result Request RequestRefusal → Type 0
Asks h message (Ok request) = message ≡ Ok (Asked request)
Asks h message (Err cause) = ByCause cause (Unit {0}) (message ≡ refusal_message h cause)

-- the same; if a read failed, nothing is said about what the head asks
abbrev pub ReadsBehind : Heading → Message → Result Request Stop → Type 0
ReadsBehind h message (Ok request) = Asks h message (Ok request)
ReadsBehind h message (Err Read) = Unit {0}
ReadsBehind h message (Err (Refused cause)) = Asks h message (Err cause)
