-- Which refusal tells each cause.
use Rattle.hh_names.specs.declared.fault.Refusal.{Refusal}
use Rattle.hh_names.specs.declared.fault.Refusal.TheVariants as named
use Rattle.hh_http_replies.specs.declared.refusal.RequestRefusal.{RequestRefusal}
use Rattle.hh_http_replies.specs.declared.refusal.RequestRefusal.TheVariants as refusal

-- the refusal that tells a cause
abbrev pub refusal_of : RequestRefusal → Refusal
refusal_of refusal.NoRoute = named.NoRoute
refusal_of (refusal.BadMethod allow) = named.BadMethod
refusal_of refusal.LengthRequired = named.LengthRequired
refusal_of refusal.BadRequest = named.BadRequest
refusal_of refusal.BodyTooLarge = named.BodyTooLarge
refusal_of refusal.Memory = named.Memory
