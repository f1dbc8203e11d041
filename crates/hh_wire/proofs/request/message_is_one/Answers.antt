use Rattle.hh_wire.proofs.OneMessage.{one_message}
use Rattle.hh_wire.proofs.request.message_is_one.Goals as goal

pub returns : goal.returns
returns c = one_message
