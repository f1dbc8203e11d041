use Rattle.hh_state_laws.proofs.RangeLaws.{keys_never_meet}
use Rattle.hh_state_laws.proofs.ranges.keys_never_meet.Goals as goal

pub returns : goal.returns
returns c = keys_never_meet
