use Rattle.hh_beside.proofs.PositionSums.{known_are_nets}
use Rattle.hh_beside.proofs.position_laws.known_are_nets.Goals as goal

pub returns : goal.returns
returns c = known_are_nets
