use Rattle.hh_state_laws.proofs.TurnoverLaws.{day_nets_within}
use Rattle.hh_state_laws.proofs.amounts.day_nets_within.Goals as goal

pub returns : goal.returns
returns c = day_nets_within
