use Rattle.hh_state_laws.proofs.TurnoverLaws.{turnovers_within}
use Rattle.hh_state_laws.proofs.amounts.turnovers_within.Goals as goal

pub returns : goal.returns
returns c = turnovers_within
