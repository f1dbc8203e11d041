use Rattle.hh_state_laws.proofs.TurnoverLaws.{paid_within}
use Rattle.hh_state_laws.proofs.amounts.paid_within.Goals as goal

pub returns : goal.returns
returns c = paid_within
