use Rattle.hh_state_laws.proofs.TurnoverLaws.{balances_within}
use Rattle.hh_state_laws.proofs.amounts.balances_within.Goals as goal

pub returns : goal.returns
returns c = balances_within
