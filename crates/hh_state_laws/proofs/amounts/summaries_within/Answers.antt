use Rattle.hh_state_laws.proofs.CountLaws.{summaries_within}
use Rattle.hh_state_laws.proofs.amounts.summaries_within.Goals as goal

pub returns : goal.returns
returns c = summaries_within
