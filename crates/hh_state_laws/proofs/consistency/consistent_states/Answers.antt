use Rattle.hh_state_laws.proofs.ConsistentLaws.{reached_consistent}
use Rattle.hh_state_laws.proofs.consistency.consistent_states.Goals as goal

pub returns : goal.returns
returns c = reached_consistent
