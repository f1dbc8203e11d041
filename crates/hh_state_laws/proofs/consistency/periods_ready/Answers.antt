use Rattle.hh_state_laws.proofs.ReadyLaws.{periods_ready}
use Rattle.hh_state_laws.proofs.consistency.periods_ready.Goals as goal

pub returns : goal.returns
returns c = periods_ready
