use Rattle.hh_successions.proofs.LookBackLaws.{leads_stay}
use Rattle.hh_successions.proofs.histories.leads_stay.Goals as goal

pub returns : goal.returns
returns c = leads_stay
