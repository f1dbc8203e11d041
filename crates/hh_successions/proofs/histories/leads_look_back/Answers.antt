use Rattle.hh_successions.proofs.LookBackLaws.{leads_look_back}
use Rattle.hh_successions.proofs.histories.leads_look_back.Goals as goal

pub returns : goal.returns
returns c = leads_look_back
