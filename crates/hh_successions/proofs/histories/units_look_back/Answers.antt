use Rattle.hh_successions.proofs.LookBackLaws.{units_look_back}
use Rattle.hh_successions.proofs.histories.units_look_back.Goals as goal

pub returns : goal.returns
returns c = units_look_back
