use Rattle.hh_beside.proofs.AgreeLaws.{runs_agree}
use Rattle.hh_beside.proofs.laws.runs_agree.Goals as goal

pub returns : goal.returns
returns c = runs_agree
