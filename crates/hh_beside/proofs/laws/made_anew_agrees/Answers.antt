use Rattle.hh_beside.proofs.AgreeLaws.{made_anew_agrees}
use Rattle.hh_beside.proofs.laws.made_anew_agrees.Goals as goal

pub returns : goal.returns
returns c = made_anew_agrees
