use Rattle.hh_beside.proofs.AgreeLaws.{loads_agree}
use Rattle.hh_beside.proofs.laws.loads_agree.Goals as goal

pub returns : goal.returns
returns c = loads_agree
