use Rattle.hh_num.proofs.RoundingFacts.{one_nearest}
use Rattle.hh_num.proofs.rounding.nearest_is_one.Goals as goal

pub returns : goal.returns
returns c = one_nearest
