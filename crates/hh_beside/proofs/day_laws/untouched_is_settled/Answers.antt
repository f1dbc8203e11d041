use Rattle.hh_beside.proofs.DayAccountedFor.{untouched_is_settled}
use Rattle.hh_beside.proofs.day_laws.untouched_is_settled.Goals as goal

pub returns : goal.returns
returns c = untouched_is_settled
