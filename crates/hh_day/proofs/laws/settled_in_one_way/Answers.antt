use Rattle.hh_day.proofs.OneWayLaws.{settled_in_one_way}
use Rattle.hh_day.proofs.laws.settled_in_one_way.Goals as goal

pub returns : goal.returns
returns c = settled_in_one_way c.each_period_settled.ensures
