use Rattle.hh_day.proofs.WriteLaws.{writes_the_run}
use Rattle.hh_day.proofs.laws.writes_the_run.Goals as goal

pub returns : goal.returns
returns c = writes_the_run c.day_nets_from_results.ensures c.day_nets_are_sums.ensures
