use Rattle.hh_state_laws.proofs.BalanceLaws.{day_nets_are_sums}
use Rattle.hh_state_laws.proofs.sums.day_nets_are_sums.Goals as goal

pub returns : goal.returns
returns c = day_nets_are_sums
