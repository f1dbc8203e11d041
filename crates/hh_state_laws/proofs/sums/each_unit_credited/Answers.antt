use Rattle.hh_state_laws.proofs.CompleteLaws.{each_unit_credited}
use Rattle.hh_state_laws.proofs.sums.each_unit_credited.Goals as goal

pub returns : goal.returns
returns c = each_unit_credited
