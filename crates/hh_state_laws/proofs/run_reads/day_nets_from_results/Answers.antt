use Rattle.hh_state_laws.proofs.ResultLaws.{day_nets_from_results}
use Rattle.hh_state_laws.proofs.run_reads.day_nets_from_results.Goals as goal

pub returns : goal.returns
returns c = day_nets_from_results
