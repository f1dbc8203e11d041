use Rattle.hh_state_laws.proofs.RangeLaws.{files_in_range}
use Rattle.hh_state_laws.proofs.ranges.accepted_files_in_range.Goals as goal

pub returns : goal.returns
returns c = files_in_range
