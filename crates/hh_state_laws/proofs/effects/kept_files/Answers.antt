use Rattle.hh_states.proofs.ReadLaws.{holds_files}
use Rattle.hh_state_laws.proofs.effects.kept_files.Goals as goal

pub returns : goal.returns
returns c = holds_files
