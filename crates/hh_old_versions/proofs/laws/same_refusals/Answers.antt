use Rattle.hh_old_versions.proofs.VersionLaws.{same_refusals}
use Rattle.hh_old_versions.proofs.laws.same_refusals.Goals as goal

pub returns : goal.returns
returns c = same_refusals
