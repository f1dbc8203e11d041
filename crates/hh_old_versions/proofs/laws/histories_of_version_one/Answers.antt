use Rattle.hh_old_versions.proofs.VersionLaws.{histories_of_version_one}
use Rattle.hh_old_versions.proofs.laws.histories_of_version_one.Goals as goal

pub returns : goal.returns
returns c = histories_of_version_one
