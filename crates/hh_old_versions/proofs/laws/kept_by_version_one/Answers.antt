use Rattle.hh_old_versions.proofs.VersionLaws.{kept_by_version_one}
use Rattle.hh_old_versions.proofs.laws.kept_by_version_one.Goals as goal

pub returns : goal.returns
returns c = kept_by_version_one
