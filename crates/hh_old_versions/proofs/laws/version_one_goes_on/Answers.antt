use Rattle.hh_old_versions.proofs.StateLaws.{version_one_goes_on}
use Rattle.hh_old_versions.proofs.laws.version_one_goes_on.Goals as goal

pub returns : goal.returns
returns c = version_one_goes_on
