use Rattle.hh_kept_rows.proofs.DayRowLaws.{contracts_alike}
use Rattle.hh_kept_rows.proofs.laws.contracts_by_their_rows.Goals as goal

pub returns : goal.returns
returns c = contracts_alike
