use Rattle.hh_kept_rows.proofs.BesideLaws.{read_beside}
use Rattle.hh_kept_rows.proofs.laws.read_by_what_is_beside.Goals as goal

pub returns : goal.returns
returns c = read_beside
