use Rattle.hh_kept_rows.proofs.DayRowLaws.{parts_of_parts}
use Rattle.hh_kept_rows.proofs.laws.parts_of_parts.Goals as goal

pub returns : goal.returns
returns c = parts_of_parts
