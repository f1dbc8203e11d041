use Rattle.hh_successions.proofs.MarkLaws.{marks_stay}
use Rattle.hh_successions.proofs.histories.marks_stay.Goals as goal

pub returns : goal.returns
returns c = marks_stay
