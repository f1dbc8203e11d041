use Rattle.hh_successions.proofs.MarkLaws.{marks_alike}
use Rattle.hh_successions.proofs.histories.marks_alike.Goals as goal

pub returns : goal.returns
returns c = marks_alike
