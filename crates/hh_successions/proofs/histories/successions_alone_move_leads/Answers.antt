use Rattle.hh_successions.proofs.SuccessionLaws.{successions_alone_move_leads}
use Rattle.hh_successions.proofs.histories.successions_alone_move_leads.Goals as goal

pub returns : goal.returns
returns c = successions_alone_move_leads
