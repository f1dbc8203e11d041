use Rattle.hh_successions.proofs.LookBackLaws.{row_by_row}
use Rattle.hh_successions.proofs.histories.registers_row_by_row.Goals as goal

pub returns : goal.returns
returns c = row_by_row
