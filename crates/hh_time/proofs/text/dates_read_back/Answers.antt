use Rattle.hh_time.proofs.DateTextLaws.{value_of_text, one_date}
use Rattle.hh_time.proofs.text.dates_read_back.Goals as goal

pub returns-clause-spelled : goal.returns-clause-spelled
returns-clause-spelled c = value_of_text

pub returns-clause-one_date : goal.returns-clause-one_date
returns-clause-one_date c = one_date
