use Rattle.hh_plain_tables.proofs.RefusalLaws.{outputs_count}
use Rattle.hh_plain_tables.proofs.plain_tables.PlainTablesTables.day_report.Goals as goal

pub returns-clause-counted : goal.returns-clause-counted
returns-clause-counted g c = outputs_count _ _ c.write_day_report_of.result c.write_day_report_of.ensures.writes
