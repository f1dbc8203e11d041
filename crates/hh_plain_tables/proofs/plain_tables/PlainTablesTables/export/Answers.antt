use Rattle.hh_plain_tables.proofs.RefusalLaws.{outputs_count}
use Rattle.hh_plain_tables.proofs.plain_tables.PlainTablesTables.export.Goals as goal

pub returns-clause-counted : goal.returns-clause-counted
returns-clause-counted g c = outputs_count _ _ c.write_results_of.result c.write_results_of.ensures.writes
