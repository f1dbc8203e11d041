use Rattle.hh_plain_tables.proofs.RefusalLaws.{outputs_count}
use Rattle.hh_plain_tables.proofs.plain_tables.PlainTablesTables.balances.Goals as goal

pub returns-clause-counted : goal.returns-clause-counted
returns-clause-counted g c = outputs_count _ _ c.write_balances_of.result c.write_balances_of.ensures.writes
