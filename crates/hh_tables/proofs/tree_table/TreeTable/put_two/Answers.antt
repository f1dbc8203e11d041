use Rattle.hh_tables.proofs.TableFacts.{puts_two, puts_two_table}
use Rattle.hh_tables.proofs.tree_table.TreeTable.put_two.Goals as goal

pub invariant_of-self : goal.invariant_of-self
invariant_of-self g c = puts_two_table g.met.K.Ord.total c.args.first c.args.second _ _ c.put_two_into.result c.self.invariant c.put_two_into.ensures.ok c.put_two_into.ensures.err

pub returns-clause-ok : goal.returns-clause-ok
returns-clause-ok g c = puts_two g.K.Ord.cmp c.args.first c.args.second _ _ _ c.put_two_into.result c.self.view_is c.put_two_into.ensures.ok
