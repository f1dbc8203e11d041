use Rattle.hh_tables.proofs.LastLaws.{last_found}
use Rattle.hh_tables.proofs.tree_table.TreeTable.last_up_to.Goals as goal

pub returns-clause-value : goal.returns-clause-value
returns-clause-value g c =
    last_found g.met.K.Ord.total c.args.key.now c.self.inside.rows.entries c.args.self.now c.range.result c.next_back.new.self c.self.view_is
    (c.range.ensures.between tt) (c.in_ok-found.found.now, c.in_ok-found.value.now) c.in_ok-found.ensures.steps
