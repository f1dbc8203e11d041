use Rattle.std.proofs.Common.{◌∙◌, ap}
use Rattle.std.specs.FinMap.{put}
use Rattle.hh_tables.proofs.TableLaws.{insert_entry-put}
use Rattle.hh_tables.proofs.TableFacts.{put_table}
use Rattle.hh_tables.proofs.tree_table.TreeTable.put.Goals as goal

pub invariant_of-self-2 : goal.invariant_of-self-2
invariant_of-self-2 g c = put_table g.met.K.Ord.total c.args.key c.args.value _ _ c.self.invariant c.in_ok-insert.ensures.entries

pub returns-clause-ok : goal.returns-clause-ok
returns-clause-ok g c =
    c.in_ok-insert.ensures.entries ∙ insert_entry-put g.K.Ord.cmp c.args.key c.args.value c.self.inside.rows.entries ∙ ap (put g.K.Ord.cmp c.args.key c.args.value) c.self.view_is
