use Rattle.std.proofs.Common.{◌∙◌, ap}
use Rattle.std.specs.FinMap.{find}
use Rattle.hh_tables.proofs.TableLaws.{lookup-find}
use Rattle.hh_tables.proofs.tree_table.TreeTable.get.Goals as goal

pub returns-clause-value : goal.returns-clause-value
returns-clause-value g c =
    c.copied.ensures ∙ c.get.ensures.value ∙ lookup-find g.K.Ord.cmp c.args.key.now c.self.inside.rows.entries ∙ ap (find g.K.Ord.cmp c.args.key.now) c.self.view_is
