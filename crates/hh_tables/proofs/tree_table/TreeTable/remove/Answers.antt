use Rattle.std.proofs.Common.{◌∙◌, ap}
use Rattle.hh_tables.specs.Tables.{without}
use Rattle.hh_tables.proofs.MergeLaws.{from_true}
use Rattle.hh_tables.proofs.WithoutLaws.{removed_entry, removed_table}
use Rattle.hh_tables.proofs.tree_table.TreeTable.remove.Goals as goal

pub invariant_of-self : goal.invariant_of-self
invariant_of-self g c = removed_table g.met.K.Ord.total c.args.key.now _ _ c.self.invariant c.remove.ensures.entries

pub returns : goal.returns
returns g c =
    c.remove.ensures.entries ∙ removed_entry g.met.K.Ord.total c.args.key.now c.self.inside.rows.entries (from_true _ c.self.invariant)
    ∙ ap (without g.K.Ord.cmp c.args.key.now) c.self.view_is
