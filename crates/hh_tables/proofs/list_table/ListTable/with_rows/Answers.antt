use Rattle.std.proofs.Common.{sym, subst, ◌∙◌}
use Rattle.hh_tables.specs.Tables.{IsTable}
use Rattle.hh_tables.proofs.MergeLaws.{put_all_is_table, put_all_lent}
use Rattle.hh_tables.proofs.list_table.ListTable.with_rows.Goals as goal

pub invariant_of-result : goal.invariant_of-result
invariant_of-result g c =
    subst (IsTable g.K.Ord.cmp) (sym c.in_ok-rows.ensures) (put_all_is_table g.met.K.Ord.total c.deref-2.result.now c.deref.result.now (subst (IsTable g.K.Ord.cmp) (sym c.deref.ensures.value) c.self.invariant))

pub returns : goal.returns
returns g c =
    c.in_ok-rows.ensures
    ∙ put_all_lent g.met.K.Ord.total c.args.rows.items c.in_ok-sorted.sorted.items c.deref-2.result.now c.self.inside.rows.items c.deref.result.now c.args.self.now
    c.in_ok-sorted.ensures.stable c.deref-2.ensures.value c.deref.ensures.value c.self.view_is c.self.invariant
