use Rattle.std.proofs.Common.{subst, sym}
use Rattle.hh_tables.specs.Tables.{IsTable}
use Rattle.hh_tables.proofs.BehindLaws.{take_is_table}
use Rattle.hh_tables.proofs.list_table.ListTable.truncate.Goals as goal

pub invariant_of-self : goal.invariant_of-self
invariant_of-self g c = subst (IsTable g.K.Ord.cmp) (sym c.truncate.ensures.items) (take_is_table g.met.K.Ord.total c.args.length c.self.inside.rows.items c.self.invariant)
