use Rattle.std.proofs.Common.{◌∙◌}
use Rattle.hh_tables.proofs.BehindLaws.{come_behind_last}
use Rattle.hh_tables.proofs.list_table.ListTable.come_behind.Goals as goal

pub returns-in-Some : goal.returns-in-Some
returns-in-Some g c =
    c.are_rising_above.ensures
    ∙ come_behind_last g.met.K.Ord.total c.deref.result.now c.self.inside.rows.items c.args.self.now c.args.rows.now c.in-Some.last.now c.deref.ensures.value c.self.view_is c.in-Some.ensures.value c.self.invariant
