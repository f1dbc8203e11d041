use Rattle.std.proofs.Common.{sym, ◌∙◌}
use Rattle.hh_tables.proofs.BehindLaws.{put_ends_behind, put_into_none}
use Rattle.hh_tables.proofs.list_table.ListTable.put_behind.Goals as goal

pub returns-then-is_empty-clause-ok : goal.returns-then-is_empty-clause-ok
returns-then-is_empty-clause-ok g c =
    put_into_none g.met.K.Ord.total c.args.rows.items c.self.inside.rows.items c.args.self.now c.self.inside.rows.len c.self.inside.rows.ok.0 (sym c.is_empty.ensures ∙ c.if-is_empty.true) c.self.view_is c.requires.behind

pub returns-clause-ok : goal.returns-clause-ok
returns-clause-ok g c =
    put_ends_behind g.met.K.Ord.total c.args.rows.items c.self.inside.rows.items c.args.self.now c.append.new.self.items c.append.result c.self.view_is c.append.ensures.items c.requires.behind
