use Rattle.std.proofs.Common.{rules}
use Rattle.std.proofs.lemmas.List.Sorted.{answers_always}
use Rattle.hh_tables.proofs.SearchLaws.{found_in, missed_in}
use Rattle.hh_tables.proofs.list_table.ListTable.find.Goals as goal

pub returns-in-Ok-clause-value : goal.returns-in-Ok-clause-value
returns-in-Ok-clause-value g c =
    found_in g.met.K.Ord.total c.deref.result.now c.self.inside.rows.items c.args.self.now c.deref.ensures.value c.self.view_is c.self.invariant c.args.key.now c.in-Ok.place c.index.result.now
    (c.in-Ok.ensures.position (λ row. row.0) (answers_always _ _ _ (λ f a r f' k. search rules))) c.in-Ok.ensures.bound c.index.ensures

pub returns-in-Err-clause-value : goal.returns-in-Err-clause-value
returns-in-Err-clause-value g c =
    missed_in g.met.K.Ord.total c.deref.result.now c.self.inside.rows.items c.args.self.now c.deref.ensures.value c.self.view_is c.self.invariant c.args.key.now c.in-Err.field-0
    (c.in-Err.ensures.position (λ row. row.0) (answers_always _ _ _ (λ f a r f' k. search rules)))
