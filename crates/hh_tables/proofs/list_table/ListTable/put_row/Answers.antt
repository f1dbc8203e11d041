use Rattle.std.proofs.Common.{◌∙◌, ap, rules}
use Rattle.std.specs.FinMap.{put}
use Rattle.std.proofs.lemmas.List.Sorted.{answers_always}
use Rattle.hh_tables.proofs.SearchLaws.{put_found_in, put_is_table, put_missed_in}
use Rattle.hh_tables.proofs.list_table.ListTable.put_row.Goals as goal

pub returns-in-Ok-clause-ok : goal.returns-in-Ok-clause-ok
returns-in-Ok-clause-ok g c =
    put_found_in g.met.K.Ord.total c.deref.result.now c.self.inside.rows.items c.args.self.now c.deref.ensures.value c.self.view_is c.self.invariant c.args.key c.args.value c.in-Ok.place c.index_mut.result.now
    (c.in-Ok.ensures.position (λ row. row.0) (answers_always _ _ _ (λ f a r f' k. search rules))) c.in-Ok.ensures.bound c.index_mut.ensures.value
    ∙ ap (put g.K.Ord.cmp c.args.key c.args.value) c.self.view_is

pub invariant_of-self : goal.invariant_of-self
invariant_of-self g c =
    put_is_table g.met.K.Ord.total c.deref.result.now c.self.inside.rows.items c.args.self.now c.deref.ensures.value c.self.view_is c.self.invariant c.args.key c.args.value _
    (put_found_in g.met.K.Ord.total c.deref.result.now c.self.inside.rows.items c.args.self.now c.deref.ensures.value c.self.view_is c.self.invariant c.args.key c.args.value c.in-Ok.place c.index_mut.result.now
    (c.in-Ok.ensures.position (λ row. row.0) (answers_always _ _ _ (λ f a r f' k. search rules))) c.in-Ok.ensures.bound c.index_mut.ensures.value)

pub returns-in_ok-insert-in-Err-clause-ok : goal.returns-in_ok-insert-in-Err-clause-ok
returns-in_ok-insert-in-Err-clause-ok g c =
    c.in_ok-insert-in-Err.ensures.items
    ∙ put_missed_in g.met.K.Ord.total c.deref.result.now c.self.inside.rows.items c.args.self.now c.deref.ensures.value c.self.view_is c.self.invariant c.args.key c.args.value c.in-Err.place
    (c.in-Err.ensures.position (λ row. row.0) (answers_always _ _ _ (λ f a r f' k. search rules)))
    ∙ ap (put g.K.Ord.cmp c.args.key c.args.value) c.self.view_is

pub invariant_of-self-in-Continue-1 : goal.invariant_of-self-in-Continue-1
invariant_of-self-in-Continue-1 g c =
    put_is_table g.met.K.Ord.total c.deref.result.now c.self.inside.rows.items c.args.self.now c.deref.ensures.value c.self.view_is c.self.invariant c.args.key c.args.value _
    (c.in_ok-insert-in-Err.ensures.items
    ∙ put_missed_in g.met.K.Ord.total c.deref.result.now c.self.inside.rows.items c.args.self.now c.deref.ensures.value c.self.view_is c.self.invariant c.args.key c.args.value c.in-Err.place
    (c.in-Err.ensures.position (λ row. row.0) (answers_always _ _ _ (λ f a r f' k. search rules))))
