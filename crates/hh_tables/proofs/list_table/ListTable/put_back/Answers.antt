use Rattle.std.proofs.Common.{◌∙◌, ap, sym, rules}
use Rattle.std.specs.FinMap.{put}
use Rattle.std.proofs.lemmas.List.Sorted.{answers_always}
use Rattle.hh_tables.specs.Tables.{with_before, without}
use Rattle.hh_tables.proofs.SearchLaws.{put_found_in, put_is_table}
use Rattle.hh_tables.proofs.WithoutLaws.{none_back, removed_in, without_is_table}
use Rattle.hh_tables.proofs.list_table.ListTable.put_back.Goals as goal

pub returns-in_default : goal.returns-in_default
returns-in_default g c =
    none_back g.met.K.Ord.total c.deref.result.now c.self.inside.rows.items c.args.self.now c.deref.ensures.value c.self.view_is c.self.invariant c.args.key.now c.args.before c.in_default.field-0
    (c.in_default.ensures.position (λ row. row.0) (answers_always _ _ _ (λ f a r f' k. search rules))) c.requires

pub invariant_of-self : goal.invariant_of-self
invariant_of-self g c =
    put_is_table g.met.K.Ord.total c.deref.result.now c.self.inside.rows.items c.args.self.now c.deref.ensures.value c.self.view_is c.self.invariant c.args.key.now c.in-Some.value _
    (put_found_in g.met.K.Ord.total c.deref.result.now c.self.inside.rows.items c.args.self.now c.deref.ensures.value c.self.view_is c.self.invariant c.args.key.now c.in-Some.value c.in-Ok.place c.index_mut.result.now
    (c.in-Ok.ensures.position (λ row. row.0) (answers_always _ _ _ (λ f a r f' k. search rules))) c.in-Ok.ensures.bound c.index_mut.ensures.value)

pub invariant_of-self-in-None : goal.invariant_of-self-in-None
invariant_of-self-in-None g c =
    without_is_table g.met.K.Ord.total c.deref.result.now c.self.inside.rows.items c.args.self.now c.deref.ensures.value c.self.view_is c.self.invariant c.args.key.now _
    (c.remove.ensures.items
    ∙ removed_in g.met.K.Ord.total c.deref.result.now c.self.inside.rows.items c.args.self.now c.deref.ensures.value c.self.view_is c.self.invariant c.args.key.now c.in-Ok.place
    (c.in-Ok.ensures.position (λ row. row.0) (answers_always _ _ _ (λ f a r f' k. search rules))) c.in-Ok.ensures.bound)

pub returns-in-Some : goal.returns-in-Some
returns-in-Some g c =
    put_found_in g.met.K.Ord.total c.deref.result.now c.self.inside.rows.items c.args.self.now c.deref.ensures.value c.self.view_is c.self.invariant c.args.key.now c.in-Some.value c.in-Ok.place c.index_mut.result.now
    (c.in-Ok.ensures.position (λ row. row.0) (answers_always _ _ _ (λ f a r f' k. search rules))) c.in-Ok.ensures.bound c.index_mut.ensures.value
    ∙ ap (put g.K.Ord.cmp c.args.key.now c.in-Some.value) c.self.view_is
    ∙ ap (λ b. with_before g.K.Ord.cmp c.args.key.now b c.args.self.now) (sym c.in-Some.is)

pub returns-in-None : goal.returns-in-None
returns-in-None g c =
    c.remove.ensures.items
    ∙ removed_in g.met.K.Ord.total c.deref.result.now c.self.inside.rows.items c.args.self.now c.deref.ensures.value c.self.view_is c.self.invariant c.args.key.now c.in-Ok.place
    (c.in-Ok.ensures.position (λ row. row.0) (answers_always _ _ _ (λ f a r f' k. search rules))) c.in-Ok.ensures.bound
    ∙ ap (without g.K.Ord.cmp c.args.key.now) c.self.view_is
    ∙ ap (λ b. with_before g.K.Ord.cmp c.args.key.now b c.args.self.now) (sym c.in-None.is)
