use Rattle.std.proofs.Common.{◌≡◌, ◌<◌, ◌∙◌, ap, sym, subst, refl, length}
use Rattle.std.specs.FinMap.{put}
use Rattle.std.specs.List.{HoldsAt}
use Rattle.std.specs.declared.cmp.Ordering.TheVariants.{Equal}
use Rattle.hh_tables.proofs.SearchLaws.{put_found_in, put_is_table}
use Rattle.hh_tables.proofs.list_table.ListTable.put_near.Goals as goal

pub returns-then-is_at-clause-ok : goal.returns-then-is_at-clause-ok
returns-then-is_at-clause-ok g c =
    let rows = c.self.inside.rows.items in
    let in' : c.args.place < length rows = subst (λ es. c.args.place < length es) (sym c.self.view_is) (c.is_at.ensures.inside c.if-is_at.true) in
    let here : HoldsAt (λ e. g.K.Ord.cmp e.0 c.args.key ≡ Equal) rows c.args.place =
    subst (λ es. HoldsAt (λ e. g.K.Ord.cmp e.0 c.args.key ≡ Equal) es c.args.place) (sym c.self.view_is) (c.is_at.ensures.same c.if-is_at.true) in
    put_found_in g.met.K.Ord.total rows rows c.args.self.now refl c.self.view_is c.self.invariant c.args.key c.args.value c.args.place c.index_mut.result.now here in' c.index_mut.ensures.value
    ∙ ap (put g.K.Ord.cmp c.args.key c.args.value) c.self.view_is

pub invariant_of-self : goal.invariant_of-self
invariant_of-self g c =
    let rows = c.self.inside.rows.items in
    let in' : c.args.place < length rows = subst (λ es. c.args.place < length es) (sym c.self.view_is) (c.is_at.ensures.inside c.if-is_at.true) in
    let here : HoldsAt (λ e. g.K.Ord.cmp e.0 c.args.key ≡ Equal) rows c.args.place =
    subst (λ es. HoldsAt (λ e. g.K.Ord.cmp e.0 c.args.key ≡ Equal) es c.args.place) (sym c.self.view_is) (c.is_at.ensures.same c.if-is_at.true) in
    put_is_table g.met.K.Ord.total rows rows c.args.self.now refl c.self.view_is c.self.invariant c.args.key c.args.value _
    (put_found_in g.met.K.Ord.total rows rows c.args.self.now refl c.self.view_is c.self.invariant c.args.key c.args.value c.args.place c.index_mut.result.now here in' c.index_mut.ensures.value)
