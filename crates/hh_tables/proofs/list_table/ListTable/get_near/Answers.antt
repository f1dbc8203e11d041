use Rattle.std.proofs.Common.{◌≡◌, ◌<◌, sym, subst, refl, length}
use Rattle.std.specs.List.{HoldsAt}
use Rattle.std.specs.declared.cmp.Ordering.TheVariants.{Equal}
use Rattle.hh_tables.proofs.SearchLaws.{found_in}
use Rattle.hh_tables.proofs.list_table.ListTable.get_near.Goals as goal

pub returns-then-is_at : goal.returns-then-is_at
returns-then-is_at g c =
    let rows = c.self.inside.rows.items in
    let in' : c.args.place < length rows = subst (λ es. c.args.place < length es) (sym c.self.view_is) (c.is_at.ensures.inside c.if-is_at.true) in
    let here : HoldsAt (λ e. g.K.Ord.cmp e.0 c.args.key.now ≡ Equal) rows c.args.place =
    subst (λ es. HoldsAt (λ e. g.K.Ord.cmp e.0 c.args.key.now ≡ Equal) es c.args.place) (sym c.self.view_is) (c.is_at.ensures.same c.if-is_at.true) in
    found_in g.met.K.Ord.total rows rows c.args.self.now refl c.self.view_is c.self.invariant c.args.key.now c.args.place c.index.result.now here in' c.index.ensures
