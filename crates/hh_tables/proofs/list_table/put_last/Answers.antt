use Rattle.std.proofs.Common.{◌≡◌, ◌++◌, ◌∷◌, [], length, true, false, ap, ◌∙◌, rules, arith}
use Rattle.std.specs.Ordering.{is_eq}
use Rattle.hh_tables.proofs.MergeLaws.{put_behind, put_first, put_in_place}
use Rattle.hh_tables.proofs.list_table.put_last.Goals as goal
use Rattle.hh_tables.proofs.list_table.put_last.Goals.{in-Some+else-is_eq+in_ok-push-2, in_default}

pub returns-then-is_eq : goal.returns-then-is_eq
returns-then-is_eq g c =
    let tied : is_eq (g.K.Ord.cmp c.in-Some.last.0 c.args.row.0) ≡ true = search rules in
    c.in_ok-push.ensures.items
    ∙ put_in_place g.met.K.Ord.total c.args.row c.args.rows.now.items c.pop.new.self.items c.in-Some.last c.in-Some.ensures.items c.requires.rising c.requires.reached tied

pub returns : goal.returns
returns g c = elim c.match-pop.branch [
  | in-Some+else-is_eq+in_ok-push-2 w ↦
      let untied : is_eq (g.K.Ord.cmp w.in-Some.last.0 c.args.row.0) ≡ false = search rules in
      c.in_ok-push-3.ensures.items ∙ ap (λ v. v.items ++ c.args.row ∷ []) w.rows-is ∙ ap (λ l. l ++ c.args.row ∷ []) w.in_ok-push-2.ensures.items
      ∙ put_behind g.met.K.Ord.total c.args.row c.args.rows.now.items c.pop.new.self.items w.in-Some.last w.in-Some.ensures.items c.requires.rising c.requires.reached untied
  | in_default w ↦
      let none : length c.pop.new.self.items ≡ 0 = omega (arith, c.pop.new.self.ok.0, w.in_default.ensures.cases) in
      c.in_ok-push-3.ensures.items ∙ ap (λ v. v.items ++ c.args.row ∷ []) w.rows-is
      ∙ put_first g.met.K.Ord.total c.args.row c.args.rows.now.items c.pop.new.self.items w.in_default.ensures.items none
]
