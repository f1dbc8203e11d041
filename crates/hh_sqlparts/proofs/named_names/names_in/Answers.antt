use Rattle.std.proofs.Common.{◌+◌, sym, subst, take, ◌∙◌}
use Rattle.std.specs.List.{All}
use Rattle.hh_sqlparts.specs.steps.Named.{IsAmong}
use Rattle.hh_sqlparts.proofs.NamedNames.{among_more, kept_by_update, names_nothing, names_this}
use Rattle.hh_sqlparts.proofs.named_names.names_in.Goals as goal
use Rattle.hh_sqlparts.proofs.named_names.names_in.Goals.{in-Some+in_ok-insert, in_default}

pub loop-row-preserved : goal.loop-row-preserved
loop-row-preserved g c =
    let R = g.N.Ord.cmp in
    let name = g.N.Name.name_of in
    let rows = c.args.rows.now in
    let i = c.loop-row.row-index in
    let row = c.row-item.result in
    elim c.match-of_row.branch [
      | in-Some+in_ok-insert w ↦
          subst (λ names. All (IsAmong R name names.keys) (take (i + 1) rows)) (sym w.names-is)
          (among_more R name rows i row c.loop-row-test.true c.row-item.is c.loop-row.names w.insert.new.self c.loop-row.invariant
          (kept_by_update R name c.loop-row.names w.insert.new.self w.in-Some.name w.in_ok-insert.ensures.updates)
          (names_this R name row w.in-Some.name w.insert.new.self.keys (sym c.of_row.ensures ∙ w.in-Some.is) w.in_ok-insert.ensures.updates.1))
      | in_default w ↦
          subst (λ names. All (IsAmong R name names.keys) (take (i + 1) rows)) (sym w.names-is)
          (among_more R name rows i row c.loop-row-test.true c.row-item.is c.loop-row.names c.loop-row.names c.loop-row.invariant (λ n h. h)
          (names_nothing R name row c.loop-row.names.keys (sym c.of_row.ensures ∙ w.in_default.is)))
    ]
