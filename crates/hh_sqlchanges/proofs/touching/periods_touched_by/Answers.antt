use Rattle.std.proofs.Common.{◌+◌, ◌++◌, sym, subst, take, ◌∙◌}
use Rattle.std.specs.Prelude.{filter_map}
use Rattle.hh_beside.specs.DayLaws.{HaveTheSame}
use Rattle.hh_beside.specs.Keeping.{touched_by}
use Rattle.hh_sqlchanges.proofs.TouchLaws.{touches, touches_none}
use Rattle.hh_sqlchanges.proofs.touching.periods_touched_by.Goals as goal
use Rattle.hh_sqlchanges.proofs.touching.periods_touched_by.Goals.{in-Some+in_ok-insert, in_default}

pub loop-row-preserved : goal.loop-row-preserved
loop-row-preserved c =
    let more = c.args.more.now in
    let rows = c.args.rows.now in
    let i = c.loop-row.row-index in
    let row = c.row-item.result in
    elim c.match-period_of.branch [
      | in-Some+in_ok-insert w ↦
          subst (λ found. HaveTheSame found.keys (more ++ filter_map touched_by (take (i + 1) rows))) (sym w.found-is)
          (subst (λ keys. HaveTheSame keys (more ++ filter_map touched_by (take (i + 1) rows))) (sym w.in_ok-insert.ensures.keys)
          (touches more rows i row c.loop-row.found.keys c.loop-row-test.true c.row-item.is c.loop-row.invariant w.in-Some.at (sym c.period_of.ensures ∙ w.in-Some.is)))
      | in_default w ↦
          subst (λ found. HaveTheSame found.keys (more ++ filter_map touched_by (take (i + 1) rows))) (sym w.found-is)
          (touches_none more rows i row c.loop-row.found.keys c.loop-row-test.true c.row-item.is c.loop-row.invariant (sym c.period_of.ensures ∙ w.in_default.is))
    ]
