use Rattle.std.proofs.Common.{◌≡◌, ◌++◌, [], ◌∙◌, List, ap, append-nil, append_assoc, arith, rules, subst, sym}
use Rattle.std.proofs.lemmas.List.{nil_from_length}
use Rattle.sqlite.specs.Held.{state}
use Rattle.sqlite.specs.State.{HasCleanDisk}
use Rattle.hh_sqltables.proofs.ManyLaws.{puts_none, puts_then}
use Rattle.hh_sqltables.proofs.FrameLaws.{writes_then}
use Rattle.hh_sqltables.specs.Forms.{PutsAllIn}
use Rattle.hh_sqltables.proofs.table_calls.insert_all.Goals as goal

pub groups-init : goal.groups-init
groups-init g c = record {
  can_next = search rules;
  is_finite = tt;
  size = search rules;
  frame = search rules;
  puts = λ clean inside is. ([], search rules, puts_none g.T.OfficeTable.schema g.T.OfficeTable.form _ is);
}

pub groups-preserved : goal.groups-preserved
groups-preserved g c =
    let form = g.T.OfficeTable.form in
    let old = state g.S.Store c.args.tx.now.conn.now in
    let mid = state g.S.Store c.groups.tx.conn.now in
    let new = state g.S.Store c.insert_or_replace.new.tx.conn.now in
    let one = c.in_ok-insert_or_replace.ensures in
    let kept = c.groups.invariant in
    let steps = c.in-Some.ensures.steps in
    let before : HasCleanDisk new → HasCleanDisk mid = λ clean. omega (arith, one.frame.survives.clean, clean) in
    record {
      can_next = search rules;
      is_finite = tt;
      size = steps.0 ∙ kept.size;
      frame = writes_then g.S.Store _ _ _ tt _ kept.frame one.frame;
      puts = λ clean inside is.
          let all = kept.puts (before clean) inside is in (
            all.0 ++ c.in-Some.group.now,
            append_assoc all.0 _ _ ∙ ap (λ (es : List (g.row.T-Key.Denot × g.row.T-Value.Denot)). all.0 ++ es) (sym steps.1.0) ∙ all.1,
            puts_then g.T.OfficeTable.schema form all.0 c.in-Some.group.now old.now mid.now new.now all.2 (one.puts clean (kept.frame.inside (before clean) inside) all.2.is_office),
          );
    }

pub returns-clause-puts : goal.returns-clause-puts
returns-clause-puts g c clean inside is =
    let old = state g.S.Store c.args.tx.now.conn.now in
    let new = state g.S.Store c.groups.tx.conn.now in
    let all = c.groups.invariant.puts clean inside is in
    let none = nil_from_length _ c.in-None.ensures.steps.1.0 in
    let whole : all.0 ≡ c.args.rows.now = sym (append-nil all.0) ∙ ap (λ (es : List (g.row.T-Key.Denot × g.row.T-Value.Denot)). all.0 ++ es) (sym none) ∙ all.1 in
    subst (λ (rows : List (g.row.T-Key.Denot × g.row.T-Value.Denot)). PutsAllIn g.T.OfficeTable.schema g.T.OfficeTable.form rows old.now new.now) whole all.2
