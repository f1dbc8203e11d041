use Rattle.std.proofs.Common.{◌≡◌, ◌++◌, [], ◌∙◌, List, ap, append-nil, append_assoc, arith, refl, rules, subst, sym}
use Rattle.std.proofs.lemmas.List.{nil_from_length}
use Rattle.sqlite.specs.Held.{state}
use Rattle.sqlite.specs.State.{HasCleanDisk}
use Rattle.hh_rows.specs.declared.rows.Row.{Row}
use Rattle.hh_sqlrows.proofs.FrameLaws.{writes_as, writes_then}
use Rattle.hh_sqlchanges.specs.steps.Becoming.{Becomes}
use Rattle.hh_sqlchanges.specs.steps.FileRows.{with_file_rows}
use Rattle.hh_sqlchanges.proofs.GroupLaws.{rows_none, rows_then}
use Rattle.hh_sqlchanges.proofs.file_rows.write_file_rows.Goals as goal

pub groups-init : goal.groups-init
groups-init g c = record {
  can_next = search rules;
  is_finite = tt;
  size = search rules;
  frame = search rules;
  writes = λ clean inside is. ([], search rules, rows_none _ is);
}

pub groups-preserved : goal.groups-preserved
groups-preserved g c =
    let old = state g.S.Store c.args.tx.now.conn.now in
    let mid = state g.S.Store c.groups.tx.conn.now in
    let new = state g.S.Store c.write_group.new.tx.conn.now in
    let one = c.in_ok-are_new.ensures in
    let kept = c.groups.invariant in
    let steps = c.in-Some.ensures.steps in
    let before : HasCleanDisk new → HasCleanDisk mid = λ clean. omega (arith, one.frame.survives.clean, clean) in
    record {
      can_next = search rules;
      is_finite = tt;
      size = steps.0 ∙ kept.size;
      frame = writes_as g.S.Store _ _ _ _ (writes_then g.S.Store _ _ _ tt _ kept.frame one.frame);
      writes = λ clean inside is.
          let all = kept.writes (before clean) inside is in (
            all.0 ++ c.in-Some.group.now,
            append_assoc all.0 _ _ ∙ ap (λ (rs : List Row). all.0 ++ rs) (sym steps.1.0) ∙ all.1,
            rows_then all.0 c.in-Some.group.now old.now mid.now new.now all.2 (one.writes clean (kept.frame.inside (before clean) inside) all.2.stays.is_office),
          );
    }

pub returns-clause-writes : goal.returns-clause-writes
returns-clause-writes g c clean inside is =
    let old = state g.S.Store c.args.tx.now.conn.now in
    let new = state g.S.Store c.groups.tx.conn.now in
    let all = c.groups.invariant.writes clean inside is in
    let none = nil_from_length _ c.in-None.ensures.steps.1.0 in
    let whole : all.0 ≡ c.args.rows.now = sym (append-nil all.0) ∙ ap (λ (rs : List Row). all.0 ++ rs) (sym none) ∙ all.1 in
    subst (λ (rs : List Row). Becomes (with_file_rows rs) old.now new.now) whole all.2
