use Rattle.std.proofs.Common.{◌≡◌, ◌++◌, [], ◌∙◌, List, map, ap, append-nil, append_assoc, arith, rules, subst, sym}
use Rattle.std.proofs.lemmas.List.{map-append, nil_from_length}
use Rattle.sqlite.specs.Held.{state}
use Rattle.sqlite.specs.State.{HasCleanDisk}
use Rattle.hh_reports.specs.result.AccountRow.{AccountRow}
use Rattle.hh_keyed_rows.specs.run_keys.ResultKey.{ResultKey}
use Rattle.hh_keyed_rows.specs.declared.amounts.AccountAmounts.{AccountAmounts}
use Rattle.hh_sqltables.proofs.FrameLaws.{writes_then}
use Rattle.hh_sqltables.proofs.ManyLaws.{puts_none, puts_then}
use Rattle.hh_sqlrows.specs.Forms.{PutsAll}
use Rattle.hh_sqlrows.specs.OfficeSchema.{office}
use Rattle.hh_sqlrows.specs.OfficeTables.{amount_entry, results}
use Rattle.hh_sqlrows.proofs.run_results.insert_results.Goals as goal

pub groups-init : goal.groups-init
groups-init g c = record {
  can_next = search rules;
  is_finite = tt;
  size = search rules;
  frame = search rules;
  puts = λ clean inside is. ([], search rules, puts_none office results _ is);
}

pub groups-preserved : goal.groups-preserved
groups-preserved g c =
    let old = state g.S.Store c.args.tx.now.conn.now in
    let mid = state g.S.Store c.groups.tx.conn.now in
    let new = state g.S.Store c.insert_all.new.tx.conn.now in
    let one = c.in_ok-insert_all.ensures in
    let kept = c.groups.invariant in
    let steps = c.in-Some.ensures.steps in
    let group = c.in-Some.group.now in
    let same : c.as_slice.result.now ≡ map amount_entry group = c.as_slice.ensures.value ∙ c.in_ok-amounts.ensures in
    let before : HasCleanDisk new → HasCleanDisk mid = λ clean. omega (arith, one.frame.survives.clean, clean) in
    record {
      can_next = search rules;
      is_finite = tt;
      size = steps.0 ∙ kept.size;
      frame = writes_then g.S.Store _ _ _ tt _ kept.frame one.frame;
      puts = λ clean inside is.
          let all = kept.puts (before clean) inside is in
          let last : PutsAll results (map amount_entry group) mid.now new.now =
          subst (λ (es : List (ResultKey × AccountAmounts)). PutsAll results es mid.now new.now) same (one.puts clean (kept.frame.inside (before clean) inside) all.2.is_office) in (
            all.0 ++ group,
            append_assoc all.0 _ _ ∙ ap (λ (es : List (ResultKey × AccountRow)). all.0 ++ es) (sym steps.1.0) ∙ all.1,
            subst (λ (es : List (ResultKey × AccountAmounts)). PutsAll results es old.now new.now) (sym (map-append amount_entry all.0 group))
                (puts_then office results (map amount_entry all.0) (map amount_entry group) old.now mid.now new.now all.2 last),
          );
    }

pub returns-clause-puts : goal.returns-clause-puts
returns-clause-puts g c clean inside is =
    let old = state g.S.Store c.args.tx.now.conn.now in
    let new = state g.S.Store c.groups.tx.conn.now in
    let all = c.groups.invariant.puts clean inside is in
    let none = nil_from_length _ c.in-None.ensures.steps.1.0 in
    let whole : all.0 ≡ c.args.rows.now = sym (append-nil all.0) ∙ ap (λ (es : List (ResultKey × AccountRow)). all.0 ++ es) (sym none) ∙ all.1 in
    subst (λ (rows : List (ResultKey × AccountRow)). PutsAll results (map amount_entry rows) old.now new.now) whole all.2
