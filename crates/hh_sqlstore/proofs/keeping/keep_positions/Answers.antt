use Rattle.std.proofs.Common.{◌∙◌, inr, subst, sym}
use Rattle.std.proofs.lemmas.Result.{on_ok_weaker}
use Rattle.sqlite.specs.Effect.{Database}
use Rattle.sqlite.specs.Held.{state}
use Rattle.hh_sqlrows.specs.Office.{IsOffice}
use Rattle.hh_sqlrows.proofs.BecomingLaws.{may_become_made}
use Rattle.hh_sqlchanges.specs.Writes.{WritesBesideAnew}
use Rattle.hh_sqlschema.specs.TakenOver.{KeepsBeside}
use Rattle.hh_sqlparts.proofs.ReadingLaws.{only}
use Rattle.hh_sqlstore.proofs.BesideLaws.{kept_beside}
use Rattle.hh_sqlstore.proofs.keeping.keep_positions.Goals as goal

pub returns-clause-kept : goal.returns-clause-kept
returns-clause-kept g c clean =
    let old = state g.S.Store c.args.connection.now in
    let new = state g.S.Store c.commit_beside.new.connection in
    let found = c.in_ok-beside.beside in
    let reading = (only _ _ _ c.in_ok-beside.ensures.frame) in
    on_ok_weaker c.commit_beside.result (λ changed.
    let stands = reading.stood changed.was_open in
    let office = c.requires.office stands in
    let settled = c.requires.settled stands in
    let left = reading.left changed.was_open office settled in
    let written = subst (λ (db : Database). WritesBesideAnew found.positions.items found.touched.items db new.now) left.0 (changed.changed (subst IsOffice (sym left.0) office)) in
    let keeps : KeepsBeside old.now new.now =
    kept_beside c.made_anew_agrees.ensures c.made_anew_are_written.ensures old.now new.now found (c.in_ok-beside.ensures.value changed.was_open office settled) written (c.requires.unmarked stands) in
    record {
      was_open = stands;
      is_open = changed.is_open;
      settled = changed.settled;
      marked = keeps.marked;
      taken = inr keeps;
    }) (c.commit_beside.ensures.made clean)

pub returns-clause-crash : goal.returns-clause-crash
returns-clause-crash g c =
    let old = state g.S.Store c.args.connection.now in
    let mid = state g.S.Store c.select_beside_anew.new.conn in
    let new = state g.S.Store c.commit_beside.new.connection in
    let found = c.in_ok-beside.beside in
    let reading = (only _ _ _ c.in_ok-beside.ensures.frame) in
    let safe = c.in_ok-beside.ensures.frame in
    may_become_made KeepsBeside old mid new
    (λ stands. safe.crash stands (c.requires.office stands, c.requires.settled stands))
    (λ stands clean. let up = safe.stays stands clean in (up, (reading.left up (c.requires.office stands) (c.requires.settled stands)).1))
    c.commit_beside.ensures.honest (WritesBesideAnew found.positions.items found.touched.items mid.now)
    (λ up.
    let stands = reading.stood up in
    let left = reading.left up (c.requires.office stands) (c.requires.settled stands) in
    c.commit_beside.ensures.crash (subst IsOffice (sym left.0) (c.requires.office stands)))
    (λ up db writes.
    let stands = reading.stood up in
    let office = c.requires.office stands in
    let settled = c.requires.settled stands in
    let left = reading.left up office settled in
    let written = subst (λ (d : Database). WritesBesideAnew found.positions.items found.touched.items d db) left.0 writes in
    let keeps : KeepsBeside old.now db =
    kept_beside c.made_anew_agrees.ensures c.made_anew_are_written.ensures old.now db found (c.in_ok-beside.ensures.value up office settled) written (c.requires.unmarked stands) in
    subst (λ (d : Database). KeepsBeside d db) (settled ∙ sym left.1) keeps)
