use Rattle.std.proofs.Common.{subst, sym}
use Rattle.std.proofs.lemmas.Result.{on_err_weaker, on_ok_weaker}
use Rattle.sqlite.specs.Effect.{Database}
use Rattle.sqlite.specs.Held.{state}
use Rattle.hh_sqlrows.specs.Contents.{registered_of}
use Rattle.hh_sqlrows.specs.Office.{IsOffice}
use Rattle.hh_sqlchanges.specs.Writes.{ChangesByLoad}
use Rattle.hh_sqlstore.specs.steps.Changed.{KeepsLoad}
use Rattle.hh_sqlparts.proofs.ReadingLaws.{only}
use Rattle.hh_sqlstore.proofs.ChangeLaws.{load_kept, may_change_after, nothing_after}
use Rattle.hh_sqlstore.proofs.changing.keep_load.Goals as goal

pub returns-clause-made : goal.returns-clause-made
returns-clause-made g c clean =
    let old = state g.S.Store c.args.connection.now in
    let new = state g.S.Store c.commit_load.new.connection in
    let reading = (only _ _ _ c.in_ok-read.ensures.frame) in
    let w = c.args.change.now in
    on_ok_weaker c.commit_load.result (λ changed.
    let was_settled = c.requires.settled (reading.stood changed.was_open) in
    record {
      was_open = reading.stood changed.was_open;
      is_open = changed.is_open;
      settled = changed.settled;
      changed = λ office.
          let kept = reading.left changed.was_open office was_settled in
          let written = subst (λ (db : Database). ChangesByLoad w c.in_ok-read.read.steps.items c.in_ok-read.read.positions.items c.in_ok-touched.touched.items db new.now) kept.0
          (rw c.deref-4.ensures.value at (rw c.deref-3.ensures.value at (rw c.deref-2.ensures.value at (changed.changed (subst IsOffice (sym kept.0) office))))) in
          load_kept w _ _ _ _ old.now new.now written (rw c.rows.ensures at (c.in_ok-read.ensures.steps changed.was_open office was_settled))
          (rw c.rows.ensures at (c.in_ok-read.ensures.positions changed.was_open office was_settled))
          (rw c.rows.ensures at (c.in_ok-read.ensures.touched changed.was_open office was_settled)) (rw c.deref.ensures.value at (rw c.rows-2.ensures at c.in_ok-touched.ensures.same));
    }) (c.commit_load.ensures.made clean)

pub returns-clause-undone : goal.returns-clause-undone
returns-clause-undone g c =
    on_err_weaker c.commit_load.result
    (nothing_after (state g.S.Store c.args.connection.now) (state g.S.Store c.select_before_load.new.conn) (state g.S.Store c.commit_load.new.connection) (only _ _ _ c.in_ok-read.ensures.frame))
    c.commit_load.ensures.undone

pub returns-clause-crash : goal.returns-clause-crash
returns-clause-crash g c =
    let old = state g.S.Store c.args.connection.now in
    let mid = state g.S.Store c.select_before_load.new.conn in
    let new = state g.S.Store c.commit_load.new.connection in
    let read = c.in_ok-read.ensures in
    let w = c.args.change.now in
    may_change_after (ChangesByLoad w c.in_ok-read.read.steps.items c.in_ok-read.read.positions.items c.in_ok-touched.touched.items) (KeepsLoad w) old mid new c.in_ok-read.read
    read.frame c.commit_load.ensures.honest
    (rw c.deref-4.ensures.value at (rw c.deref-3.ensures.value at (rw c.deref-2.ensures.value at c.commit_load.ensures.crash)))
    (λ still office settled db written.
    load_kept w _ _ _ _ old.now db written (rw c.rows.ensures at (read.steps still office settled)) (rw c.rows.ensures at (read.positions still office settled))
    (rw c.rows.ensures at (read.touched still office settled)) (rw c.deref.ensures.value at (rw c.rows-2.ensures at c.in_ok-touched.ensures.same)))
