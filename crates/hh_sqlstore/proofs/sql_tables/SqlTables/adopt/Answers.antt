use Rattle.std.proofs.Common.{IsTrue}
use Rattle.sqlite.specs.Held.{state}
use Rattle.hh_sqlschema.specs.Adopted.{IsAdoptedFrom}
use Rattle.hh_sqlstore.specs.steps.Kept.{IsMarked}
use Rattle.hh_sqlstore.proofs.AdoptLaws.{committed_taken, content_before, held_before, holds_after, keeps_held, mark_committed}
use Rattle.hh_sqlstore.proofs.ContentLaws.{clean_while_open}
use Rattle.hh_sqlstore.proofs.sql_tables.SqlTables.adopt.Goals as goal

pub invariant_of-result : goal.invariant_of-result
invariant_of-result g c =
    let old = state g.S.Store c.args.connection in
    let new = state g.S.Store c.take_over.new.connection in
    let taken : IsTrue new.is_open → IsAdoptedFrom c.in-Ok.settings old × IsMarked old new = λ stands. c.in-Ok.ensures.adopted (clean_while_open g.S.Store c.take_over.new.connection g.met.S.Store.shut_if_dirty stands) in
    record {
      autocommit = c.in-Ok.ensures.autocommit;
      settled = λ stands. (taken stands).1.settled;
      holds = λ stands. holds_after c.in-Ok.settings old new (taken stands).0 (taken stands).1;
      marked = λ stands. mark_committed c.in-Ok.settings old new (taken stands).0 (taken stands).1;
      at_hand = λ stands. tt;
    }

pub returns-in-Ok-clause-holds : goal.returns-in-Ok-clause-holds
returns-in-Ok-clause-holds g c stands =
    let taken = c.in-Ok.ensures.adopted (clean_while_open g.S.Store c.take_over.new.connection g.met.S.Store.shut_if_dirty stands) in
    held_before c.in-Ok.settings (state g.S.Store c.args.connection) (state g.S.Store c.take_over.new.connection) taken.0 taken.1

pub returns-in-Ok-clause-content : goal.returns-in-Ok-clause-content
returns-in-Ok-clause-content g c content holds stands =
    let taken = c.in-Ok.ensures.adopted (clean_while_open g.S.Store c.take_over.new.connection g.met.S.Store.shut_if_dirty stands) in
    content_before c.in-Ok.settings (state g.S.Store c.args.connection) (state g.S.Store c.take_over.new.connection) taken.0 taken.1 content holds

pub returns-in-Ok-clause-left : goal.returns-in-Ok-clause-left
returns-in-Ok-clause-left g c stands =
    let taken = c.in-Ok.ensures.adopted (clean_while_open g.S.Store c.take_over.new.connection g.met.S.Store.shut_if_dirty stands) in
    (taken.1.was_open, taken.1.taken, committed_taken c.in-Ok.settings (state g.S.Store c.args.connection) (state g.S.Store c.take_over.new.connection) taken.0 taken.1)

pub returns-in-Err-clause-left : goal.returns-in-Err-clause-left
returns-in-Err-clause-left g c stands = c.in-Err.ensures.undone (clean_while_open g.S.Store c.take_over.new.connection g.met.S.Store.shut_if_dirty stands) stands

pub returns-in-Ok-clause-keeps : goal.returns-in-Ok-clause-keeps
returns-in-Ok-clause-keeps g c =
    keeps_held (state g.S.Store c.args.connection) (state g.S.Store c.take_over.new.connection) (λ trees stands may. g.met.S.Store.settled _ trees stands may) c.in-Ok.ensures.honest c.in-Ok.ensures.crash

pub returns-in-Err-clause-keeps : goal.returns-in-Err-clause-keeps
returns-in-Err-clause-keeps g c =
    keeps_held (state g.S.Store c.args.connection) (state g.S.Store c.take_over.new.connection) (λ trees stands may. g.met.S.Store.settled _ trees stands may) c.in-Err.ensures.honest c.in-Err.ensures.crash
