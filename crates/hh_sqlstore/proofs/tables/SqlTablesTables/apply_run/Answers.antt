use Rattle.std.proofs.Common.{◌≡◌, IsTrue, None, ap, subst, sym}
use Rattle.sqlite.specs.Held.{state}
use Rattle.hh_states.specs.Changes.{IsRunFrom, effect_of_run}
use Rattle.hh_store.specs.Crashes.{MakesRun}
use Rattle.hh_sqlrows.specs.Contents.{stored_content}
use Rattle.hh_sqlrows.specs.OfficeTables.{one_row_cmp}
use Rattle.std.specs.FinMap.{find}
use Rattle.hh_sqlstore.specs.steps.Changed.{KeepsRun}
use Rattle.hh_sqlstore.proofs.BesideLaws.{run_kept}
use Rattle.hh_sqlstore.specs.Stores.{Stored, content_in}
use Rattle.hh_sqlstore.proofs.ChangeLaws.{content_changed, idle_changed, reading_of_nothing}
use Rattle.hh_sqlstore.proofs.ContentLaws.{clean_while_open}
use Rattle.hh_sqlstore.proofs.CrashLaws.{TablesAddOnly, change_adds_only}
use Rattle.hh_sqlstore.proofs.IdleLaws.{idle_with, same_content}
use Rattle.hh_sqlstore.proofs.tables.SqlTablesTables.apply_run.Goals as goal

pub invariant_of-self : goal.invariant_of-self
invariant_of-self g c =
    let clean = clean_while_open g.S.Store c.keep_run.new.connection g.met.S.Store.shut_if_dirty in
    idle_changed g.S.Store _ c.self.invariant c.keep_run.new.connection c.self.inside.refusals (KeepsRun c.args.change) (λ stands. c.in-Ok.ensures.made (clean stands)) (λ old new written. written.0.stays) c.in-Ok.ensures.autocommit

pub returns-in-Ok-clause-ok : goal.returns-in-Ok-clause-ok
returns-in-Ok-clause-ok g c stands midnight from =
    let clean = clean_while_open g.S.Store c.keep_run.new.connection g.met.S.Store.shut_if_dirty in
    let new = (state g.S.Store c.keep_run.new.connection).committed.trees in
    subst (λ (t : Stored _). stored_content c.self.inside.settings new ≡ effect_of_run c.args.change (content_in g.S.Store t)) c.self.view_is
    (content_changed g.S.Store _ c.self.invariant c.keep_run.new.connection c.self.inside.refusals (KeepsRun c.args.change) (λ stands. c.in-Ok.ensures.made (clean stands)) stands (effect_of_run c.args.change) (λ marked written.
    run_kept c.self.inside.settings _ _ marked (ap (find one_row_cmp (record {})) written.0.stays.mark) c.run_effect.ensures c.runs_agree.ensures c.rows_of_their_accounts.ensures midnight c.args.change
    (subst (λ (t : Stored _). IsRunFrom midnight (content_in g.S.Store t) c.args.change) (sym c.self.view_is) from) written))

pub returns-in-Ok-clause-stood : goal.returns-in-Ok-clause-stood
returns-in-Ok-clause-stood g c stands =
    let clean = clean_while_open g.S.Store c.keep_run.new.connection g.met.S.Store.shut_if_dirty in
    subst (λ (t : Stored _). IsTrue (state g.S.Store t.connection).is_open) c.self.view_is (c.in-Ok.ensures.made (clean stands)).was_open

pub invariant_of-self-in-Err : goal.invariant_of-self-in-Err
invariant_of-self-in-Err g c =
    let clean = clean_while_open g.S.Store c.keep_run.new.connection g.met.S.Store.shut_if_dirty in
    idle_with g.S.Store _ c.self.invariant c.keep_run.new.connection c.refuse.new.refusals (reading_of_nothing _ _ clean c.in-Err.ensures.undone) None (λ stands office settled stood. tt) c.in-Err.ensures.autocommit

pub returns-clause-err : goal.returns-clause-err
returns-clause-err g c stands =
    let clean = clean_while_open g.S.Store c.keep_run.new.connection g.met.S.Store.shut_if_dirty in
    let new = (state g.S.Store c.keep_run.new.connection).committed.trees in
    subst (λ (t : Stored _). stored_content c.self.inside.settings new ≡ content_in g.S.Store t) c.self.view_is
    (same_content g.S.Store _ c.self.invariant c.keep_run.new.connection c.refuse.new.refusals (reading_of_nothing _ _ clean c.in-Err.ensures.undone) stands)

pub returns-clause-stood : goal.returns-clause-stood
returns-clause-stood g c stands =
    let clean = clean_while_open g.S.Store c.keep_run.new.connection g.met.S.Store.shut_if_dirty in
    subst (λ (t : Stored _). IsTrue (state g.S.Store t.connection).is_open) c.self.view_is ((c.in-Err.ensures.undone (clean stands)).stood stands)

pub returns-in-Ok-clause-crash : goal.returns-in-Ok-clause-crash
returns-in-Ok-clause-crash g c =
    let new = c.keep_run.new.connection in
    let after : Stored _ = record { connection = new; settings = c.self.inside.settings; refusals = c.self.inside.refusals } in
    subst (λ (t : Stored _). TablesAddOnly g.S.Store t after (λ P. P) (MakesRun c.args.change (content_in g.S.Store t))) c.self.view_is
    (change_adds_only g.S.Store _ c.self.invariant new c.self.inside.refusals (λ P. P) (KeepsRun c.args.change) (MakesRun c.args.change _) (λ clean. (c.in-Ok.ensures.made clean).is_open) c.in-Ok.ensures.honest c.in-Ok.ensures.crash
    (λ old new written. written.0.stays)
    (λ db marked written midnight from. run_kept c.self.inside.settings _ _ marked (ap (find one_row_cmp (record {})) written.0.stays.mark) c.run_effect.ensures c.runs_agree.ensures c.rows_of_their_accounts.ensures midnight c.args.change from written))

pub returns-clause-crash : goal.returns-clause-crash
returns-clause-crash g c =
    let new = c.keep_run.new.connection in
    let after : Stored _ = record { connection = new; settings = c.self.inside.settings; refusals = c.refuse.new.refusals } in
    subst (λ (t : Stored _). TablesAddOnly g.S.Store t after (λ P. Unit {0}) (MakesRun c.args.change (content_in g.S.Store t))) c.self.view_is
    (change_adds_only g.S.Store _ c.self.invariant new c.refuse.new.refusals (λ P. Unit {0}) (KeepsRun c.args.change) (MakesRun c.args.change _) (λ clean. tt) c.in-Err.ensures.honest c.in-Err.ensures.crash
    (λ old new written. written.0.stays)
    (λ db marked written midnight from. run_kept c.self.inside.settings _ _ marked (ap (find one_row_cmp (record {})) written.0.stays.mark) c.run_effect.ensures c.runs_agree.ensures c.rows_of_their_accounts.ensures midnight c.args.change from written))
