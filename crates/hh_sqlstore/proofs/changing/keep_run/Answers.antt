use Rattle.std.proofs.lemmas.Result.{on_err_weaker, on_ok_weaker}
use Rattle.sqlite.specs.Held.{state}
use Rattle.hh_sqlchanges.specs.Writes.{ChangesByRun}
use Rattle.hh_sqlchanges.proofs.BesideLaws.{alike_after_run}
use Rattle.hh_sqlstore.specs.steps.Changed.{KeepsRun}
use Rattle.hh_sqlstore.proofs.ChangeLaws.{changed_so, may_change_so, nothing_of_undone}
use Rattle.hh_sqlstore.proofs.changing.keep_run.Goals as goal

pub returns-clause-made : goal.returns-clause-made
returns-clause-made g c clean =
    let old = state g.S.Store c.args.connection.now in
    let new = state g.S.Store c.commit_run.new.connection in
    on_ok_weaker c.commit_run.result (changed_so old new (λ office written. (written.stores, alike_after_run c.args.change.now old.now new.now written))) (c.commit_run.ensures.made clean)

pub returns-clause-undone : goal.returns-clause-undone
returns-clause-undone g c =
    on_err_weaker c.commit_run.result (nothing_of_undone (state g.S.Store c.args.connection.now) (state g.S.Store c.commit_run.new.connection)) c.commit_run.ensures.undone

pub returns-clause-crash : goal.returns-clause-crash
returns-clause-crash g c =
    let old = state g.S.Store c.args.connection.now in
    let w = c.args.change.now in
    may_change_so (ChangesByRun w) (KeepsRun w) old (state g.S.Store c.commit_run.new.connection) c.commit_run.ensures.crash (λ db written. (written.stores, alike_after_run w old.now db written))
