use Rattle.std.proofs.Common.{refl, subst}
use Rattle.std.specs.Prelude.{OnOk}
use Rattle.hh_office.specs.steps.Settling.{WritesRun}
use Rattle.hh_office.specs.Views.{Kept, OfficeView}
use Rattle.hh_office.proofs.RunLaws.{commit_writes_run}
use Rattle.hh_office.proofs.CrashLaws.{only_made, run_leaves}
use Rattle.hh_store.specs.Crashes.{AddsOnly, MakesRun}
use Rattle.hh_office.specs.steps.Crashes.{IsRunContent}
use Rattle.hh_office.proofs.office.Office.commit_run.Goals as goal

pub returns-clause-written : goal.returns-clause-written
returns-clause-written g c sure =
    let after : OfficeView = record { zone = c.self.inside.zone; content = g.T.Tables.content c.apply_run.new.self } in
    let before : OfficeView = record { zone = c.self.inside.zone; content = g.T.Tables.content c.self.inside.tables } in
    subst (λ (k : Kept _). OnOk c.apply_run.result (WritesRun k.seen after c.args.change)) c.self.view_is
    (commit_writes_run c.apply_run.result before after c.args.change c.run_effect.ensures refl (c.apply_run.ensures.ok sure))

pub returns-clause-crash : goal.returns-clause-crash
returns-clause-crash g c =
    let before : OfficeView = record { zone = c.self.inside.zone; content = g.T.Tables.content c.self.inside.tables } in
    subst (λ (k : Kept _). AddsOnly g.T.Tables.is_honest g.T.Tables.is_open g.T.Tables.may_leave g.T.Tables.holds k.tables c.apply_run.new.self (OnOk c.apply_run.result) (IsRunContent k.seen c.args.change)) c.self.view_is
    (only_made g.T.Tables.is_honest g.T.Tables.is_open g.T.Tables.may_leave g.T.Tables.holds c.self.inside.tables c.apply_run.new.self (OnOk c.apply_run.result) (MakesRun c.args.change before.content) (IsRunContent before c.args.change)
    (λ honest stood left made. run_leaves c.run_effect.ensures before c.args.change left made) c.apply_run.ensures.crash)
