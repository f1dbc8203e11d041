use Rattle.std.proofs.Common.{refl, subst}
use Rattle.std.specs.Prelude.{OnOk}
use Rattle.hh_office.specs.steps.Loads.{WritesLoad}
use Rattle.hh_office.specs.Views.{Kept, OfficeView}
use Rattle.hh_office.proofs.StepLaws.{commit_writes}
use Rattle.hh_office.proofs.CrashLaws.{only_made, load_leaves}
use Rattle.hh_store.specs.Crashes.{AddsOnly, MakesLoad}
use Rattle.hh_office.specs.steps.Crashes.{IsLoadedContent}
use Rattle.hh_office.proofs.office.Office.commit.Goals as goal

pub returns-clause-written : goal.returns-clause-written
returns-clause-written g c sure =
    let after : OfficeView = record { zone = c.self.inside.zone; content = g.T.Tables.content c.apply_load.new.self } in
    let before : OfficeView = record { zone = c.self.inside.zone; content = g.T.Tables.content c.self.inside.tables } in
    subst (λ (k : Kept _). OnOk c.apply_load.result (WritesLoad k.seen after c.args.change)) c.self.view_is
    (commit_writes c.apply_load.result before after c.args.change c.load_effect.ensures refl (c.apply_load.ensures.ok sure))

pub returns-clause-crash : goal.returns-clause-crash
returns-clause-crash g c =
    let before : OfficeView = record { zone = c.self.inside.zone; content = g.T.Tables.content c.self.inside.tables } in
    subst (λ (k : Kept _). AddsOnly g.T.Tables.is_honest g.T.Tables.is_open g.T.Tables.may_leave g.T.Tables.holds k.tables c.apply_load.new.self (OnOk c.apply_load.result) (IsLoadedContent k.seen c.args.change)) c.self.view_is
    (only_made g.T.Tables.is_honest g.T.Tables.is_open g.T.Tables.may_leave g.T.Tables.holds c.self.inside.tables c.apply_load.new.self (OnOk c.apply_load.result) (MakesLoad c.args.change before.content) (IsLoadedContent before c.args.change)
    (λ honest stood left made. load_leaves c.load_effect.ensures before c.args.change left made) c.apply_load.ensures.crash)
