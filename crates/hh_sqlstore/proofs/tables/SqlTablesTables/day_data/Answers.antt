use Rattle.std.proofs.Common.{◌∙◌, IsTrue, subst, sym}
use Rattle.sqlite.specs.Held.{state}
use Rattle.hh_rows.specs.declared.settings.Settings.{Settings}
use Rattle.hh_states.specs.DaySettlement.{periods_on}
use Rattle.hh_store.specs.DayReads.{IsDayData}
use Rattle.hh_states.specs.Beside.{agrees}
use Rattle.hh_sqlrows.specs.Contents.{beside_in, content_of, registered_of}
use Rattle.hh_sqlstore.specs.Stores.{Stored, content_in}
use Rattle.hh_sqlparts.proofs.ReadingLaws.{only}
use Rattle.hh_sqlstore.proofs.BesideLaws.{step_is}
use Rattle.hh_sqlstore.proofs.IdleLaws.{of_committed}
use Rattle.hh_sqlstore.proofs.CrashLaws.{reading_adds_nothing}
use Rattle.hh_sqlstore.proofs.tables.SqlTablesTables.day_data.Goals as goal

pub returns-in-Ok-clause-value : goal.returns-in-Ok-clause-value
returns-in-Ok-clause-value g c stands =
    let periods = periods_on c.args.day.now.date c.args.day.now.count in
    let kept = c.self.inside.settings in
    let trees = (state g.S.Store c.self.inside.connection).committed.trees in
    let reading = (only _ _ _ c.in-Ok.ensures.frame) in
    let answer = of_committed g.S.Store _ c.self.invariant c.data_of_day.new.conn c.self.inside.refusals reading
    (λ trees. (settings : Settings) → IsTrue (agrees (content_of settings trees) (beside_in trees)) → IsDayData (registered_of trees) periods c.in-Ok.data) c.in-Ok.ensures.value stands in
    subst (λ (t : Stored _). IsTrue (content_in g.S.Store t).is_in_step → IsDayData (content_in g.S.Store t).registered periods c.in-Ok.data) c.self.view_is
    (λ step. answer kept (sym (step_is kept trees (c.self.invariant.marked (reading.stood stands))) ∙ step))

pub returns-in-Ok-clause-crash : goal.returns-in-Ok-clause-crash
returns-in-Ok-clause-crash g c =
    reading_adds_nothing g.S.Store _ c.self.invariant c.data_of_day.new.conn c.self.inside.refusals (λ P. P) c.in-Ok.ensures.frame.stays c.in-Ok.ensures.frame.honest c.in-Ok.ensures.frame.crash _ c.self.view_is

pub returns-in-Err-clause-crash : goal.returns-in-Err-clause-crash
returns-in-Err-clause-crash g c =
    reading_adds_nothing g.S.Store _ c.self.invariant c.data_of_day.new.conn c.refuse.new.refusals (λ P. Unit {0}) (λ stands clean. tt) c.in-Err.ensures.frame.honest c.in-Err.ensures.frame.crash _ c.self.view_is
