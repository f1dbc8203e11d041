use Rattle.std.proofs.Common.{subst, ◌∙◌, refl}
use Rattle.hh_day.specs.NewRuns.{IsWrittenFor}
use Rattle.hh_office.specs.steps.Settling.{WritesRun}
use Rattle.hh_office.proofs.CrashLaws.{failed_ok, only_as, only_made_then}
use Rattle.std.specs.Prelude.{OnOk}
use Rattle.hh_office.specs.steps.Crashes.{IsMadeContent, IsRunContent}
use Rattle.hh_requests.specs.declared.reply.Reply.TheVariants as reply
use Rattle.hh_office.proofs.office.Office.make_run.Goals as goal

pub returns-clause-made : goal.returns-clause-made
returns-clause-made g c sure = let before = c.in_ok-commit_run.ensures.sure sure in record {
  writes = c.in_ok-change.change;
  written = subst (λ rows. IsWrittenFor c.args.key c.args.day.now rows c.in_ok-change.change) (c.deref.ensures.value ∙ c.in_ok-rows.ensures.value before) c.in_ok-change.ensures.written;
  kept = subst (λ o. WritesRun o c.commit_run.new.self.seen c.in_ok-change.change) (c.in_ok-rows.ensures.same before) (c.in_ok-commit_run.ensures.written sure);
  replied = c.ran-reply.ensures;
}

pub returns-in_err-commit_run-clause-crash : goal.returns-in_err-commit_run-clause-crash
returns-in_err-commit_run-clause-crash g c =
    only_as g.T.Tables.is_honest g.T.Tables.is_open g.T.Tables.may_leave g.T.Tables.holds c.args.self.now.tables c.commit_run.new.self.tables (λ P. Unit {0}) (OnOk c.from_residual-in_err-commit_run.result) (IsMadeContent c.args.self.now.seen c.args.key c.args.day.now c.args.former)
    (λ none. failed_ok c.from_residual-in_err-commit_run.result _ c.from_residual-in_err-commit_run.ensures.0)
    (only_made_then g.T.Tables.is_honest g.T.Tables.is_open g.T.Tables.may_leave g.T.Tables.holds c.args.self.now.tables c.rows_before.new.self.tables c.commit_run.new.self.tables (λ P. Unit {0})
    (IsRunContent c.rows_before.new.self.seen c.in_ok-change.change) (IsMadeContent c.args.self.now.seen c.args.key c.args.day.now c.args.former)
    (λ before left made. (
      reply.Ran c.in_ok-change.change.key c.in_ok-change.change.summary,
      record {
        writes = c.in_ok-change.change;
        written = subst (λ rows. IsWrittenFor c.args.key c.args.day.now rows c.in_ok-change.change) (c.deref.ensures.value ∙ c.in_ok-rows.ensures.value before) c.in_ok-change.ensures.written;
        kept = subst (λ o. IsRunContent o c.in_ok-change.change left) (c.in_ok-rows.ensures.same before) made;
        replied = refl;
      },
    ))
    c.in_ok-rows.ensures.crash c.in_err-commit_run.ensures.crash)

pub returns-clause-crash : goal.returns-clause-crash
returns-clause-crash g c =
    only_made_then g.T.Tables.is_honest g.T.Tables.is_open g.T.Tables.may_leave g.T.Tables.holds c.args.self.now.tables c.rows_before.new.self.tables c.commit_run.new.self.tables (λ P. P)
    (IsRunContent c.rows_before.new.self.seen c.in_ok-change.change) (IsMadeContent c.args.self.now.seen c.args.key c.args.day.now c.args.former)
    (λ before left made. (
      reply.Ran c.in_ok-change.change.key c.in_ok-change.change.summary,
      record {
        writes = c.in_ok-change.change;
        written = subst (λ rows. IsWrittenFor c.args.key c.args.day.now rows c.in_ok-change.change) (c.deref.ensures.value ∙ c.in_ok-rows.ensures.value before) c.in_ok-change.ensures.written;
        kept = subst (λ o. IsRunContent o c.in_ok-change.change left) (c.in_ok-rows.ensures.same before) made;
        replied = refl;
      },
    ))
    c.in_ok-rows.ensures.crash c.in_ok-commit_run.ensures.crash
