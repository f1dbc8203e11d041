use Rattle.std.proofs.Common.{subst, sym, Err, ◌∙◌, w64, ap}
use Rattle.std.proofs.lemmas.Int.{to_z-of_z}
use Rattle.hh_requests.specs.declared.reply.Reply.TheVariants as reply
use Rattle.hh_office.specs.Promises.{MakesTransition, is_given_up}
use Rattle.hh_office.specs.Runs.{run}
use Rattle.hh_office.specs.steps.Settling.{IsRunMade, RefusesIn, SettlesIn}
use Rattle.hh_office.specs.Views.{midnight_of}
use Rattle.hh_office.proofs.RunLaws.{comes_given_up, run_made, run_unsettled}
use Rattle.hh_office.proofs.StepLaws.{comes_same, passed_reply}
use Rattle.hh_office.proofs.RefusalLaws.{reached_by, refused_alike, store_counts}
use Rattle.hh_office.specs.Refusals.{CountsReply}
use Rattle.hh_day.specs.RunLimits.{FitsRun}
use Rattle.hh_requests.specs.declared.reply.Reply.{Reply}
use Rattle.hh_store.specs.Reached.{AreReached}
use Rattle.hh_store.specs.StoreFaults.{CountsRefusal, store_fault}
use Rattle.hh_office.specs.steps.Settling.{rows_before}
use Rattle.hh_office.specs.Views.{OfficeView}
use Rattle.hh_office.proofs.RunLaws.{run_fits}
use Rattle.hh_office.proofs.CrashLaws.{only_as, only_made_then, replied_anyway, store_replied}
use Rattle.hh_office.specs.Crashes.{IfReplied, MadeInEachState, with_content}
use Rattle.hh_office.specs.steps.Promises.{reply_of}
use Rattle.hh_office.specs.steps.Crashes.{IsMadeContent}
use Rattle.hh_office.proofs.office.Office.new_run.Goals as goal

pub returns-in_err-settled-clause-makes : goal.returns-in_err-settled-clause-makes
returns-in_err-settled-clause-makes g c sure s stands =
    let office = c.args.self.now.seen in
    let transition = run (midnight_of office) s c.args.moment c.args.key in
    let fault = c.in_err-settled.field-0.0 in
    let refuses = subst (λ m. RefusesIn office m c.args.key.date fault) (to_z-of_z w64 c.args.moment c.ranges.moment) (c.in_err-settled.ensures.refused sure) in
    subst (λ given. MakesTransition office c.settle.new.self.seen given transition) (passed_reply c.from_residual.result fault c.from_residual.ensures)
    (comes_same office c.settle.new.self.seen (reply.Refused fault) transition (c.in_err-settled.ensures.same sure)
    (run_unsettled office s stands c.kept_summaries.ensures c.kept_kinds_of_dates.ensures c.args.key c.args.moment (c.requires.next (c.in_err-settled.ensures.sure sure)) fault refuses))

pub returns-in_err-make_run-clause-makes : goal.returns-in_err-make_run-clause-makes
returns-in_err-make_run-clause-makes g c sure s stands =
    let office = c.args.self.now.seen in
    comes_given_up office c.make_run.new.self.seen c.from_residual-in_err-make_run.result c.in_err-make_run.field-0.0 (run (midnight_of office) s c.args.moment c.args.key)
    c.from_residual-in_err-make_run.ensures (c.in_err-make_run.ensures.same sure ∙ c.in_ok-settled.ensures.same (c.in_err-make_run.ensures.sure sure))

pub returns-clause-makes : goal.returns-clause-makes
returns-clause-makes g c sure s stands =
    let before = c.in_ok-make_run.ensures.sure sure in
    let first = c.in_ok-settled.ensures.sure before in
    let office = c.args.self.now.seen in
    let settles = subst (λ m. SettlesIn office m c.args.key.date c.in_ok-settled.settled.items) (to_z-of_z w64 c.args.moment c.ranges.moment) (c.in_ok-settled.ensures.settled before) in
    let makes = subst (λ o. IsRunMade o c.make_run.new.self.seen c.args.key c.in_ok-settled.settled.items c.args.former c.in_ok-make_run.field-0) (c.in_ok-settled.ensures.same before)
    (subst (λ day. IsRunMade c.settle.new.self.seen c.make_run.new.self.seen c.args.key day c.args.former c.in_ok-make_run.field-0) c.deref.ensures.value (c.in_ok-make_run.ensures.made sure)) in
    run_made office s stands c.kept_summaries.ensures c.kept_kinds_of_dates.ensures c.args.key c.args.moment (c.requires.next first) c.writes_the_run.ensures
    c.make_run.new.self.seen c.in_ok-settled.settled.items c.args.former c.in_ok-make_run.field-0 settles (c.requires.former first) makes

pub returns-in_err-settled-clause-refusals_counted : goal.returns-in_err-settled-clause-refusals_counted
returns-in_err-settled-clause-refusals_counted g c sure some =
    refused_alike c.from_residual.result c.in_err-settled.field-0.0 _ _ c.from_residual.ensures (c.in_err-settled.ensures.refusals_counted sure (reached_by c.args.self.now.seen some))

pub returns-in_err-make_run-clause-refusals_counted : goal.returns-in_err-make_run-clause-refusals_counted
returns-in_err-make_run-clause-refusals_counted g c sure some =
    let office = c.args.self.now.seen in
    let before = c.in_err-make_run.ensures.sure sure in
    let first = c.in_ok-settled.ensures.sure before in
    let same = c.in_ok-settled.ensures.same before in
    let reached = reached_by office some in
    let e = c.in_err-make_run.field-0.0 in
    let settles = subst (λ m. SettlesIn office m c.args.key.date c.in_ok-settled.settled.items) (to_z-of_z w64 c.args.moment c.ranges.moment) (c.in_ok-settled.ensures.settled before) in
    let fits = run_fits office some.0 some.1 c.kept_summaries.ensures c.kept_kinds_of_dates.ensures c.args.key c.args.moment (c.requires.next first) c.runs_fit.ensures
    c.in_ok-settled.settled.items c.args.former settles (c.requires.former first) in
    let told = subst (λ day. FitsRun c.args.key day (rows_before office.content c.args.former)) (sym c.deref.ensures.value) fits in
    refused_alike c.from_residual-in_err-make_run.result (store_fault e) _ _ c.from_residual-in_err-make_run.ensures
    (store_counts Reply e _ _ (subst (λ n. CountsRefusal {A = Reply} (Err e) n (g.T.Tables.refusals c.make_run.new.self.tables)) (c.in_ok-settled.ensures.refusals_counted before reached)
    (c.in_err-make_run.ensures.refusals_counted sure (subst (λ (o : OfficeView). AreReached o.content) (sym same) reached)
    (subst (λ (o : OfficeView). FitsRun c.args.key c.deref.result.now (rows_before o.content c.args.former)) (sym same) told))))

pub returns-clause-refusals_counted : goal.returns-clause-refusals_counted
returns-clause-refusals_counted g c sure some =
    let office = c.args.self.now.seen in
    let before = c.in_ok-make_run.ensures.sure sure in
    let first = c.in_ok-settled.ensures.sure before in
    let same = c.in_ok-settled.ensures.same before in
    let reached = reached_by office some in
    let settles = subst (λ m. SettlesIn office m c.args.key.date c.in_ok-settled.settled.items) (to_z-of_z w64 c.args.moment c.ranges.moment) (c.in_ok-settled.ensures.settled before) in
    let fits = run_fits office some.0 some.1 c.kept_summaries.ensures c.kept_kinds_of_dates.ensures c.args.key c.args.moment (c.requires.next first) c.runs_fit.ensures
    c.in_ok-settled.settled.items c.args.former settles (c.requires.former first) in
    let told = subst (λ day. FitsRun c.args.key day (rows_before office.content c.args.former)) (sym c.deref.ensures.value) fits in
    let makes = c.in_ok-make_run.ensures.made sure in
    subst (λ given. CountsReply given (g.T.Tables.refusals c.args.self.now.tables) (g.T.Tables.refusals c.make_run.new.self.tables)) (sym makes.replied)
    (c.in_ok-make_run.ensures.refusals_counted sure (subst (λ (o : OfficeView). AreReached o.content) (sym same) reached)
    (subst (λ (o : OfficeView). FitsRun c.args.key c.deref.result.now (rows_before o.content c.args.former)) (sym same) told)
    ∙ c.in_ok-settled.ensures.refusals_counted before reached)

pub returns-in_err-make_run-clause-crash : goal.returns-in_err-make_run-clause-crash
returns-in_err-make_run-clause-crash g c =
    let office = c.args.self.now.seen in
    let Made = MadeInEachState office (λ midnight s. run midnight s c.args.moment c.args.key) in
    only_as g.T.Tables.is_honest g.T.Tables.is_open g.T.Tables.may_leave g.T.Tables.holds c.args.self.now.tables c.make_run.new.self.tables (λ P. Unit {0}) (IfReplied (reply_of c.from_residual-in_err-make_run.result)) Made
    (λ none. store_replied c.from_residual-in_err-make_run.result c.in_err-make_run.field-0.0 _ c.from_residual-in_err-make_run.ensures)
    (only_made_then g.T.Tables.is_honest g.T.Tables.is_open g.T.Tables.may_leave g.T.Tables.holds c.args.self.now.tables c.settle.new.self.tables c.make_run.new.self.tables (λ P. Unit {0})
    (IsMadeContent c.settle.new.self.seen c.args.key c.deref.result.now c.args.former) Made
    (λ before left made.
    let first = c.in_ok-settled.ensures.sure before in
    let settles = subst (λ m. SettlesIn office m c.args.key.date c.in_ok-settled.settled.items) (to_z-of_z w64 c.args.moment c.ranges.moment) (c.in_ok-settled.ensures.settled before) in
    let at = subst (λ o. IsMadeContent o c.args.key c.in_ok-settled.settled.items c.args.former left) (c.in_ok-settled.ensures.same before)
    (subst (λ day. IsMadeContent c.settle.new.self.seen c.args.key day c.args.former left) c.deref.ensures.value made) in
    record {
      given = at.0;
      answered = ap is_given_up at.1.replied;
      makes = λ s stands.
          run_made office s stands c.kept_summaries.ensures c.kept_kinds_of_dates.ensures c.args.key c.args.moment (c.requires.next first) c.writes_the_run.ensures
          (with_content office left) c.in_ok-settled.settled.items c.args.former at.0 settles (c.requires.former first) at.1;
    })
    c.in_ok-settled.ensures.crash c.in_err-make_run.ensures.crash)

pub returns-clause-crash : goal.returns-clause-crash
returns-clause-crash g c =
    let office = c.args.self.now.seen in
    let Made = MadeInEachState office (λ midnight s. run midnight s c.args.moment c.args.key) in
    only_as g.T.Tables.is_honest g.T.Tables.is_open g.T.Tables.may_leave g.T.Tables.holds c.args.self.now.tables c.make_run.new.self.tables (λ P. P) (IfReplied c.in_ok-make_run.field-0) Made
    (replied_anyway c.in_ok-make_run.field-0 _)
    (only_made_then g.T.Tables.is_honest g.T.Tables.is_open g.T.Tables.may_leave g.T.Tables.holds c.args.self.now.tables c.settle.new.self.tables c.make_run.new.self.tables (λ P. P)
    (IsMadeContent c.settle.new.self.seen c.args.key c.deref.result.now c.args.former) Made
    (λ before left made.
    let first = c.in_ok-settled.ensures.sure before in
    let settles = subst (λ m. SettlesIn office m c.args.key.date c.in_ok-settled.settled.items) (to_z-of_z w64 c.args.moment c.ranges.moment) (c.in_ok-settled.ensures.settled before) in
    let at = subst (λ o. IsMadeContent o c.args.key c.in_ok-settled.settled.items c.args.former left) (c.in_ok-settled.ensures.same before)
    (subst (λ day. IsMadeContent c.settle.new.self.seen c.args.key day c.args.former left) c.deref.ensures.value made) in
    record {
      given = at.0;
      answered = ap is_given_up at.1.replied;
      makes = λ s stands.
          run_made office s stands c.kept_summaries.ensures c.kept_kinds_of_dates.ensures c.args.key c.args.moment (c.requires.next first) c.writes_the_run.ensures
          (with_content office left) c.in_ok-settled.settled.items c.args.former at.0 settles (c.requires.former first) at.1;
    })
    c.in_ok-settled.ensures.crash c.in_ok-make_run.ensures.crash)
