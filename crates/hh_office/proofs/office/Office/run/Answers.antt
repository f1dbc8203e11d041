use Rattle.std.proofs.Common.{ap, subst, sym, ◌∙◌, w64, to_z, of_z, Err, Ok}
use Rattle.std.proofs.lemmas.Int.{to_z-of_z}
use Rattle.hh_requests.specs.declared.reply.Reply.TheVariants as reply
use Rattle.hh_states.specs.Reads.{runs_in}
use Rattle.hh_office.specs.Promises.{MakesTransition}
use Rattle.hh_office.specs.steps.Promises.{FollowsMachine, reply_of}
use Rattle.hh_office.specs.steps.Reads.{latest_key}
use Rattle.hh_office.specs.Runs.{run}
use Rattle.hh_office.specs.steps.Settling.{IsNext, TellsOrder}
use Rattle.hh_office.specs.Views.{OfficeView, midnight_of}
use Rattle.hh_office.proofs.RunLaws.{run_kept, run_out_of_order}
use Rattle.hh_office.proofs.StepLaws.{comes_same, passed_reply}
use Rattle.hh_office.proofs.RefusalLaws.{elsewhere_counted, reached_by, refused_alike}
use Rattle.hh_office.specs.Refusals.{CountsReply, RepresentsSome}
use Rattle.hh_office.proofs.CrashLaws.{only_made_then}
use Rattle.hh_office.specs.Crashes.{IfReplied, MadeInEachState}
use Rattle.hh_office.proofs.office.Office.run.Goals as goal

pub returns-in_err-summary-clause-makes : goal.returns-in_err-summary-clause-makes
returns-in_err-summary-clause-makes g c sure s stands =
    let at = sure in
    let office = c.args.self.now.seen in
    let transition = run (midnight_of office) s c.args.moment c.args.key in
    let fault = c.in_err-summary.field-0.0 in
    let told = subst (λ runs. TellsOrder runs c.args.key.kind (Err fault)) (c.deref.ensures.value ∙ c.in_ok-runs.ensures.value at) c.in_err-summary.ensures.told in
    subst (λ given. MakesTransition office c.runs_of.new.self.seen given transition) (passed_reply c.from_residual-in_err-summary.result fault c.from_residual-in_err-summary.ensures)
    (comes_same office c.runs_of.new.self.seen (reply.Refused fault) transition (c.in_ok-runs.ensures.same at)
    (run_out_of_order office s stands c.kept_summaries.ensures c.kept_kinds_of_dates.ensures c.args.key c.args.moment fault told))

pub returns-in-Some-clause-makes : goal.returns-in-Some-clause-makes
returns-in-Some-clause-makes g c sure s stands =
    let at = sure in
    let office = c.args.self.now.seen in
    let told = subst (λ runs. TellsOrder runs c.args.key.kind (Ok c.in_ok-summary.field-0)) (c.deref.ensures.value ∙ c.in_ok-runs.ensures.value at) c.in_ok-summary.ensures.told in
    comes_same office c.runs_of.new.self.seen (reply.Ran c.args.key c.in-Some.summary) (run (midnight_of office) s c.args.moment c.args.key) (c.in_ok-runs.ensures.same at)
    (run_kept office s stands c.kept_summaries.ensures c.kept_kinds_of_dates.ensures c.args.key c.args.moment c.in-Some.summary (sym c.in-Some.is ∙ told.0))

pub new_run-requires-clause-next : goal.new_run-requires-clause-next
new_run-requires-clause-next g c at =
    let office = c.args.self.now.seen in
    let told = subst (λ runs. TellsOrder runs c.args.key.kind (Ok c.in_ok-summary.field-0)) (c.deref.ensures.value ∙ c.in_ok-runs.ensures.value at) c.in_ok-summary.ensures.told in
    subst (λ (o : OfficeView). IsNext o.content c.args.key) (sym (c.in_ok-runs.ensures.same at)) (sym told.0 ∙ c.in-None.is, told.1 c.in-None.is)

pub new_run-requires-clause-former : goal.new_run-requires-clause-former
new_run-requires-clause-former g c at =
    c.latest_of.ensures ∙ ap (latest_key c.args.key.date) (c.deref-in-None.ensures.value ∙ c.in_ok-runs.ensures.value at)
    ∙ ap (λ (o : OfficeView). latest_key c.args.key.date (runs_in o.content c.args.key.date)) (sym (c.in_ok-runs.ensures.same at))

pub returns-clause-makes : goal.returns-clause-makes
returns-clause-makes g c sure s stands =
    let at = c.new_run.ensures.sure sure in
    let office = c.args.self.now.seen in
    let new = c.new_run.new.self.seen in
    let does = subst (λ o. FollowsMachine o new c.new_run.result (λ midnight s. run midnight s (to_z w64 (of_z w64 c.args.moment)) c.args.key)) (c.in_ok-runs.ensures.same at) (c.new_run.ensures.makes sure) in
    subst (λ m. MakesTransition office new (reply_of c.new_run.result) (run (midnight_of office) s m c.args.key)) (to_z-of_z w64 c.args.moment c.ranges.moment) (does s stands)

pub returns-in_err-summary-clause-refusals_counted : goal.returns-in_err-summary-clause-refusals_counted
returns-in_err-summary-clause-refusals_counted g c sure some =
    let fault = c.in_err-summary.field-0.0 in
    refused_alike c.from_residual-in_err-summary.result fault _ _ c.from_residual-in_err-summary.ensures
    (elsewhere_counted fault _ _ c.in_err-summary.ensures.elsewhere (c.in_ok-runs.ensures.refusals_counted sure (reached_by c.args.self.now.seen some)))

pub returns-clause-refusals_counted : goal.returns-clause-refusals_counted
returns-clause-refusals_counted g c sure some =
    let before = c.new_run.ensures.sure sure in
    let same = c.in_ok-runs.ensures.same before in
    subst (λ n. CountsReply (reply_of c.new_run.result) n (g.T.Tables.refusals c.new_run.new.self.tables)) (c.in_ok-runs.ensures.refusals_counted before (reached_by c.args.self.now.seen some))
    (c.new_run.ensures.refusals_counted sure (subst RepresentsSome (sym same) some))

pub returns-clause-crash : goal.returns-clause-crash
returns-clause-crash g c =
    let office = c.args.self.now.seen in
    only_made_then g.T.Tables.is_honest g.T.Tables.is_open g.T.Tables.may_leave g.T.Tables.holds c.args.self.now.tables c.runs_of.new.self.tables c.new_run.new.self.tables (IfReplied (reply_of c.new_run.result))
    (MadeInEachState c.runs_of.new.self.seen (λ midnight s. run midnight s (to_z w64 (of_z w64 c.args.moment)) c.args.key)) (MadeInEachState office (λ midnight s. run midnight s c.args.moment c.args.key))
    (λ before left made.
    subst (λ m. MadeInEachState office (λ midnight s. run midnight s m c.args.key) left) (to_z-of_z w64 c.args.moment c.ranges.moment)
    (subst (λ o. MadeInEachState o (λ midnight s. run midnight s (to_z w64 (of_z w64 c.args.moment)) c.args.key) left) (c.in_ok-runs.ensures.same before) made))
    c.in_ok-runs.ensures.crash c.new_run.ensures.crash
