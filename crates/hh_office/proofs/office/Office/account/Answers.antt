use Rattle.std.proofs.Common.{subst, sym, ap, ◌∙◌}
use Rattle.hh_names.specs.declared.fault.Refusal.TheVariants.{NoRun}
use Rattle.hh_names.specs.Faults.{plain_fault}
use Rattle.hh_requests.specs.declared.reply.Reply.TheVariants as reply
use Rattle.hh_states.specs.Reads.{runs_in}
use Rattle.hh_office.specs.Enquiries.{account_reply}
use Rattle.hh_office.specs.Promises.{MakesTransition}
use Rattle.hh_office.specs.steps.Promises.{AnswersAsMachine}
use Rattle.hh_office.specs.steps.Reads.{latest_key}
use Rattle.hh_office.specs.Transitions.{unchanged}
use Rattle.hh_office.specs.Views.{OfficeView, midnight_of}
use Rattle.hh_office.proofs.EnquiryLaws.{account_none}
use Rattle.hh_office.proofs.StepLaws.{comes_same}
use Rattle.hh_office.proofs.RefusalLaws.{reached_by}
use Rattle.hh_office.specs.Refusals.{CountsReply, RepresentsSome}
use Rattle.hh_office.specs.steps.Promises.{reply_of}
use Rattle.hh_office.proofs.office.Office.account.Goals as goal

pub account_in-requires : goal.account_in-requires
account_in-requires g c sure =
    sym c.in-Some.is ∙ c.in_ok-run.ensures.value sure ∙ ap (λ (o : OfficeView). latest_key c.args.date (runs_in o.content c.args.date)) (sym (c.in_ok-run.ensures.same sure))

pub returns-in-Some-clause-makes : goal.returns-in-Some-clause-makes
returns-in-Some-clause-makes g c sure s stands =
    subst (λ o. AnswersAsMachine o c.account_in.new.self.seen c.account_in.result (λ midnight s. account_reply midnight s c.args.account.now c.args.date)) (c.in_ok-run.ensures.same (c.account_in.ensures.sure sure))
    (c.account_in.ensures.makes sure) s stands

pub returns-in-None-clause-makes : goal.returns-in-None-clause-makes
returns-in-None-clause-makes g c sure s stands =
    let office = c.args.self.now.seen in
    let transition = unchanged s (account_reply (midnight_of office) s c.args.account.now c.args.date) in
    subst (λ f. MakesTransition office c.latest_run.new.self.seen (reply.Refused f) transition) (sym c.of.ensures)
    (comes_same office c.latest_run.new.self.seen (reply.Refused (plain_fault NoRun)) transition (c.in_ok-run.ensures.same sure)
    (account_none office s stands c.kept_kinds_of_dates.ensures c.args.account.now c.args.date (sym c.in-None.is ∙ c.in_ok-run.ensures.value sure)))

pub returns-in-Some-clause-refusals_counted : goal.returns-in-Some-clause-refusals_counted
returns-in-Some-clause-refusals_counted g c sure some =
    let before = c.account_in.ensures.sure sure in
    let same = c.in_ok-run.ensures.same before in
    subst (λ n. CountsReply (reply_of c.account_in.result) n (g.T.Tables.refusals c.account_in.new.self.tables)) (c.in_ok-run.ensures.refusals_counted before (reached_by c.args.self.now.seen some))
    (c.account_in.ensures.refusals_counted sure (subst RepresentsSome (sym same) some))
