use Rattle.std.proofs.Common.{subst, sym, ◌∙◌, w64, to_z, of_z}
use Rattle.std.proofs.lemmas.Int.{to_z-of_z}
use Rattle.hh_office.specs.Machine.{act, load, step}
use Rattle.hh_office.specs.Promises.{MakesTransition}
use Rattle.hh_office.specs.steps.Promises.{FollowsMachine, AnswersAsMachine, reply_of}
use Rattle.hh_office.specs.Views.{midnight_of}
use Rattle.hh_office.specs.Enquiries.{account_reply, balance_reply, contracts_reply, runs_reply}
use Rattle.hh_office.specs.Runs.{run}
use Rattle.hh_office.proofs.StepLaws.{comes_allowed}
use Rattle.hh_office.proofs.RefusalLaws.{reached_by}
use Rattle.hh_office.specs.Refusals.{CountsReply, RepresentsSome}
use Rattle.hh_store.specs.Reached.{AreReached}
use Rattle.hh_office.specs.Views.{OfficeView}
use Rattle.hh_office.proofs.CrashLaws.{only_made_then}
use Rattle.hh_office.specs.Crashes.{IfReplied, MadeInEachState, with_content}
use Rattle.hh_office.proofs.office.Office.act.Goals as goal

pub returns-in-Load-clause-makes : goal.returns-in-Load-clause-makes
returns-in-Load-clause-makes g c sure s stands =
    let office = c.args.self.now.seen in
    let new = c.load.new.self.seen in
    let before = c.load.ensures.sure sure in
    let given = reply_of c.load.result in
    let does = subst (λ o. FollowsMachine o new c.load.result (λ midnight s. load midnight s (to_z w64 (of_z w64 c.args.moment)) c.in-Load.upload)) (c.in_ok-may.ensures.same before) (c.load.ensures.makes sure) in
    comes_allowed office new given s c.args.moment c.args.request.now (sym (c.in_ok-may.ensures.allowed before s stands) ∙ c.if-not-branch.false)
    (subst (λ a. MakesTransition office new given (act (midnight_of office) s c.args.moment a)) (sym c.in-Load.is)
    (subst (λ m. MakesTransition office new given (load (midnight_of office) s m c.in-Load.upload)) (to_z-of_z w64 c.args.moment c.ranges.moment) (does s stands)))

pub returns-in-Run-clause-makes : goal.returns-in-Run-clause-makes
returns-in-Run-clause-makes g c sure s stands =
    let office = c.args.self.now.seen in
    let new = c.run.new.self.seen in
    let before = c.run.ensures.sure sure in
    let given = reply_of c.run.result in
    let does = subst (λ o. FollowsMachine o new c.run.result (λ midnight s. run midnight s (to_z w64 (of_z w64 c.args.moment)) c.in-Run.run')) (c.in_ok-may.ensures.same before) (c.run.ensures.makes sure) in
    comes_allowed office new given s c.args.moment c.args.request.now (sym (c.in_ok-may.ensures.allowed before s stands) ∙ c.if-not-branch.false)
    (subst (λ a. MakesTransition office new given (act (midnight_of office) s c.args.moment a)) (sym c.in-Run.is)
    (subst (λ m. MakesTransition office new given (run (midnight_of office) s m c.in-Run.run')) (to_z-of_z w64 c.args.moment c.ranges.moment) (does s stands)))

pub returns-in-Account-clause-makes : goal.returns-in-Account-clause-makes
returns-in-Account-clause-makes g c sure s stands =
    let office = c.args.self.now.seen in
    let new = c.account.new.self.seen in
    let before = c.account.ensures.sure sure in
    let given = reply_of c.account.result in
    let does = subst (λ o. AnswersAsMachine o new c.account.result (λ midnight s. account_reply midnight s c.in-Account.account c.in-Account.date)) (c.in_ok-may.ensures.same before) (c.account.ensures.makes sure) in
    comes_allowed office new given s c.args.moment c.args.request.now (sym (c.in_ok-may.ensures.allowed before s stands) ∙ c.if-not-branch.false)
    (subst (λ a. MakesTransition office new given (act (midnight_of office) s c.args.moment a)) (sym c.in-Account.is) (does s stands))

pub returns-in-Balance-clause-makes : goal.returns-in-Balance-clause-makes
returns-in-Balance-clause-makes g c sure s stands =
    let office = c.args.self.now.seen in
    let new = c.balance.new.self.seen in
    let before = c.balance.ensures.sure sure in
    let given = reply_of c.balance.result in
    let does = subst (λ o. AnswersAsMachine o new c.balance.result (λ midnight s. balance_reply midnight s c.in-Balance.account)) (c.in_ok-may.ensures.same before) (c.balance.ensures.makes sure) in
    comes_allowed office new given s c.args.moment c.args.request.now (sym (c.in_ok-may.ensures.allowed before s stands) ∙ c.if-not-branch.false)
    (subst (λ a. MakesTransition office new given (act (midnight_of office) s c.args.moment a)) (sym c.in-Balance.is) (does s stands))

pub returns-in-Contracts-clause-makes : goal.returns-in-Contracts-clause-makes
returns-in-Contracts-clause-makes g c sure s stands =
    let office = c.args.self.now.seen in
    let new = c.contracts.new.self.seen in
    let before = c.contracts.ensures.sure sure in
    let given = reply_of c.contracts.result in
    let does = subst (λ o. AnswersAsMachine o new c.contracts.result (λ midnight s. contracts_reply midnight s c.in-Contracts.account c.in-Contracts.date)) (c.in_ok-may.ensures.same before) (c.contracts.ensures.makes sure) in
    comes_allowed office new given s c.args.moment c.args.request.now (sym (c.in_ok-may.ensures.allowed before s stands) ∙ c.if-not-branch.false)
    (subst (λ a. MakesTransition office new given (act (midnight_of office) s c.args.moment a)) (sym c.in-Contracts.is) (does s stands))

pub returns-in-Runs-clause-makes : goal.returns-in-Runs-clause-makes
returns-in-Runs-clause-makes g c sure s stands =
    let office = c.args.self.now.seen in
    let new = c.runs.new.self.seen in
    let before = c.runs.ensures.sure sure in
    let given = reply_of c.runs.result in
    let does = subst (λ o. AnswersAsMachine o new c.runs.result (λ midnight s. runs_reply midnight s c.in-Runs.date)) (c.in_ok-may.ensures.same before) (c.runs.ensures.makes sure) in
    comes_allowed office new given s c.args.moment c.args.request.now (sym (c.in_ok-may.ensures.allowed before s stands) ∙ c.if-not-branch.false)
    (subst (λ a. MakesTransition office new given (act (midnight_of office) s c.args.moment a)) (sym c.in-Runs.is) (does s stands))

pub returns-in-Load-clause-refusals_counted : goal.returns-in-Load-clause-refusals_counted
returns-in-Load-clause-refusals_counted g c sure some =
    let before = c.load.ensures.sure sure in
    let same = c.in_ok-may.ensures.same before in
    subst (λ n. CountsReply (reply_of c.load.result) n (g.T.Tables.refusals c.load.new.self.tables)) (c.in_ok-may.ensures.refusals_counted before (reached_by c.args.self.now.seen some))
    (c.load.ensures.refusals_counted sure (subst RepresentsSome (sym same) some))

pub returns-in-Run-clause-refusals_counted : goal.returns-in-Run-clause-refusals_counted
returns-in-Run-clause-refusals_counted g c sure some =
    let before = c.run.ensures.sure sure in
    let same = c.in_ok-may.ensures.same before in
    subst (λ n. CountsReply (reply_of c.run.result) n (g.T.Tables.refusals c.run.new.self.tables)) (c.in_ok-may.ensures.refusals_counted before (reached_by c.args.self.now.seen some))
    (c.run.ensures.refusals_counted sure (subst RepresentsSome (sym same) some))

pub returns-in-Account-clause-refusals_counted : goal.returns-in-Account-clause-refusals_counted
returns-in-Account-clause-refusals_counted g c sure some =
    let before = c.account.ensures.sure sure in
    let same = c.in_ok-may.ensures.same before in
    subst (λ n. CountsReply (reply_of c.account.result) n (g.T.Tables.refusals c.account.new.self.tables)) (c.in_ok-may.ensures.refusals_counted before (reached_by c.args.self.now.seen some))
    (c.account.ensures.refusals_counted sure (subst RepresentsSome (sym same) some))

pub returns-in-Balance-clause-refusals_counted : goal.returns-in-Balance-clause-refusals_counted
returns-in-Balance-clause-refusals_counted g c sure some =
    let before = c.balance.ensures.sure sure in
    let same = c.in_ok-may.ensures.same before in
    subst (λ n. CountsReply (reply_of c.balance.result) n (g.T.Tables.refusals c.balance.new.self.tables)) (c.in_ok-may.ensures.refusals_counted before (reached_by c.args.self.now.seen some))
    (c.balance.ensures.refusals_counted sure (subst (λ (o : OfficeView). AreReached o.content) (sym same) (reached_by c.args.self.now.seen some)))

pub returns-in-Contracts-clause-refusals_counted : goal.returns-in-Contracts-clause-refusals_counted
returns-in-Contracts-clause-refusals_counted g c sure some =
    let before = c.contracts.ensures.sure sure in
    let same = c.in_ok-may.ensures.same before in
    subst (λ n. CountsReply (reply_of c.contracts.result) n (g.T.Tables.refusals c.contracts.new.self.tables)) (c.in_ok-may.ensures.refusals_counted before (reached_by c.args.self.now.seen some))
    (c.contracts.ensures.refusals_counted sure (subst (λ (o : OfficeView). AreReached o.content) (sym same) (reached_by c.args.self.now.seen some)))

pub returns-in-Runs-clause-refusals_counted : goal.returns-in-Runs-clause-refusals_counted
returns-in-Runs-clause-refusals_counted g c sure some =
    let before = c.runs.ensures.sure sure in
    let same = c.in_ok-may.ensures.same before in
    subst (λ n. CountsReply (reply_of c.runs.result) n (g.T.Tables.refusals c.runs.new.self.tables)) (c.in_ok-may.ensures.refusals_counted before (reached_by c.args.self.now.seen some))
    (c.runs.ensures.refusals_counted sure (subst (λ (o : OfficeView). AreReached o.content) (sym same) (reached_by c.args.self.now.seen some)))

pub returns-in-Load-clause-crash : goal.returns-in-Load-clause-crash
returns-in-Load-clause-crash g c =
    let office = c.args.self.now.seen in
    only_made_then g.T.Tables.is_honest g.T.Tables.is_open g.T.Tables.may_leave g.T.Tables.holds c.args.self.now.tables c.may.new.self.tables c.load.new.self.tables (IfReplied (reply_of c.load.result))
    (MadeInEachState c.may.new.self.seen (λ midnight s. load midnight s (to_z w64 (of_z w64 c.args.moment)) c.in-Load.upload)) (MadeInEachState office (λ midnight s. step midnight s c.args.moment c.args.request.now))
    (λ before left made.
    let at = subst (λ o. MadeInEachState o (λ midnight s. load midnight s (to_z w64 (of_z w64 c.args.moment)) c.in-Load.upload) left) (c.in_ok-may.ensures.same before) made in
    record {
      given = at.given;
      answered = at.answered;
      makes = λ s stands.
          comes_allowed office (with_content office left) at.given s c.args.moment c.args.request.now (sym (c.in_ok-may.ensures.allowed before s stands) ∙ c.if-not-branch.false)
          (subst (λ a. MakesTransition office (with_content office left) at.given (act (midnight_of office) s c.args.moment a)) (sym c.in-Load.is)
          (subst (λ m. MakesTransition office (with_content office left) at.given (load (midnight_of office) s m c.in-Load.upload)) (to_z-of_z w64 c.args.moment c.ranges.moment) (at.makes s stands)));
    })
    c.in_ok-may.ensures.crash c.load.ensures.crash

pub returns-in-Run-clause-crash : goal.returns-in-Run-clause-crash
returns-in-Run-clause-crash g c =
    let office = c.args.self.now.seen in
    only_made_then g.T.Tables.is_honest g.T.Tables.is_open g.T.Tables.may_leave g.T.Tables.holds c.args.self.now.tables c.may.new.self.tables c.run.new.self.tables (IfReplied (reply_of c.run.result))
    (MadeInEachState c.may.new.self.seen (λ midnight s. run midnight s (to_z w64 (of_z w64 c.args.moment)) c.in-Run.run')) (MadeInEachState office (λ midnight s. step midnight s c.args.moment c.args.request.now))
    (λ before left made.
    let at = subst (λ o. MadeInEachState o (λ midnight s. run midnight s (to_z w64 (of_z w64 c.args.moment)) c.in-Run.run') left) (c.in_ok-may.ensures.same before) made in
    record {
      given = at.given;
      answered = at.answered;
      makes = λ s stands.
          comes_allowed office (with_content office left) at.given s c.args.moment c.args.request.now (sym (c.in_ok-may.ensures.allowed before s stands) ∙ c.if-not-branch.false)
          (subst (λ a. MakesTransition office (with_content office left) at.given (act (midnight_of office) s c.args.moment a)) (sym c.in-Run.is)
          (subst (λ m. MakesTransition office (with_content office left) at.given (run (midnight_of office) s m c.in-Run.run')) (to_z-of_z w64 c.args.moment c.ranges.moment) (at.makes s stands)));
    })
    c.in_ok-may.ensures.crash c.run.ensures.crash
