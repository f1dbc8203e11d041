use Rattle.std.proofs.Common.{subst, Ok, Err, w64, to_z, of_z}
use Rattle.std.proofs.lemmas.Int.{to_z-of_z}
use Rattle.std.specs.Prelude.{Result}
use Rattle.hh_names.specs.declared.fault.Fault.{Fault}
use Rattle.hh_requests.specs.declared.reply.Reply.{Reply}
use Rattle.hh_store.specs.Crashes.{AddsOnly}
use Rattle.hh_office.specs.Crashes.{IfReplied, MadeInEachState}
use Rattle.hh_office.specs.Machine.{step}
use Rattle.hh_office.specs.Promises.{RefusalLeaves}
use Rattle.hh_office.specs.steps.Promises.{FollowsMachine, reply_of}
use Rattle.hh_office.specs.Refusals.{CountsReply}
use Rattle.hh_office.proofs.office.Office.reply_to.Goals as goal

pub returns-in-Ok-clause-step : goal.returns-in-Ok-clause-step
returns-in-Ok-clause-step g c sure =
    subst (λ m. FollowsMachine c.args.self.now.seen c.act.new.self.seen (Ok c.in-Ok.reply) (λ midnight s. step midnight s m c.args.request.now)) (to_z-of_z w64 c.args.moment c.ranges.moment)
    (subst (λ r. FollowsMachine c.args.self.now.seen c.act.new.self.seen r (λ midnight s. step midnight s (to_z w64 (of_z w64 c.args.moment)) c.args.request.now)) c.in-Ok.is (c.act.ensures.makes sure))

pub returns-in-Err-clause-step : goal.returns-in-Err-clause-step
returns-in-Err-clause-step g c sure =
    subst (λ m. FollowsMachine c.args.self.now.seen c.act.new.self.seen (Err c.in-Err.fault) (λ midnight s. step midnight s m c.args.request.now)) (to_z-of_z w64 c.args.moment c.ranges.moment)
    (subst (λ r. FollowsMachine c.args.self.now.seen c.act.new.self.seen r (λ midnight s. step midnight s (to_z w64 (of_z w64 c.args.moment)) c.args.request.now)) c.in-Err.is (c.act.ensures.makes sure))

pub returns-in-Ok-clause-untouched : goal.returns-in-Ok-clause-untouched
returns-in-Ok-clause-untouched g c sure =
    subst (λ r. RefusalLeaves c.args.self.now.seen c.act.new.self.seen (reply_of r)) c.in-Ok.is (c.act.ensures.untouched sure)

pub returns-in-Err-clause-untouched : goal.returns-in-Err-clause-untouched
returns-in-Err-clause-untouched g c sure =
    subst (λ r. RefusalLeaves c.args.self.now.seen c.act.new.self.seen (reply_of r)) c.in-Err.is (c.act.ensures.untouched sure)

pub returns-in-Ok-clause-crash : goal.returns-in-Ok-clause-crash
returns-in-Ok-clause-crash g c =
    let Leaves = AddsOnly g.T.Tables.is_honest g.T.Tables.is_open g.T.Tables.may_leave g.T.Tables.holds c.args.self.now.tables c.act.new.self.tables in
    let office = c.args.self.now.seen in
    subst (λ m. Leaves (IfReplied c.in-Ok.reply) (MadeInEachState office (λ midnight s. step midnight s m c.args.request.now))) (to_z-of_z w64 c.args.moment c.ranges.moment)
    (subst (λ (r : Result Reply Fault). Leaves (IfReplied (reply_of r)) (MadeInEachState office (λ midnight s. step midnight s (to_z w64 (of_z w64 c.args.moment)) c.args.request.now))) c.in-Ok.is c.act.ensures.crash)

pub returns-in-Err-clause-crash : goal.returns-in-Err-clause-crash
returns-in-Err-clause-crash g c =
    let Leaves = AddsOnly g.T.Tables.is_honest g.T.Tables.is_open g.T.Tables.may_leave g.T.Tables.holds c.args.self.now.tables c.act.new.self.tables in
    let office = c.args.self.now.seen in
    subst (λ m. Leaves (IfReplied (reply_of (Err c.in-Err.fault))) (MadeInEachState office (λ midnight s. step midnight s m c.args.request.now))) (to_z-of_z w64 c.args.moment c.ranges.moment)
    (subst (λ (r : Result Reply Fault). Leaves (IfReplied (reply_of r)) (MadeInEachState office (λ midnight s. step midnight s (to_z w64 (of_z w64 c.args.moment)) c.args.request.now))) c.in-Err.is c.act.ensures.crash)

pub returns-in-Ok-clause-refusals_counted : goal.returns-in-Ok-clause-refusals_counted
returns-in-Ok-clause-refusals_counted g c sure some =
    subst (λ r. CountsReply (reply_of r) (g.T.Tables.refusals c.args.self.now.tables) (g.T.Tables.refusals c.act.new.self.tables)) c.in-Ok.is (c.act.ensures.refusals_counted sure some)

pub returns-in-Err-clause-refusals_counted : goal.returns-in-Err-clause-refusals_counted
returns-in-Err-clause-refusals_counted g c sure some =
    subst (λ r. CountsReply (reply_of r) (g.T.Tables.refusals c.args.self.now.tables) (g.T.Tables.refusals c.act.new.self.tables)) c.in-Err.is (c.act.ensures.refusals_counted sure some)
