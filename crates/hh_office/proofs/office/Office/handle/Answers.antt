use Rattle.std.proofs.Common.{subst, w64}
use Rattle.std.proofs.lemmas.Int.{to_z-of_z}
use Rattle.hh_store.specs.Crashes.{AddsOnly}
use Rattle.hh_office.specs.Crashes.{IfReplied, MadeInEachState}
use Rattle.hh_office.specs.Machine.{step}
use Rattle.hh_office.specs.Promises.{HandleStep}
use Rattle.hh_office.proofs.CrashLaws.{crash_step}
use Rattle.hh_office.proofs.HandleLaws.{conserves_after, represents_after}
use Rattle.hh_office.proofs.OnceLaws.{repeats}
use Rattle.hh_office.proofs.ViewLaws.{forbids_others, shows_by_view}
use Rattle.hh_office.proofs.office.Office.handle.Goals as goal

pub returns-clause-step : goal.returns-clause-step
returns-clause-step g c sure =
    subst (λ m. HandleStep c.args.self.now.seen c.reply_to-reply.new.self.seen m c.args.request.now c.reply_to-reply.result) (to_z-of_z w64 c.args.moment c.ranges.moment) (c.reply_to-reply.ensures.step sure)

pub returns-clause-once : goal.returns-clause-once
returns-clause-once g c sure =
    repeats c.kept_summaries.ensures c.load_effect.ensures c.run_effect.ensures c.accepted_files_in_range.ensures c.args.self.now.seen c.reply_to-reply.new.self.seen c.args.moment c.args.request.now c.reply_to-reply.result (returns-clause-step g c sure)

pub returns-clause-represents : goal.returns-clause-represents
returns-clause-represents g c sure =
    represents_after c.args.self.now.seen c.reply_to-reply.new.self.seen c.args.moment c.args.request.now c.reply_to-reply.result c.is_named.ensures (returns-clause-step g c sure)

pub returns-clause-sums : goal.returns-clause-sums
returns-clause-sums g c sure =
    conserves_after c.reached_conserve.ensures c.args.self.now.seen c.reply_to-reply.new.self.seen c.args.moment c.args.request.now c.reply_to-reply.result c.is_named.ensures (returns-clause-step g c sure)

pub returns-clause-view : goal.returns-clause-view
returns-clause-view g c sure =
    shows_by_view c.kept_results.ensures c.kept_postings.ensures c.args.self.now.seen c.reply_to-reply.new.self.seen c.args.moment c.args.request.now c.reply_to-reply.result (returns-clause-step g c sure)

pub returns-clause-foreign : goal.returns-clause-foreign
returns-clause-foreign g c sure =
    forbids_others c.keys_never_meet.ensures c.args.self.now.seen c.reply_to-reply.new.self.seen c.args.moment c.args.request.now c.reply_to-reply.result (returns-clause-step g c sure)

pub returns-clause-crash : goal.returns-clause-crash
returns-clause-crash g c =
    subst (λ m. AddsOnly g.T.Tables.is_honest g.T.Tables.is_open g.T.Tables.may_leave g.T.Tables.holds c.args.self.now.tables c.reply_to-reply.new.self.tables (IfReplied c.reply_to-reply.result)
    (MadeInEachState c.args.self.now.seen (λ midnight s. step midnight s m c.args.request.now))) (to_z-of_z w64 c.args.moment c.ranges.moment) c.reply_to-reply.ensures.crash

pub returns-clause-left : goal.returns-clause-left
returns-clause-left g c =
    crash_step g.T.Tables.is_honest g.T.Tables.is_open g.T.Tables.may_leave g.T.Tables.holds c.args.self.now c.reply_to-reply.new.self c.shows_left-2.ensures c.shows_left.ensures
    c.args.moment c.args.request.now c.reply_to-reply.result (returns-clause-crash g c) (returns-clause-step g c)
