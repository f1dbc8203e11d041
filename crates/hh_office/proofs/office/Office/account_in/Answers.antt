use Rattle.std.proofs.Common.{subst, sym, ◌∙◌}
use Rattle.hh_office.specs.Enquiries.{account_reply, net_of_rows, reply_by_rows, rows_of_account}
use Rattle.hh_office.specs.steps.Promises.{RepliesAs, reply_of}
use Rattle.hh_office.specs.Transitions.{unchanged}
use Rattle.hh_office.specs.Views.{midnight_of}
use Rattle.hh_office.proofs.EnquiryLaws.{account_found}
use Rattle.hh_office.proofs.StepLaws.{comes_same}
use Rattle.hh_office.proofs.RefusalLaws.{reached_by}
use Rattle.hh_office.specs.Refusals.{CountsReply}
use Rattle.hh_num.specs.Ranges.{IsBetween}
use Rattle.hh_runs.specs.DayNets.{day_cash}
use Rattle.hh_office.proofs.AmountLaws.{net_fits}
use Rattle.hh_office.proofs.office.Office.account_in.Goals as goal

pub returns-clause-makes : goal.returns-clause-makes
returns-clause-makes g c sure s stands =
    let office = c.args.self.now.seen in
    let account = c.args.account.now in
    let replies = subst (λ rows. RepliesAs c.reply_by_rows.result (reply_by_rows account c.args.run (rows_of_account account rows)))
    (c.deref.ensures.value ∙ c.in_ok-rows.ensures.value sure) c.reply_by_rows.ensures.replies in
    comes_same office c.rows_of_run.new.self.seen (reply_of c.reply_by_rows.result) (unchanged s (account_reply (midnight_of office) s account c.args.date)) (c.in_ok-rows.ensures.same sure)
    (account_found office s stands c.kept_kinds_of_dates.ensures c.kept_results.ensures account c.args.date c.args.run c.reply_by_rows.result (c.requires (c.in_ok-rows.ensures.sure sure)) replies)

pub returns-clause-refusals_counted : goal.returns-clause-refusals_counted
returns-clause-refusals_counted g c sure some =
    let office = c.args.self.now.seen in
    let account = c.args.account.now in
    let fits = net_fits office some.0 some.1 c.kept_kinds_of_dates.ensures c.paid_within.ensures account c.args.date c.args.run (c.requires (c.in_ok-rows.ensures.sure sure)) in
    let told = subst (λ rows. IsBetween day_cash.least day_cash.most (net_of_rows (rows_of_account account rows))) (sym (c.deref.ensures.value ∙ c.in_ok-rows.ensures.value sure)) fits in
    subst (λ n. CountsReply (reply_of c.reply_by_rows.result) (g.T.Tables.refusals c.args.self.now.tables) n) (sym (c.in_ok-rows.ensures.refusals_counted sure (reached_by office some)))
    (c.reply_by_rows.ensures.refusals_counted told (g.T.Tables.refusals c.args.self.now.tables))
