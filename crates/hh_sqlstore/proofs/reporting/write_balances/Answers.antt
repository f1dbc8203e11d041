use Rattle.std.proofs.Common.{map, refl, subst}
use Rattle.sqlite.specs.Held.{state}
use Rattle.hh_devices.specs.DeviceChanges.{change}
use Rattle.hh_reports.specs.Exports.{balances_text}
use Rattle.hh_reports.specs.Nets.{sum_for}
use Rattle.hh_store.specs.Outputs.{Outputs}
use Rattle.hh_sqlrows.specs.Contents.{posted_amount}
use Rattle.hh_sqlrows.specs.Forms.{rows_under_keys}
use Rattle.hh_sqlrows.specs.OfficeTables.{parties, postings}
use Rattle.hh_sqlparts.proofs.ReadingLaws.{only, found_last}
use Rattle.hh_sqlstore.proofs.ReportLaws.{behind_nothing, front_of_more, told_on}
use Rattle.hh_sqlstore.proofs.reporting.write_balances.Goals as goal

pub returns-in_err-sums-clause-writes : goal.returns-in_err-sums-clause-writes
returns-in_err-sums-clause-writes g c stands is settled =
    let device = change g.O.Sink.taken g.O.Sink.failures c.args.out.now c.sums_posted.new.out in
    let trees = (state g.S.Store c.args.conn.now).now.trees in
    let text = balances_text (map (λ e. e.0) (rows_under_keys parties trees)) (λ a. sum_for a (map posted_amount (rows_under_keys postings trees))) in
    let nothing = c.in_err-sums.ensures.nothing in
    told_on device text c.in_err-sums.field-0.0 c.from_residual.result c.from_residual.ensures.1 (front_of_more device _ text (text, refl) nothing.0, nothing.1)

pub returns-clause-writes : goal.returns-clause-writes
returns-clause-writes g c stands is settled =
    let later = change g.O.Sink.taken g.O.Sink.failures c.sums_posted.new.out c.write_parties.new.out in
    let device = change g.O.Sink.taken g.O.Sink.failures c.args.out.now c.write_parties.new.out in
    let old = state g.S.Store c.args.conn.now in
    let mid = state g.S.Store c.sums_posted.new.conn in
    let new = state g.S.Store c.write_parties.new.conn in
    let ids = map (λ e. e.0) (rows_under_keys parties old.now.trees) in
    let sums = c.in_ok-sums.ensures.sums in
    let nothing = c.in_ok-sums.ensures.nothing in
    let went = found_last old mid new (only _ _ _ c.in_ok-sums.ensures.frame) (only _ _ _ c.write_parties.ensures.frame)
    (λ db. Outputs later (balances_text (map (λ e. e.0) (rows_under_keys parties db.trees)) (λ a. sum_for a sums.0)) c.write_parties.result) (c.write_parties.ensures.writes sums.0 sums.1) stands is settled in
    subst (λ amounts. Outputs device (balances_text ids (λ a. sum_for a amounts)) c.write_parties.result) (sums.2 ((only _ _ _ c.write_parties.ensures.frame).stood stands) is settled)
    (behind_nothing _ _ _ _ _ _ (balances_text ids (λ a. sum_for a sums.0)) c.write_parties.result nothing.0 nothing.1 went)
