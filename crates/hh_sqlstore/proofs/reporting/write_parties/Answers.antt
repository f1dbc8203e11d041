use Rattle.std.proofs.Common.{ℕ, List, [], map, refl, subst}
use Rattle.std.specs.Prelude.{ℤ, Ok}
use Rattle.sqlite.specs.Held.{state}
use Rattle.hh_devices.specs.DeviceChanges.{change}
use Rattle.hh_names.specs.declared.account.Account.{Account}
use Rattle.hh_reports.specs.Exports.{balances_text}
use Rattle.hh_reports.specs.Nets.{sum_for}
use Rattle.hh_rows.specs.declared.rows.PartyRegistration.{PartyRegistration}
use Rattle.hh_store.specs.Outputs.{Outputs}
use Rattle.hh_sqlrows.specs.Forms.{rows_under_keys}
use Rattle.hh_sqlrows.specs.OfficeTables.{parties}
use Rattle.hh_sqlstore.proofs.ReportLaws.{counted_by, front_of_more, goes_on_by, told_as_output, told_on}
use Rattle.hh_sqlstore.proofs.reporting.write_parties.Goals as goal

abbrev id_of : List ℕ × PartyRegistration → List ℕ
id_of e = e.0

pub returns-in_err-writer-clause-writes : goal.returns-in_err-writer-clause-writes
returns-in_err-writer-clause-writes g c amounts has stands is settled =
    let rows = rows_under_keys parties (state g.S.Store c.args.conn.now).now.trees in
    let balance : Account → ℤ = λ a. sum_for a amounts in
    let device = change g.O.Sink.taken g.O.Sink.failures c.args.out.now c.begin.new.out in
    let sent = c.in_err-writer.ensures amounts has in
    let on = goes_on_by id_of (λ ids. balances_text ids balance) (λ ids. balances_text ids balance) [] rows (rows, refl) (λ later same. c.reports_go_on.ensures.balances balance [] later) in
    told_as_output device (balances_text (map id_of rows) balance) c.in_err-writer.field-0.0 c.from_residual.result c.from_residual.ensures.1 (front_of_more device _ _ on sent.0, sent.1)

pub returns-in_err-give_all-clause-writes : goal.returns-in_err-give_all-clause-writes
returns-in_err-give_all-clause-writes g c amounts has stands is settled =
    let rows = rows_under_keys parties (state g.S.Store c.args.conn.now).now.trees in
    let balance : Account → ℤ = λ a. sum_for a amounts in
    let device = change g.O.Sink.taken g.O.Sink.failures c.args.out.now c.give_all.new.out in
    let given = c.in_err-give_all.ensures.gives c.args.out.now amounts (c.in_ok-writer.ensures amounts has) in
    let on = goes_on_by id_of (λ ids. balances_text ids balance) (λ ids. balances_text ids balance) given.0 rows (given.2 stands is) (λ later same. c.reports_go_on.ensures.balances balance (map id_of given.0) later) in
    told_on device (balances_text (map id_of rows) balance) c.in_err-give_all.field-0.0 c.from_residual-in_err-give_all.result c.from_residual-in_err-give_all.ensures.1 (front_of_more device _ _ on given.1.0, given.1.1)

pub returns-in_err-finish-clause-writes : goal.returns-in_err-finish-clause-writes
returns-in_err-finish-clause-writes g c amounts has stands is settled =
    let balance : Account → ℤ = λ a. sum_for a amounts in
    let device = change g.O.Sink.taken g.O.Sink.failures c.args.out.now c.finish.new.out in
    let given = c.in_ok-give_all.ensures.gives c.args.out.now amounts (c.in_ok-writer.ensures amounts has) in
    let sent = c.in_err-finish.ensures c.args.out.now amounts (map id_of given.0) given.1 in
    subst (λ all. Outputs device {A = Unit {0}} (balances_text (map id_of all) balance) c.from_residual-in_err-finish.result) (given.2 stands is)
    (told_as_output device (balances_text (map id_of given.0) balance) c.in_err-finish.field-0.0 c.from_residual-in_err-finish.result c.from_residual-in_err-finish.ensures.1 sent)

pub returns-in_err-finish-clause-counted : goal.returns-in_err-finish-clause-counted
returns-in_err-finish-clause-counted g c amounts has =
    let balance : Account → ℤ = λ a. sum_for a amounts in
    let device = change g.O.Sink.taken g.O.Sink.failures c.args.out.now c.finish.new.out in
    let given = c.in_ok-give_all.ensures.gives c.args.out.now amounts (c.in_ok-writer.ensures amounts has) in
    let sent = c.in_err-finish.ensures c.args.out.now amounts (map id_of given.0) given.1 in
    counted_by device (balances_text (map id_of given.0) balance) c.from_residual-in_err-finish.result
    (told_as_output device (balances_text (map id_of given.0) balance) c.in_err-finish.field-0.0 c.from_residual-in_err-finish.result c.from_residual-in_err-finish.ensures.1 sent)

pub returns-clause-writes : goal.returns-clause-writes
returns-clause-writes g c amounts has stands is settled =
    let balance : Account → ℤ = λ a. sum_for a amounts in
    let device = change g.O.Sink.taken g.O.Sink.failures c.args.out.now c.finish.new.out in
    let given = c.in_ok-give_all.ensures.gives c.args.out.now amounts (c.in_ok-writer.ensures amounts has) in
    let sent = c.in_ok-finish.ensures c.args.out.now amounts (map id_of given.0) given.1 in
    subst (λ all. Outputs device {A = Unit {0}} (balances_text (map id_of all) balance) (Ok tt)) (given.2 stands is) sent

pub returns-clause-counted : goal.returns-clause-counted
returns-clause-counted g c amounts has =
    let given = c.in_ok-give_all.ensures.gives c.args.out.now amounts (c.in_ok-writer.ensures amounts has) in
    (c.in_ok-finish.ensures c.args.out.now amounts (map id_of given.0) given.1).1
