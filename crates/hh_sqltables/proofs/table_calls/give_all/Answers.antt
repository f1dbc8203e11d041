use Rattle.std.proofs.Common.{[]}
use Rattle.sqlite.specs.Held.{state}
use Rattle.hh_devices.specs.DeviceChanges.{change}
use Rattle.hh_sqltables.specs.Giving.{GivesSo}
use Rattle.hh_sqltables.specs.steps.Answers.{IsRead}
use Rattle.hh_sqltables.specs.steps.Streams.{IsBegun, OfPlain}
use Rattle.hh_sqltables.proofs.SelectLaws.{gives_all, plain_under}
use Rattle.hh_sqltables.proofs.FrameLaws.{by_form, reads_where}
use Rattle.hh_sqltables.proofs.table_calls.give_all.Goals as goal

pub returns-clause-frame : goal.returns-clause-frame
returns-clause-frame g c =
    let old = state g.S.Store c.args.conn.now in
    reads_where old (state g.S.Store c.give_entries.new.conn) c.give_entries.result
    (plain_under g.T.OfficeTable.schema _ c.all.ensures.selects.plain old) c.give_entries.ensures.frame

pub returns-clause-gives : goal.returns-clause-gives
returns-clause-gives g c begun report has =
    let table = g.T.OfficeTable in
    let laws = g.met.T.OfficeTable in
    let listing = c.all.ensures in
    let old = state g.S.Store c.args.conn.now in
    let new = state g.S.Store c.give_entries.new.conn in
    let r = c.give_entries.result in
    let text = c.all.result.now in
    let holds = g.R.RowTaker.has (change g.O.Sink.taken g.O.Sink.failures begun c.give_entries.new.out) c.give_entries.new.taker report in
    let stopped = g.R.RowTaker.stopped (change g.O.Sink.taken g.O.Sink.failures begun c.give_entries.new.out) report in
    gives_all table.schema table.form laws.is_table.is_form listing.order _ listing.selects listing.by holds stopped old new r c.give_entries.ensures.frame.stood
    (by_form (λ k v. GivesSo holds stopped (λ taken. OfPlain old new text (IsRead k v text [] old new taken)) (λ taken. OfPlain old new text (IsBegun k v text [] old taken)) r) _ _ _ _ laws.is_table.keyed laws.is_table.valued (c.give_entries.ensures.gives begun report has))
