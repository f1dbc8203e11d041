use Rattle.std.proofs.Common.{Bool, filter, subst}
use Rattle.sqlite.specs.Held.{state}
use Rattle.hh_devices.specs.DeviceChanges.{change}
use Rattle.hh_sqltables.specs.Giving.{GivesEach, GivesSo}
use Rattle.hh_sqltables.specs.steps.Answers.{IsRead}
use Rattle.hh_sqltables.specs.steps.Streams.{IsBegun, OfPlain}
use Rattle.hh_sqltables.proofs.SelectLaws.{gives_by, plain_under}
use Rattle.hh_sqltables.proofs.FrameLaws.{by_form, reads_where}
use Rattle.hh_sqltables.specs.Forms.{rows_under_keys}
use Rattle.hh_sqltables.specs.Frames.{OfOfficeOf}
use Rattle.hh_sqltables.proofs.table_calls.give_under.Goals as goal

pub returns-clause-frame : goal.returns-clause-frame
returns-clause-frame g c =
    let old = state g.S.Store c.args.conn.now in
    reads_where old (state g.S.Store c.give_by.new.conn) c.give_by.result
    (plain_under g.T.OfficeTable.schema _ c.under.ensures.selects.plain old) c.give_by.ensures.frame

pub returns-clause-gives : goal.returns-clause-gives
returns-clause-gives g c begun report has =
    let table = g.T.OfficeTable in
    let laws = g.met.T.OfficeTable in
    let query = c.under.ensures in
    let codec = g.A.Columned.codec in
    let asked = c.args.asked.now in
    let old = state g.S.Store c.args.conn.now in
    let new = state g.S.Store c.give_by.new.conn in
    let r = c.give_by.result in
    let text = c.under.result.now in
    let rows = rows_under_keys table.form old.now.trees in
    let holds = g.R.RowTaker.has (change g.O.Sink.taken g.O.Sink.failures begun c.give_by.new.out) c.give_by.new.taker report in
    let stopped = g.R.RowTaker.stopped (change g.O.Sink.taken g.O.Sink.failures begun c.give_by.new.out) report in
    subst (λ (test : g.row.T-Key.Denot → Bool). GivesEach holds stopped (OfOfficeOf table.schema old new) (filter (λ e. test e.0) rows) r) (λ i k. query.same asked k i)
    (gives_by table.schema table.form laws.is_table.is_form query.places query.order _ query.selects query.by query.asked_order query.total query.exact codec query.is_codec query.part query.narrow query.picked holds stopped asked old new r c.give_by.ensures.frame.stood
    (by_form (λ k v. GivesSo holds stopped (λ taken. OfPlain old new text (IsRead k v text (codec.write asked) old new taken)) (λ taken. OfPlain old new text (IsBegun k v text (codec.write asked) old taken)) r) _ _ _ _ laws.is_table.keyed laws.is_table.valued (c.give_by.ensures.gives begun report has)))
