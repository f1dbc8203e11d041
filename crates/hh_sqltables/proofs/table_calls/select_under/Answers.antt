use Rattle.std.proofs.Common.{◌≡◌, Bool, IfOk, filter, subst}
use Rattle.sqlite.specs.Held.{state}
use Rattle.hh_sqltables.specs.steps.Answers.{IsRead}
use Rattle.hh_sqltables.proofs.SelectLaws.{lists_by, plain_under}
use Rattle.hh_sqltables.proofs.FrameLaws.{by_form, reads_where}
use Rattle.hh_sqltables.specs.Forms.{rows_under_keys}
use Rattle.hh_sqltables.proofs.table_calls.select_under.Goals as goal

pub returns-clause-frame : goal.returns-clause-frame
returns-clause-frame g c =
    let old = state g.S.Store c.args.conn.now in
    reads_where old (state g.S.Store c.select_by.new.conn) c.select_by.result
    (plain_under g.T.OfficeTable.schema _ c.under.ensures.selects.plain old) c.select_by.ensures.frame

pub returns-clause-value : goal.returns-clause-value
returns-clause-value g c stands is =
    let table = g.T.OfficeTable in
    let laws = g.met.T.OfficeTable in
    let query = c.under.ensures in
    let codec = g.A.Columned.codec in
    let asked = c.args.asked.now in
    let old = state g.S.Store c.args.conn.now in
    let new = state g.S.Store c.select_by.new.conn in
    let r = c.select_by.result in
    let rows = rows_under_keys table.form old.now.trees in
    subst (λ (test : g.row.T-Key.Denot → Bool). IfOk r (λ found. found.items ≡ filter (λ e. test e.0) rows)) (λ i k. query.same asked k i)
    (lists_by table.schema table.form laws.is_table.is_form query.places query.order _ query.selects query.by query.asked_order query.total query.exact codec query.is_codec query.part query.narrow query.picked asked old new r is
    (by_form (λ k v. IfOk r (λ found. IsRead k v c.under.result.now (codec.write asked) old new found.items)) _ _ _ _ laws.is_table.keyed laws.is_table.valued (c.select_by.ensures.read stands)))
