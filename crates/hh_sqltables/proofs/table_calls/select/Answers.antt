use Rattle.std.proofs.Common.{IfOk}
use Rattle.sqlite.specs.Held.{state}
use Rattle.hh_sqltables.specs.steps.Answers.{IsFirst}
use Rattle.hh_sqltables.proofs.SelectLaws.{gets_by, plain_under}
use Rattle.hh_sqltables.proofs.FrameLaws.{by_form, reads_where}
use Rattle.hh_sqltables.proofs.table_calls.select.Goals as goal

pub returns-clause-frame : goal.returns-clause-frame
returns-clause-frame g c =
    let old = state g.S.Store c.args.conn.now in
    reads_where old (state g.S.Store c.select_first.new.conn) c.select_first.result
    (plain_under g.T.OfficeTable.schema _ c.one.ensures.selects.plain old) c.select_first.ensures.frame

pub returns-clause-value : goal.returns-clause-value
returns-clause-value g c stands is =
    let table = g.T.OfficeTable in
    let laws = g.met.T.OfficeTable in
    let finding = c.one.ensures in
    let key = c.args.key.now in
    let old = state g.S.Store c.args.conn.now in
    let new = state g.S.Store c.select_first.new.conn in
    let r = c.select_first.result in
    gets_by table.schema table.form laws.is_table.is_form finding.places finding.order _ finding.selects finding.by finding.narrow finding.picked key old new r is
    (by_form (λ k v. IfOk r (λ value. IsFirst k v c.one.result.now (k.write key) old new value)) _ _ _ _ laws.is_table.keyed laws.is_table.valued (c.select_first.ensures.found stands))
