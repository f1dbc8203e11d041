use Rattle.std.proofs.Common.{[], IfOk}
use Rattle.sqlite.specs.Held.{state}
use Rattle.hh_sqltables.specs.steps.Answers.{IsRead}
use Rattle.hh_sqltables.proofs.SelectLaws.{lists_all, plain_under}
use Rattle.hh_sqltables.proofs.FrameLaws.{by_form, reads_where}
use Rattle.hh_sqltables.proofs.table_calls.select_all.Goals as goal

pub returns-clause-frame : goal.returns-clause-frame
returns-clause-frame g c =
    let old = state g.S.Store c.args.conn.now in
    reads_where old (state g.S.Store c.select_entries.new.conn) c.select_entries.result
    (plain_under g.T.OfficeTable.schema _ c.all.ensures.selects.plain old) c.select_entries.ensures.frame

pub returns-clause-value : goal.returns-clause-value
returns-clause-value g c stands is =
    let table = g.T.OfficeTable in
    let laws = g.met.T.OfficeTable in
    let listing = c.all.ensures in
    let old = state g.S.Store c.args.conn.now in
    let new = state g.S.Store c.select_entries.new.conn in
    let r = c.select_entries.result in
    lists_all table.schema table.form laws.is_table.is_form listing.order _ listing.selects listing.by old new r is
    (by_form (λ k v. IfOk r (λ found. IsRead k v c.all.result.now [] old new found.items)) _ _ _ _ laws.is_table.keyed laws.is_table.valued (c.select_entries.ensures.read stands))
