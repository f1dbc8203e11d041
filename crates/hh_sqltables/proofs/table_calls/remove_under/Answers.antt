use Rattle.sqlite.specs.Held.{state}
use Rattle.hh_sqltables.proofs.DeleteLaws.{removes_by}
use Rattle.hh_sqltables.proofs.table_calls.remove_under.Goals as goal

pub returns-clause-removes : goal.returns-clause-removes
returns-clause-removes g c clean inside is =
    let asked = c.args.asked.now in
    let codec = g.A.Columned.codec in
    let old = state g.S.Store c.args.tx.now.conn.now in
    let new = state g.S.Store c.execute_by.new.tx.conn.now in
    let removal = c.removal.ensures in
    removes_by g.T.OfficeTable.schema g.T.OfficeTable.form g.met.T.OfficeTable.is_table.is_form removal.places _ removal.deletes (codec.write asked) (g.T.Removed.is_removed asked)
    (removal.tested asked) old new is c.execute_by.result
    (c.execute_by.ensures.executes clean inside)
