use Rattle.std.proofs.Common.{IfOk, OnOk, arith}
use Rattle.std.specs.List.{AllByRecursion, flat_map}
use Rattle.sqlite.specs.Held.{state}
use Rattle.hh_keyed_rows.specs.KeyedRows.{columns_of}
use Rattle.hh_keyed_rows.specs.Laws.{Fits}
use Rattle.hh_sqltables.specs.steps.Trying.{ExecutesOrLeaves}
use Rattle.hh_sqltables.proofs.FormLaws.{inserts_or_leaves_by}
use Rattle.hh_sqltables.proofs.FrameLaws.{by_form}
use Rattle.hh_sqltables.proofs.table_calls.insert_group.Goals as goal

pub returns-then-rows-eq-GROUP-clause-puts : goal.returns-then-rows-eq-GROUP-clause-puts
returns-then-rows-eq-GROUP-clause-puts g c clean inside is =
    let table = g.T.OfficeTable in
    let laws = g.met.T.OfficeTable in
    let rows = c.args.rows.now in
    let old = state g.S.Store c.args.tx.now.conn.now in
    let new = state g.S.Store c.try_entries.new.tx.conn.now in
    let r = c.try_entries.result in
    inserts_or_leaves_by table.schema table.form laws.is_table.is_form rows old new is _ 8 (omega (arith, c.if-rows-eq-GROUP.true)) c.group.ensures r
    (by_form (λ key value. OnOk r (AllByRecursion (Fits key value) rows)) _ _ _ _ laws.is_table.keyed laws.is_table.valued c.try_entries.ensures.fit)
    (by_form (λ key value. IfOk r (ExecutesOrLeaves c.group.result.now (flat_map (columns_of key value) rows) old new)) _ _ _ _ laws.is_table.keyed laws.is_table.valued (c.try_entries.ensures.writes clean inside))
