use Rattle.std.proofs.Common.{Ok, IsTrue, take}
use Rattle.sqlite.specs.Held.{state}
use Rattle.sqlite.specs.State.{HasCleanDisk}
use Rattle.hh_keyed_rows.specs.declared.row_fault.RowFault.{RowFault}
use Rattle.hh_sqltables.specs.Forms.{IsOfficeOf, PutsAllIn}
use Rattle.hh_sqltables.specs.Frames.{WritesInside}
use Rattle.hh_sqltables.proofs.table_calls.replace_all.Given as goal

abbrev pub invariant-rows : goal.invariant-rows
invariant-rows g l =
    let old = state g.S.Store l.fn.tx.conn.now in
    let now = state g.S.Store l.tx.conn.now in
    record {
      frame : WritesInside {S = g.row.S.Denot} {X = Unit {0}} {E = RowFault} g.S.Store l.fn.tx l.tx (Ok tt);
      puts : HasCleanDisk now → IsTrue old.in_transaction → IsOfficeOf g.T.OfficeTable.schema old.now → PutsAllIn g.T.OfficeTable.schema g.T.OfficeTable.form (take l.row-index l.rows) old.now now.now;
    }
