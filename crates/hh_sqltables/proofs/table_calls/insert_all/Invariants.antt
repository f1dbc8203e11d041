use Rattle.std.proofs.Common.{◌≡◌, ◌++◌, Ok, List, IsTrue}
use Rattle.std.specs.Slice.Iter.{chunks_rest, chunks_size}
use Rattle.sqlite.specs.Held.{state}
use Rattle.sqlite.specs.State.{HasCleanDisk}
use Rattle.hh_keyed_rows.specs.declared.row_fault.RowFault.{RowFault}
use Rattle.hh_sqltables.specs.Forms.{IsOfficeOf, PutsAllIn}
use Rattle.hh_sqltables.specs.Frames.{WritesInside}
use Rattle.hh_sqltables.proofs.table_calls.insert_all.Given as goal

abbrev pub invariant-groups : goal.invariant-groups
invariant-groups g l =
    let old = state g.S.Store l.fn.tx.conn.now in
    let now = state g.S.Store l.tx.conn.now in
    record {
      can_next : (goal.iterator-groups g).can_next l.group-iterator;
      is_finite : (goal.iterator-groups g).is_finite l.group-iterator;
      size : chunks_size l.group-iterator ≡ 8;
      frame : WritesInside {S = g.row.S.Denot} {X = Unit {0}} {E = RowFault} g.S.Store l.fn.tx l.tx (Ok tt);
      puts : HasCleanDisk now → IsTrue old.in_transaction → IsOfficeOf g.T.OfficeTable.schema old.now
          → (done : List (g.row.T-Key.Denot × g.row.T-Value.Denot)) × (done ++ chunks_rest l.group-iterator ≡ l.fn.rows) × PutsAllIn g.T.OfficeTable.schema g.T.OfficeTable.form done old.now now.now;
    }
