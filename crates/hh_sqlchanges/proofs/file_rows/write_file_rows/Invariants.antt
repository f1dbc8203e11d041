use Rattle.std.proofs.Common.{◌≡◌, ◌++◌, Ok, List, IsTrue}
use Rattle.std.specs.Slice.Iter.{chunks_rest, chunks_size}
use Rattle.sqlite.specs.State.{HasCleanDisk}
use Rattle.sqlite.specs.Held.{state}
use Rattle.hh_rows.specs.declared.rows.Row.{Row}
use Rattle.hh_sqlrows.specs.Office.{IsOffice}
use Rattle.hh_sqlrows.specs.Reads.{WritesInside}
use Rattle.hh_sqlrows.specs.row_fault.RowFault.{RowFault}
use Rattle.hh_sqlchanges.specs.steps.Becoming.{Becomes}
use Rattle.hh_sqlchanges.specs.steps.FileRows.{with_file_rows}
use Rattle.hh_sqlchanges.proofs.file_rows.write_file_rows.Given as goal

abbrev pub invariant-groups : goal.invariant-groups
invariant-groups g l =
    let old = state g.S.Store l.fn.tx.conn.now in
    let now = state g.S.Store l.tx.conn.now in
    record {
      can_next : (goal.iterator-groups g).can_next l.group-iterator;
      is_finite : (goal.iterator-groups g).is_finite l.group-iterator;
      size : chunks_size l.group-iterator ≡ 8;
      frame : WritesInside {S = g.row.S.Denot} {X = Unit {0}} {E = RowFault} g.S.Store l.fn.tx l.tx (Ok tt);
      writes : HasCleanDisk now → IsTrue old.in_transaction → IsOffice old.now
          → (done : List Row) × (done ++ chunks_rest l.group-iterator ≡ l.fn.rows) × Becomes (with_file_rows done) old.now now.now;
    }
