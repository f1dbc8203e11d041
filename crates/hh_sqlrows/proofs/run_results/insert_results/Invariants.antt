use Rattle.std.proofs.Common.{◌≡◌, ◌++◌, Ok, List, IsTrue, map}
use Rattle.std.specs.Slice.Iter.{chunks_rest, chunks_size}
use Rattle.sqlite.specs.State.{HasCleanDisk}
use Rattle.sqlite.specs.Held.{state}
use Rattle.hh_reports.specs.result.AccountRow.{AccountRow}
use Rattle.hh_keyed_rows.specs.declared.row_fault.RowFault.{RowFault}
use Rattle.hh_keyed_rows.specs.run_keys.ResultKey.{ResultKey}
use Rattle.hh_sqlrows.specs.Forms.{PutsAll}
use Rattle.hh_sqlrows.specs.Office.{IsOffice}
use Rattle.hh_sqlrows.specs.OfficeTables.{amount_entry, results}
use Rattle.hh_sqlrows.specs.Reads.{WritesInside}
use Rattle.hh_sqlrows.proofs.run_results.insert_results.Given as goal

abbrev pub invariant-groups : goal.invariant-groups
invariant-groups g l =
    let old = state g.S.Store l.fn.tx.conn.now in
    let now = state g.S.Store l.tx.conn.now in
    record {
      can_next : (goal.iterator-groups g).can_next l.group-iterator;
      is_finite : (goal.iterator-groups g).is_finite l.group-iterator;
      size : chunks_size l.group-iterator ≡ 8;
      frame : WritesInside {S = g.row.S.Denot} {X = Unit {0}} {E = RowFault} g.S.Store l.fn.tx l.tx (Ok tt);
      puts : HasCleanDisk now → IsTrue old.in_transaction → IsOffice old.now
          → (done : List (ResultKey × AccountRow)) × (done ++ chunks_rest l.group-iterator ≡ l.fn.rows) × PutsAll results (map amount_entry done) old.now now.now;
    }
