use Rattle.std.proofs.Common.{Ok, IsTrue, map, take}
use Rattle.sqlite.specs.State.{HasCleanDisk}
use Rattle.sqlite.specs.Held.{state}
use Rattle.hh_sqlrows.specs.row_fault.RowFault.{RowFault}
use Rattle.hh_sqlrows.specs.Forms.{PutsAll}
use Rattle.hh_sqlrows.specs.Office.{IsOffice}
use Rattle.hh_sqlrows.specs.OfficeTables.{touched}
use Rattle.hh_sqlchanges.specs.steps.Becoming.{touched_entry}
use Rattle.hh_sqlrows.specs.Reads.{WritesInside}
use Rattle.hh_sqlchanges.proofs.beside_writing.touch_periods.Given as goal

abbrev pub invariant-periods : goal.invariant-periods
invariant-periods g l =
    let old = state g.S.Store l.fn.tx.conn.now in
    let now = state g.S.Store l.tx.conn.now in
    record {
      frame : WritesInside {S = g.row.S.Denot} {X = Unit {0}} {E = RowFault} g.S.Store l.fn.tx l.tx (Ok tt);
      puts : HasCleanDisk now → IsTrue old.in_transaction → IsOffice old.now → PutsAll touched (map touched_entry (take l.at-index l.periods)) old.now now.now;
    }
