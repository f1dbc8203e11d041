use Rattle.std.proofs.Common.{Ok, IsTrue, take}
use Rattle.sqlite.specs.State.{HasCleanDisk}
use Rattle.sqlite.specs.Held.{state}
use Rattle.hh_sqlrows.specs.Office.{IsOffice}
use Rattle.hh_sqlrows.specs.Reads.{WritesInside}
use Rattle.hh_sqlrows.specs.row_fault.RowFault.{RowFault}
use Rattle.hh_sqlchanges.specs.steps.Becoming.{Becomes}
use Rattle.hh_sqlchanges.specs.steps.FileRows.{with_unit_steps}
use Rattle.hh_sqlchanges.proofs.unit_writing.write_unit_steps.Given as goal

abbrev pub invariant-steps : goal.invariant-steps
invariant-steps g l =
    let old = state g.S.Store l.fn.tx.conn.now in
    let now = state g.S.Store l.tx.conn.now in
    record {
      frame : WritesInside {S = g.row.S.Denot} {X = Unit {0}} {E = RowFault} g.S.Store l.fn.tx l.tx (Ok tt);
      writes : HasCleanDisk now → IsTrue old.in_transaction → IsOffice old.now → Becomes (with_unit_steps (take l.step-index l.steps)) old.now now.now;
    }
