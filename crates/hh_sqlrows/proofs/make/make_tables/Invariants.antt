use Rattle.std.proofs.Common.{Ok, IsTrue}
use Rattle.sqlite.specs.State.{HasCleanDisk}
use Rattle.sqlite.specs.Held.{state}
use Rattle.sqlite.specs.declared.error.Error.{Error}
use Rattle.hh_sqlrows.specs.Making.{IsMadeUpTo}
use Rattle.hh_sqlrows.specs.Reads.{WritesInside}
use Rattle.hh_sqlrows.proofs.make.make_tables.Given as goal

abbrev pub invariant-tables : goal.invariant-tables
invariant-tables g l =
    let old = state g.S.Store l.fn.tx.conn.now in
    let now = state g.S.Store l.tx.conn.now in
    record {
      frame : WritesInside {S = g.row.S.Denot} {X = Unit {0}} {E = Error} g.S.Store l.fn.tx l.tx (Ok tt);
      makes : HasCleanDisk now → IsTrue old.in_transaction → IsMadeUpTo 0 old.now → IsMadeUpTo l.at now.now;
    }
