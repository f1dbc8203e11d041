use Rattle.std.proofs.Common.{◌≡◌, Ok, take}
use Rattle.std.specs.List.{flat_map}
use Rattle.sqlite.specs.Held.{state}
use Rattle.hh_keyed_rows.specs.declared.row_fault.RowFault.{RowFault}
use Rattle.hh_sqltables.specs.Forms.{entry_under, rows_under_keys}
use Rattle.hh_sqltables.specs.Frames.{OfSettledOf, ReadsSettledOf}
use Rattle.hh_sqltables.proofs.many_keys.select_each.Given as goal

-- what the keys so far select
abbrev pub invariant-keys : goal.invariant-keys
invariant-keys g l =
    let old = state g.S.Store l.fn.conn in
    let now = state g.S.Store l.conn in
    let table = g.T.OfficeTable in
    record {
      frame : ReadsSettledOf {X = Unit {0}} {E = RowFault} table.schema old now (Ok tt);
      selected : OfSettledOf table.schema old now (l.found.items ≡ flat_map (entry_under table.form.order (rows_under_keys table.form old.now.trees)) (take l.key-index l.keys));
    }
