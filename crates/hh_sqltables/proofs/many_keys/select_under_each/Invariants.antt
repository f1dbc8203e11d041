use Rattle.std.proofs.Common.{◌≡◌, Ok, filter, take}
use Rattle.std.specs.List.{flat_map}
use Rattle.sqlite.specs.Held.{state}
use Rattle.hh_keyed_rows.specs.declared.row_fault.RowFault.{RowFault}
use Rattle.hh_sqltables.specs.Forms.{rows_under_keys}
use Rattle.hh_sqltables.specs.Frames.{OfSettledOf, ReadsSettledOf}
use Rattle.hh_sqltables.proofs.many_keys.select_under_each.Given as goal

-- what the values so far select
abbrev pub invariant-asked : goal.invariant-asked
invariant-asked g l =
    let old = state g.S.Store l.fn.conn in
    let now = state g.S.Store l.conn in
    let table = g.T.OfficeTable in
    record {
      frame : ReadsSettledOf {X = Unit {0}} {E = RowFault} table.schema old now (Ok tt);
      selected : OfSettledOf table.schema old now (l.found.items ≡ flat_map (λ a. filter (λ e. g.T.Under.is_under a e.0) (rows_under_keys table.form old.now.trees)) (take l.one-index l.asked));
    }
