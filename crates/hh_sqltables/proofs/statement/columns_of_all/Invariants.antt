use Rattle.std.proofs.Common.{◌≡◌, take}
use Rattle.std.specs.List.{AllByRecursion, flat_map}
use Rattle.sqlite.specs.Values.{bound}
use Rattle.hh_keyed_rows.specs.KeyedRows.{columns_of}
use Rattle.hh_keyed_rows.specs.Laws.{Fits}
use Rattle.hh_sqltables.proofs.statement.columns_of_all.Given as goal

abbrev pub invariant-entries : goal.invariant-entries
invariant-entries g l =
    let done = take l.entry-index l.entries in
    (bound l.columns.items ≡ flat_map (columns_of g.K.Columned.codec g.V.Columned.codec) done)
    × AllByRecursion (Fits g.K.Columned.codec g.V.Columned.codec) done
