use Rattle.std.proofs.Common.{◌≡◌, map, take, Some}
use Rattle.hh_keyed_rows.specs.KeyedRows.{entry_in}
use Rattle.hh_keyed_rows.proofs.entries.read_entries.Given as goal

-- the rows so far are read as the entries
abbrev pub invariant-loop-row : goal.invariant-loop-row
invariant-loop-row g l = map (entry_in g.K.Columned.codec g.V.Columned.codec) (take l.row-index l.rows) ≡ map Some l.entries.items
