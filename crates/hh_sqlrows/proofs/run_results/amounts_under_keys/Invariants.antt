use Rattle.std.proofs.Common.{◌≡◌, map, take}
use Rattle.hh_sqlrows.specs.OfficeTables.{amount_entry}
use Rattle.hh_sqlrows.proofs.run_results.amounts_under_keys.Given as goal

abbrev pub invariant-rows : goal.invariant-rows
invariant-rows l = l.entries.items ≡ map amount_entry (take l.row-index l.rows)
