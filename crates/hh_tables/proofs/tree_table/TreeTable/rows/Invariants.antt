use Rattle.std.proofs.Common.{◌≡◌, ◌++◌}
use Rattle.hh_tables.proofs.tree_table.TreeTable.rows.Given as goal

abbrev pub invariant-loop-key : goal.invariant-loop-key
invariant-loop-key g l = l.rows.items ++ l.key-iterator ≡ l.self
