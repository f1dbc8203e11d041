use Rattle.hh_tables.proofs.OrderLaws.{RisesUpTo}
use Rattle.hh_tables.proofs.list_table.are_rising.Given as goal

abbrev pub invariant-loop-place : goal.invariant-loop-place
invariant-loop-place g l = RisesUpTo g.K.Ord.cmp l.rows l.place
