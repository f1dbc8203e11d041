use Rattle.hh_tables.proofs.MergeLaws.{AreFirstUpTo}
use Rattle.hh_tables.proofs.list_table.count_up_to.Given as goal

abbrev pub invariant-loop-count : goal.invariant-loop-count
invariant-loop-count g l = AreFirstUpTo g.K.Ord.cmp l.key l.rows l.count
