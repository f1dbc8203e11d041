use Rattle.std.proofs.Common.{refl}
use Rattle.hh_bench.proofs.measures.settle_once.Goals as goal

pub settle_period-settled-requires-clause-listed : goal.settle_period-settled-requires-clause-listed
settle_period-settled-requires-clause-listed c = (c.if-not-is_ready.ensures.0 refl).1
