use Rattle.hh_tests_market.proofs.settled_tests.settled.Goals as goal

pub settle_period-requires-clause-listed : goal.settle_period-requires-clause-listed
settle_period-requires-clause-listed c = (c.is_ready.ensures.0 c.if-is_ready.true).1
