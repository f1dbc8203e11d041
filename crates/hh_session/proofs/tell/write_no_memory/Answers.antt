use Rattle.std.specs.Fmt.{digits}
use Rattle.hh_session.proofs.tell.write_no_memory.Goals as goal

pub returns-clause-told : goal.returns-clause-told
unfolding digits
returns-clause-told g c = c.write_whole.ensures.whole

pub returns-clause-cut : goal.returns-clause-cut
unfolding digits
returns-clause-cut g c = c.write_whole.ensures.front
