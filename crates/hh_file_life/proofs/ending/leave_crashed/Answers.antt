use Rattle.hh_file_life.proofs.ending.leave_crashed.Goals as goal

pub returns-clause-left : goal.returns-clause-left
returns-clause-left g c clean image may = c.leave-files.ensures.left (c.crash.ensures.honest clean) image (c.crash.ensures.left image may)
