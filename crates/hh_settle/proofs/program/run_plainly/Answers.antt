use Rattle.hh_settle.proofs.program.run_plainly.Goals as goal

pub returns-in-Err-clause-stopped : goal.returns-in-Err-clause-stopped
returns-in-Err-clause-stopped g c one = (c.in-Err.stop, c.in-Err.ensures.stopped, c.stopped.ensures.one one)

pub returns-in-Err-clause-bad_line : goal.returns-in-Err-clause-bad_line
returns-in-Err-clause-bad_line g c two = (c.in-Err.stop, c.in-Err.ensures.stopped, c.stopped.ensures.two two)
