use Rattle.std.proofs.Common.{IsTrue}
use Rattle.sqlite.specs.Held.{state}
use Rattle.hh_sqlrows.proofs.FrameLaws.{commits_none}
use Rattle.hh_sqlmigration.proofs.migrating.settings_of_one.Goals as goal

pub returns-in-Ok-Some-clause-crash : goal.returns-in-Ok-Some-clause-crash
returns-in-Ok-Some-clause-crash g c stands =
    let frame = c.in-Ok-Some.ensures.frame in
    commits_none (state g.S.Store c.args.connection.now) (state g.S.Store c.select.new.conn) frame.faults (frame.crash tt (c.requires.office stands))

pub returns-in-Ok-None-clause-crash : goal.returns-in-Ok-None-clause-crash
returns-in-Ok-None-clause-crash g c stands =
    let frame = c.in-Ok-None.ensures.frame in
    commits_none (state g.S.Store c.args.connection.now) (state g.S.Store c.select.new.conn) frame.faults (frame.crash tt (c.requires.office stands))

pub returns-in-Err-clause-crash : goal.returns-in-Err-clause-crash
returns-in-Err-clause-crash g c stands =
    let frame = c.in-Err.ensures.frame in
    commits_none (state g.S.Store c.args.connection.now) (state g.S.Store c.select.new.conn) frame.faults (frame.crash tt (c.requires.office stands))
