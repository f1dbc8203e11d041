use Rattle.std.proofs.Common.{take}
use Rattle.hh_devices.specs.DeviceChanges.{change}
use Rattle.hh_reports.specs.Writers.{HasBalances}
use Rattle.hh_reports.proofs.exports.write_balances.Given as goal

-- the parties so far were given
abbrev pub invariant-loop-party : goal.invariant-loop-party
invariant-loop-party g l = HasBalances (change g.S.Sink.taken g.S.Sink.failures l.fn.out l.out) l.writer l.postings (take l.party-index l.parties)
