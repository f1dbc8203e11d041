use Rattle.hh_devices.specs.DeviceChanges.{change}
use Rattle.hh_kept_office.specs.Places.{places_of, shown_by}
use Rattle.hh_words.specs.Lines.{line_of}
use Rattle.hh_settle.specs.Stops.{StopsLine}
use Rattle.hh_settle.proofs.ResultFacts.{at_err}
use Rattle.hh_settle.proofs.program.run_explained.Goals as goal

pub returns-clause-stopped : goal.returns-clause-stopped
returns-clause-stopped g c one = (
  c.in-Err.stop,
  at_err (StopsLine (g.D.Host.view c.args.host.now) (places_of g.D.DatabaseHost.finds g.D.DatabaseHost.refuses g.D.DatabaseHost.opens g.D.DatabaseHost.closes g.D.DatabaseHost.discards (shown_by g.S.Store) c.args.host.now)
      c.args.strict (change g.O.Sink.taken g.O.Sink.failures c.args.out.now c.perform-ended.new.out) (line_of c.args.command.now)) c.perform-ended.result c.in-Err.stop c.in-Err.is c.perform-ended.ensures.stopped,
  ((c.stopped-status.ensures.one one).0, tt),
)

pub returns-clause-bad_line : goal.returns-clause-bad_line
returns-clause-bad_line g c two =
    let (line, word, same, told) = c.stopped-status.ensures.two two in (
      c.in-Err.stop,
      at_err (StopsLine (g.D.Host.view c.args.host.now) (places_of g.D.DatabaseHost.finds g.D.DatabaseHost.refuses g.D.DatabaseHost.opens g.D.DatabaseHost.closes g.D.DatabaseHost.discards (shown_by g.S.Store) c.args.host.now)
          c.args.strict (change g.O.Sink.taken g.O.Sink.failures c.args.out.now c.perform-ended.new.out) (line_of c.args.command.now)) c.perform-ended.result c.in-Err.stop c.in-Err.is c.perform-ended.ensures.stopped,
      (line, word, same, tt),
    )
