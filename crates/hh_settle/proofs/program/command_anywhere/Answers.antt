use Rattle.std.proofs.Common.{map}
use Rattle.std.specs.String.{string_bytes}
use Rattle.hh_devices.specs.DeviceChanges.{change}
use Rattle.hh_kept_office.specs.Places.{places_of, shown_by}
use Rattle.hh_settle.proofs.AnyPlaces.{does_any, stops_any}
use Rattle.hh_settle.proofs.program.command_anywhere.Goals as goal

pub returns-clause-done : goal.returns-clause-done
returns-clause-done g c zero =
    does_any (g.D.Host.view c.args.host.now) (places_of g.D.DatabaseHost.finds g.D.DatabaseHost.refuses g.D.DatabaseHost.opens g.D.DatabaseHost.closes g.D.DatabaseHost.discards (shown_by g.S.Store) c.args.host.now)
    c.args.options.strict (map string_bytes c.args.words.now) (change g.O.Sink.taken g.O.Sink.failures c.args.out.now c.command_on.new.out) (c.command_on.ensures.done zero)

pub returns-clause-stopped : goal.returns-clause-stopped
returns-clause-stopped g c one =
    stops_any (g.D.Host.view c.args.host.now) (places_of g.D.DatabaseHost.finds g.D.DatabaseHost.refuses g.D.DatabaseHost.opens g.D.DatabaseHost.closes g.D.DatabaseHost.discards (shown_by g.S.Store) c.args.host.now)
    c.args.options.strict c.args.options.explain (map string_bytes c.args.words.now) (change g.O.Sink.taken g.O.Sink.failures c.args.out.now c.command_on.new.out)
    (change g.E.Sink.taken g.E.Sink.failures c.args.err.now c.command_on.new.err) (c.command_on.ensures.stopped one)
