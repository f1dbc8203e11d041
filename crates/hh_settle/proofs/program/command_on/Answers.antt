use Rattle.std.proofs.Common.{map}
use Rattle.std.specs.String.{string_bytes}
use Rattle.hh_kept_office.specs.Places.{places_of, shown_by}
use Rattle.hh_words.specs.Lines.{line_of}
use Rattle.hh_settle.proofs.CommandFacts.{stops_so, wrong_so}
use Rattle.hh_settle.proofs.program.command_on.Goals as goal

pub returns-in-Ok-clause-stopped : goal.returns-in-Ok-clause-stopped
returns-in-Ok-clause-stopped g c one =
    stops_so (g.D.Host.view c.args.host.now) (places_of g.D.DatabaseHost.finds g.D.DatabaseHost.refuses g.D.DatabaseHost.opens g.D.DatabaseHost.closes g.D.DatabaseHost.discards (shown_by g.S.Store) c.args.host.now)
    c.args.options.strict c.args.options.explain (map string_bytes c.args.words.now) (line_of c.in-Ok.command) c.in-Ok.ensures.command _ _ (c.run_command.ensures.stopped one)

pub returns-in-Ok-clause-wrong : goal.returns-in-Ok-clause-wrong
returns-in-Ok-clause-wrong g c two =
    wrong_so (g.D.Host.view c.args.host.now) (places_of g.D.DatabaseHost.finds g.D.DatabaseHost.refuses g.D.DatabaseHost.opens g.D.DatabaseHost.closes g.D.DatabaseHost.discards (shown_by g.S.Store) c.args.host.now)
    c.args.options.strict c.args.options.explain (map string_bytes c.args.words.now) (line_of c.in-Ok.command) c.in-Ok.ensures.command _ _ (c.run_command.ensures.bad_line two)
