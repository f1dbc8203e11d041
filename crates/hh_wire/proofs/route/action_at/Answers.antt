use Rattle.std.proofs.Common.{◌∙◌}
use Rattle.hh_wire.proofs.ActionLemmas.{asks_by_route, asks_nothing}
use Rattle.hh_wire.proofs.route.action_at.Goals as goal

pub returns-in-Some : goal.returns-in-Some
returns-in-Some c =
    let found = c.route_at.ensures in
    c.action_of.ensures ∙ asks_by_route c.args.target.now c.args.body c.route_at.result found.known c.in-Some.route c.in-Some.is found.begins

pub returns-in-None : goal.returns-in-None
returns-in-None c = asks_nothing c.args.target.now c.args.body c.route_at.result c.route_at.ensures.known c.in-None.is
