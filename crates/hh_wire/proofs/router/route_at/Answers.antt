use Rattle.hh_wire.proofs.RouteLemmas.{found_begins, found_known, no_text, not_found}
use Rattle.hh_wire.proofs.router.route_at.Goals as goal

pub returns-in_default-clause-known : goal.returns-in_default-clause-known
returns-in_default-clause-known c = no_text c.args.target.now c.in_default.ensures.cases.0

pub returns-in-Ok-at-clause-known : goal.returns-in-Ok-at-clause-known
returns-in-Ok-at-clause-known c =
    found_known c.args.router.now c.in-Ok.path.now c.args.target.now c.requires c.in-Ok.ensures.cases.0 _ c.in-Ok-at.ensures.found

pub returns-in-Ok-at-clause-begins : goal.returns-in-Ok-at-clause-begins
returns-in-Ok-at-clause-begins c =
    found_begins c.args.router.now c.in-Ok.path.now c.args.target.now c.requires c.in-Ok.ensures.cases.0 _ c.in-Ok-at.ensures.found

pub returns-in-Err-clause-known : goal.returns-in-Err-clause-known
returns-in-Err-clause-known c =
    not_found c.args.router.now c.in-Ok.path.now c.args.target.now c.requires c.in-Ok.ensures.cases.0 c.in-Err.ensures.missing
