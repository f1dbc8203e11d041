use Rattle.hh_states.specs.Steps.{at_first}
use Rattle.hh_file_life.proofs.LifeLaws.{leaves_new}
use Rattle.hh_file_life.proofs.making.make_office.Goals as goal

pub returns-in-Some-clause-made : goal.returns-in-Some-clause-made
returns-in-Some-clause-made g c clean midnight = (
  at_first c.args.settings c.are_settings.ensures,
  leaves_new g.D.Disk g.met.D.Disk.seen_may_stay c.in-Some.last midnight c.args.settings c.in-Ok-create.connection (c.in-Ok-create.ensures (c.in-Some.ensures.honest clean)) (c.in-Some.ensures.left clean),
)
