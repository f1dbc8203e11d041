use Rattle.jiff.specs.Words.{plain_zone}
use Rattle.hh_time.specs.Zone.{midnight_in}
use Rattle.hh_file_life.proofs.LifeLaws.{lives_once}
use Rattle.hh_file_life.proofs.life.run_once.Goals as goal

pub returns-clause-life : goal.returns-clause-life
returns-clause-life g c clean s reached read =
    let late = c.in-Some.ensures.honest clean in
    let early = (c.answer-reply.ensures late).0 in
    lives_once g.D.Disk c.args.files (midnight_in (plain_zone c.args.zone.now)) s reached read c.args.command.now c.answer-reply.result.0 c.in-Ok.connection c.answer-reply.result.1 c.in-Some.last
    (c.in-Ok.ensures.opened early) (c.in-Ok.ensures.found early) c.answer-reply.ensures late (c.in-Some.ensures.left clean)
