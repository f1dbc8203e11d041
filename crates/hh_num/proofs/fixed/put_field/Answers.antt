use Rattle.std.proofs.Common.{arith, to_z-of_z, ap, ◌∙◌, take}
use Rattle.hh_num.proofs.RoomFacts.{field_put}
use Rattle.hh_num.proofs.fixed.put_field.Goals as goal

pub returns-clause-written : goal.returns-clause-written
returns-clause-written c =
    let text = rw (to_z-of_z c.ranges.units) at c.put_fixed.ensures.written in
    let blank = c.put_fixed.ensures.before ∙ ap (take c.put_fixed.result) c.requires.blank in
    field_put c.args.mark c.args.width c.put_fixed.result c.min-start.result c.put_fixed.new.room _ c.requires.narrow c.put_fixed.ensures.start c.min-start.ensures (omega arith) text blank
