use Rattle.std.proofs.Common.{◌+◌, subst, sym, take}
use Rattle.hh_beside.specs.DayLaws.{HaveTheSame}
use Rattle.hh_sqlchanges.proofs.TouchLaws.{set_more}
use Rattle.hh_sqlchanges.proofs.touching.set_of.Goals as goal

pub loop-at-preserved : goal.loop-at-preserved
loop-at-preserved c =
    subst (λ keys. HaveTheSame keys (take (c.loop-at.at-index + 1) c.args.periods.now)) (sym c.in_ok-insert.ensures.keys)
    (set_more c.args.periods.now c.loop-at.at-index c.at-item.result c.loop-at.set.keys c.loop-at-test.true c.at-item.is c.loop-at.invariant)
