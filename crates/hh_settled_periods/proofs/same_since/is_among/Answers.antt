use Rattle.std.proofs.Common.{rules, sym}
use Rattle.hh_settled_periods.proofs.SameLaws.{not_yet_among, now_among}
use Rattle.hh_settled_periods.proofs.same_since.is_among.Goals as goal

pub returns-then-is_eq : goal.returns-then-is_eq
returns-then-is_eq c =
    sym (now_among c.args.at.now c.args.periods.now c.loop-period.period-index c.period-item.result c.loop-period-test.true c.period-item.is (search (rules, c.if-is_eq.true, c.is_eq.ensures, c.cmp.ensures)))

pub loop-period-preserved : goal.loop-period-preserved
loop-period-preserved c =
    not_yet_among c.args.at.now c.args.periods.now c.loop-period.period-index c.period-item.result c.loop-period-test.true c.period-item.is c.loop-period.invariant (search (rules, c.if-is_eq.false, c.is_eq.ensures, c.cmp.ensures))
