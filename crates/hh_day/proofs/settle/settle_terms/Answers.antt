use Rattle.std.proofs.Common.{◌∙◌, ap, Err}
use Rattle.hh_day.proofs.SettleLaws.{settles_beyond, settles_within}
use Rattle.hh_day.proofs.settle.settle_terms.Goals as goal

pub settle_period-requires-clause-listed : goal.settle_period-requires-clause-listed
settle_period-requires-clause-listed c = (c.is_ready.ensures.0 c.if-not-is_ready.false).1

pub returns-in-Ok-clause-settles : goal.returns-in-Ok-clause-settles
returns-in-Ok-clause-settles c =
    settles_within c.settled_in_one_way.ensures c.nets_settle_alike.ensures.alike c.args.at.now c.args.terms.now _ (c.is_ready.ensures.0 c.if-not-is_ready.false) c.in-Ok.ensures.within c.in-Ok.ensures.settled

pub returns-in-Err-TooLarge-clause-settles : goal.returns-in-Err-TooLarge-clause-settles
returns-in-Err-TooLarge-clause-settles c =
    settles_beyond c.nets_settle_alike.ensures.alike c.args.at.now c.args.terms.now (c.settle_period.ensures.too_large (c.in-Err-TooLarge.is ∙ ap Err c.in-Err-TooLarge.field-0-is))
