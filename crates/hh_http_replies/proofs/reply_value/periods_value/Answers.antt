use Rattle.std.proofs.Common.{◌∙◌, ap}
use Rattle.hh_http_replies.specs.Bodies.{period_body}
use Rattle.hh_http_replies.proofs.ReplyLemmas.{listed, listed_more}
use Rattle.hh_http_replies.proofs.reply_value.periods_value.Goals as goal

pub returns : goal.returns
returns c = listed period_body c.args.rows.now c.loop-row.row-index c.loop-row.values c.loop-row-test.false c.loop-row.auto.row-index-end c.loop-row.invariant

pub loop-row-preserved : goal.loop-row-preserved
loop-row-preserved c =
    listed_more period_body c.args.rows.now c.loop-row.row-index c.row-item.result c.loop-row.values.items c.push.new.self.items c.in_ok-period_value.field-0
    c.loop-row-test.true c.in_ok-push.ensures.items c.loop-row.invariant (c.in_ok-period_value.ensures ∙ ap period_body c.row-item.is)
