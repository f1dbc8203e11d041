use Rattle.hh_http_replies.specs.Bodies.{kind_data}
use Rattle.hh_http_replies.proofs.ReplyLemmas.{listed}
use Rattle.hh_http_replies.proofs.reply_value.kinds_value.Goals as goal

pub returns : goal.returns
returns c = listed kind_data c.args.kinds.now c.loop-kind.kind-index c.loop-kind.values c.loop-kind-test.false c.loop-kind.auto.kind-index-end c.loop-kind.invariant
