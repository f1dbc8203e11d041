use Rattle.hh_http_replies.specs.Bodies.{contract_body}
use Rattle.hh_http_replies.proofs.ReplyLemmas.{listed}
use Rattle.hh_http_replies.proofs.reply_value.contract_values.Goals as goal

pub returns : goal.returns
returns c = listed (contract_body c.args.account.now) c.args.rows.now c.loop-row.row-index c.loop-row.values c.loop-row-test.false c.loop-row.auto.row-index-end c.loop-row.invariant
