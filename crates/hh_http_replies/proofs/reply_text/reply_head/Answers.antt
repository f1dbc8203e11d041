use Rattle.std.proofs.lemmas.Result.{IfOk-weaker}
use Rattle.hh_http_replies.proofs.reply_text.reply_head.Goals as goal

pub returns : goal.returns
returns c = IfOk-weaker c.format.result _ _ (λ s e. e) c.format.ensures.ok
