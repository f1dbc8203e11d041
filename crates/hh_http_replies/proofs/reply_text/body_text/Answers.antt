use Rattle.std.proofs.Common.{◌≡◌, ◌∙◌, false, ap}
use Rattle.std.proofs.lemmas.Result.{IfOk-weaker}
use Rattle.serde_json.specs.View.{view}
use Rattle.serde_json.specs.Written.{compact_text, has_float}
use Rattle.hh_http_replies.specs.Bodies.{reply_body}
use Rattle.hh_http_replies.proofs.ReplyLemmas.{no_float}
use Rattle.hh_http_replies.proofs.reply_text.body_text.Goals as goal

pub returns : goal.returns
returns c =
    let same : view c.in_ok-value.value ≡ reply_body c.args.reply.now = c.in_ok-value.ensures in
    let none : has_float (view c.in_ok-value.value) ≡ false = ap has_float same ∙ no_float c.args.reply.now in
    IfOk-weaker c.to_string.result _ _ (λ s text. text none ∙ ap compact_text same) c.to_string.ensures.text
