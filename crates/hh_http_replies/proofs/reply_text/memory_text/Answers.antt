use Rattle.std.proofs.Common.{◌≡◌, ◌∙◌, refl, sym, ap, true, false, codes}
use Rattle.std.specs.Fmt.{digits}
use Rattle.serde_json.proofs.OnLiterals.{serde_json_on_literals}
use Rattle.hh_http_replies.specs.ReplyText.{memory_text}
use Rattle.hh_http_replies.proofs.reply_text.memory_text.Goals as goal

head : codes "HTTP/1.1 503 Service Unavailable\r\nContent-Type: application/json\r\nContent-Length: 30\r\nConnection: close\r\n\r\n" ≡ memory_text true
unfolding digits serde_json_on_literals
head = refl

reply : codes "HTTP/1.1 503 Service Unavailable\r\nContent-Type: application/json\r\nContent-Length: 30\r\nConnection: close\r\n\r\n{\"name\":\"Memory\",\"refused\":90}" ≡ memory_text false
unfolding digits serde_json_on_literals
reply = refl

pub returns-then-head_only : goal.returns-then-head_only
returns-then-head_only c = head ∙ ap memory_text (sym c.if-head_only.true)

pub returns-else-head_only : goal.returns-else-head_only
returns-else-head_only c = reply ∙ ap memory_text (sym c.if-head_only.false)
