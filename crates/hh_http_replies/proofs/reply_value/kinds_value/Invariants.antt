use Rattle.std.proofs.Common.{◌≡◌, map, take}
use Rattle.serde_json.specs.View.{view}
use Rattle.hh_http_replies.specs.Bodies.{kind_data}
use Rattle.hh_http_replies.proofs.reply_value.kinds_value.Given as goal

abbrev pub invariant-loop-kind : goal.invariant-loop-kind
invariant-loop-kind l = map view l.values.items ≡ map kind_data (take l.kind-index l.kinds)
