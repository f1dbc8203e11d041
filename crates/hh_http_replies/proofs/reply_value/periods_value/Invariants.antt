use Rattle.std.proofs.Common.{◌≡◌, map, take}
use Rattle.serde_json.specs.View.{view}
use Rattle.hh_http_replies.specs.Bodies.{period_body}
use Rattle.hh_http_replies.proofs.reply_value.periods_value.Given as goal

abbrev pub invariant-loop-row : goal.invariant-loop-row
invariant-loop-row l = map view l.values.items ≡ map period_body (take l.row-index l.rows)
