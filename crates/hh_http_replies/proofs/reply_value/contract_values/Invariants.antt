use Rattle.std.proofs.Common.{◌≡◌, map, take}
use Rattle.serde_json.specs.View.{view}
use Rattle.hh_http_replies.specs.Bodies.{contract_body}
use Rattle.hh_http_replies.proofs.reply_value.contract_values.Given as goal

abbrev pub invariant-loop-row : goal.invariant-loop-row
invariant-loop-row l = map view l.values.items ≡ map (contract_body l.account) (take l.row-index l.rows)
