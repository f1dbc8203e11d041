use Rattle.std.proofs.Common.{◌≡◌, ◌++◌, map, take}
use Rattle.hh_states.specs.Content.{result_key}
use Rattle.hh_day.proofs.entries.push_results.Given as goal

-- the rows so far follow those that were there
abbrev pub invariant-loop-row : goal.invariant-loop-row
invariant-loop-row l = l.entries.items ≡ l.fn.entries.items ++ map (λ r. (result_key l.run l.at r, r)) (take l.row-index l.rows)
