use Rattle.std.proofs.Common.{◌≡◌, ◌++◌, map, take}
use Rattle.hh_states.specs.Content.{credit_key}
use Rattle.hh_day.proofs.entries.push_credits.Given as goal

-- the credits so far follow those that were there
abbrev pub invariant-loop-credit : goal.invariant-loop-credit
invariant-loop-credit l = l.entries.items ≡ l.fn.entries.items ++ map (λ c. (credit_key l.run l.at c, c.credited)) (take l.credit-index l.credits)
