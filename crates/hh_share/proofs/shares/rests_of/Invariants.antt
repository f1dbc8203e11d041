use Rattle.std.proofs.Common.{◌≡◌, map, take, pos}
use Rattle.hh_share.proofs.shares.rests_of.Given as goal

-- the remainders so far
abbrev pub invariant-loop-quota : goal.invariant-loop-quota
invariant-loop-quota l = l.rests.items ≡ map (λ q. pos q.remainder) (take l.quota-index l.quotas)
