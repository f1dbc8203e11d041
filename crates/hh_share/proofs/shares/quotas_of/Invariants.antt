use Rattle.std.proofs.Common.{◌≡◌, map, take}
use Rattle.hh_share.specs.steps.Quotas.{quota_for}
use Rattle.hh_share.proofs.shares.quotas_of.Given as goal

-- the quotas of the weights so far
abbrev pub invariant-loop-weight : goal.invariant-loop-weight
invariant-loop-weight l = l.quotas.items ≡ map (quota_for l.size l.weights) (take l.weight-index l.weights)
