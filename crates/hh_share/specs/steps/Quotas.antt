-- The quotas that the code keeps.
use Rattle.std.specs.Prelude.{ℕ, List}
use Rattle.hh_share.specs.declared.shares.Quota.{Quota}
use Rattle.hh_share.specs.Shares.{lower_quota, remainder}

-- the quota of a weight
abbrev pub quota_for : ℕ → List ℕ → ℕ → Quota
quota_for size weights weight = record { lower = lower_quota size weights weight; remainder = remainder size weights weight }
