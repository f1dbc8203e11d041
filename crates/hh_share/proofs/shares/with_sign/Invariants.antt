use Rattle.std.proofs.Common.{◌≡◌, map, take}
use Rattle.hh_share.specs.Shares.{with_sign_of}
use Rattle.hh_share.proofs.shares.with_sign.Given as goal

-- the shares of the sizes so far
abbrev pub invariant-loop-size : goal.invariant-loop-size
invariant-loop-size l = l.shares.items ≡ map (with_sign_of l.fn.total) (take l.size-index l.sizes)
