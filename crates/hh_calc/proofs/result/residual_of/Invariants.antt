use Rattle.std.proofs.Common.{◌≡◌, neg_ℤ, take}
use Rattle.hh_share.specs.Totals.{total}
use Rattle.hh_calc.proofs.result.residual_of.Given as goal

-- minus the sum of the charges so far
abbrev pub invariant-loop-row : goal.invariant-loop-row
invariant-loop-row l = l.residual ≡ neg_ℤ (total (λ r. r.charge) (take l.row-index l.rows))
