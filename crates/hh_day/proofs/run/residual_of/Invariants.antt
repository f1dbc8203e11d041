use Rattle.std.proofs.Common.{◌≡◌, ◌*◌, ◌^◌, ◌≤◌, take}
use Rattle.std.specs.Prelude.{unsigned_abs}
use Rattle.hh_num.specs.Totals.{total}
use Rattle.hh_day.proofs.run.residual_of.Given as goal

-- the sum of the residuals so far, each of which fits 64 bits
abbrev pub invariant-loop-settled : goal.invariant-loop-settled
invariant-loop-settled l = record {
  sum : l.sum ≡ total (λ q. q.1.residual) (take l.settled-index l.day);
  size : unsigned_abs l.sum ≤ l.settled-index * 2 ^ 63;
}
