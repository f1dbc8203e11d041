use Rattle.std.proofs.Common.{◌≡◌, ◌*◌, ◌≤◌, true, map, take}
use Rattle.std.specs.Prelude.{neg_ℤ, unsigned_abs}
use Rattle.hh_share.specs.Totals.{total}
use Rattle.hh_calc.specs.Formulas.{figures, period_sums}
use Rattle.hh_calc.specs.Limits.{are_accounts_within, greatest_cash}
use Rattle.hh_calc.proofs.settle.charged_accounts.Given as goal

-- the figures and the weights of the accounts so far, within the limits, and minus the sum of their charges
abbrev pub invariant-loop-place : goal.invariant-loop-place
invariant-loop-place l = record {
  charged : l.figures.items ≡ map (figures l.period) (take l.place l.period.accounts);
  weighed : l.weights.items ≡ map (λ a. (period_sums l.period a).weight) (take l.place l.period.accounts);
  within : are_accounts_within l.period (take l.place l.period.accounts) ≡ true;
  residual : l.residual ≡ neg_ℤ (total (λ a. (figures l.period a).charge) (take l.place l.period.accounts));
  small : unsigned_abs l.residual ≤ l.place * greatest_cash;
}
