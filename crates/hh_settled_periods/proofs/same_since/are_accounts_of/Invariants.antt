use Rattle.std.proofs.Common.{◌≡◌, map, take}
use Rattle.hh_settled_periods.proofs.same_since.are_accounts_of.Given as goal

-- the rows so far are of the accounts so far
abbrev pub invariant-loop-place : goal.invariant-loop-place
invariant-loop-place l = map (λ e. e.1.account) (take l.place l.rows) ≡ take l.place l.accounts
