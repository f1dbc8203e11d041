use Rattle.std.proofs.Common.{◌≡◌, map, take}
use Rattle.hh_period.specs.Rows.{in_account_order}
use Rattle.hh_period.proofs.gather.accounts_named.Given as goal

-- the accounts of the rows so far
abbrev pub invariant-loop-row : goal.invariant-loop-row
invariant-loop-row l = l.accounts.keys ≡ in_account_order (map (λ r. r.lead) (take l.row-index l.meters))
