use Rattle.std.proofs.Common.{◌≡◌, ℕ, ◌<◌, [], length, get_or}
use Rattle.std.specs.Global.{Vec}
use Rattle.hh_names.specs.declared.values.Contract.{Contract}
use Rattle.hh_kept_rows.proofs.contracts_by_period.no_contracts.Given as goal

-- the Settlement Periods so far have no contracts
abbrev pub invariant-loop : goal.invariant-loop
invariant-loop l = record {
  count : length l.periods.items ≡ l.counter;
  empty : (place : ℕ) (d : Vec Contract) → place < l.counter → (get_or l.periods.items place d).items ≡ [];
}
