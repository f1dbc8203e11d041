use Rattle.std.proofs.Common.{◌*◌, take}
use Rattle.hh_calc.specs.steps.Sums.{greatest_volume, with_contracts, AreChanged, AreGrown}
use Rattle.hh_calc.proofs.sums.add_contracts.Given as goal

-- the contracts so far are added
abbrev pub invariant-loop-place : goal.invariant-loop-place
invariant-loop-place l = record {
  added : AreChanged l.accounts (with_contracts (take l.place l.contracts)) l.fn.sums l.sums;
  grown : AreGrown (l.place * (2 * greatest_volume)) l.fn.sums l.sums;
}
