use Rattle.std.proofs.Common.{◌*◌, take}
use Rattle.hh_calc.specs.steps.Sums.{greatest_credit, with_credits, AreChanged, AreGrown}
use Rattle.hh_calc.proofs.sums.add_credits.Given as goal

-- the credits so far are added
abbrev pub invariant-loop-credit : goal.invariant-loop-credit
invariant-loop-credit l = record {
  added : AreChanged l.accounts (with_credits l.weighs (take l.credit-index l.credits)) l.fn.sums l.sums;
  grown : AreGrown (l.credit-index * greatest_credit) l.fn.sums l.sums;
}
