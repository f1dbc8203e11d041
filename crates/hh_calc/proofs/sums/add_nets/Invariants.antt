use Rattle.std.proofs.Common.{◌*◌, take}
use Rattle.std.specs.List.{zip}
use Rattle.hh_calc.specs.steps.Sums.{greatest_credit, with_nets, AreChanged, AreGrown}
use Rattle.hh_calc.proofs.sums.add_nets.Given as goal

-- the net volumes so far are added
abbrev pub invariant-loop-place : goal.invariant-loop-place
invariant-loop-place l = record {
  added : AreChanged l.accounts (with_nets (take l.place (zip l.accounts l.nets))) l.fn.sums l.sums;
  grown : AreGrown (l.place * greatest_credit) l.fn.sums l.sums;
}
