use Rattle.std.proofs.Common.{◌≡◌, drop}
use Rattle.hh_num.specs.steps.Fixed.{units_behind, AreFew}
use Rattle.hh_num.proofs.fixed.units_of_short.Given as goal

-- the digits so far, with the bytes that are left, write the units, and they are few
abbrev pub invariant-loop-place : goal.invariant-loop-place
invariant-loop-place l = record {
  few : AreFew l.whole (drop l.place l.text);
  same : units_behind l.decimals l.whole (drop l.place l.text) ≡ units_behind l.decimals 0 l.text;
}
