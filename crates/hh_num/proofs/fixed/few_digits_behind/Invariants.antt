use Rattle.std.proofs.Common.{◌≡◌, drop}
use Rattle.hh_num.specs.Fixed.{kept_if, fits_u64}
use Rattle.hh_num.specs.steps.Fixed.{digits_behind, AreFew}
use Rattle.hh_num.proofs.fixed.few_digits_behind.Given as goal

-- the number so far, with the digits that are left, is the number, and they are few
abbrev pub invariant-loop-digit : goal.invariant-loop-digit
invariant-loop-digit l = record {
  few : AreFew l.number (drop l.digit-index l.digits);
  same : kept_if fits_u64 (digits_behind l.number (drop l.digit-index l.digits)) ≡ kept_if fits_u64 (digits_behind l.fn.front l.fn.digits);
}
