use Rattle.std.proofs.Common.{◌≡◌, ◌<◌, ◌^◌, drop}
use Rattle.hh_num.specs.Fixed.{kept_if, fits_u64}
use Rattle.hh_num.specs.steps.Fixed.{digits_behind}
use Rattle.hh_num.proofs.fixed.digits_behind_front.Given as goal

-- the number so far, with the digits that are left, is the number
abbrev pub invariant-loop-digit : goal.invariant-loop-digit
invariant-loop-digit l = record {
  fits : l.number < 2 ^ 64;
  same : kept_if fits_u64 (digits_behind l.number (drop l.digit-index l.digits)) ≡ kept_if fits_u64 (digits_behind l.fn.front l.fn.digits);
}
