-- Reading of numbers with a point.
use Rattle.std.proofs.Common.{◌≡◌, ℕ, zero, suc, ◌+◌, ◌-◌, ◌*◌, ◌^◌, ◌<◌, ◌≤◌, Bool, true, false, cond, ◌&&◌, List, [], ◌∷◌, ◌++◌, length, get_or, drop, Option, Some, None, option_map, refl, ◌∙◌, arith, lit<}
use Rattle.std.specs.Char.{digit_value}
use Rattle.std.specs.Str.Parse.{digits_value_after}
use Rattle.std.proofs.lemmas.Bool.Decides.{nat_tests}
use Rattle.std.proofs.lemmas.List.{at_drop_more}
use Rattle.std.proofs.Math.Nat.{mul-le-mul_left, one-le-pow}
use Rattle.hh_num.specs.Fixed.{units_of, all_digits, kept_if, fits_u64, fits_i64, signed}
use Rattle.hh_num.specs.steps.Fixed.{digits_behind}

-- more digits make no smaller number
pub digits_value_after_ge : (n : ℕ) (ds : List ℕ) → n ≤ digits_value_after 10 n ds
digits_value_after_ge n [] = omega arith
digits_value_after_ge n (d ∷ ds) = omega (arith, digits_value_after_ge (n * 10 + digit_value d) ds)

-- a digit that takes the number to 2 ^ 64 or more leaves no number to read
pub digits_behind_large : (n i : ℕ) (ds : List ℕ) → i < length ds → 2 ^ 64 ≤ n * 10 + (get_or ds i 0 - 48) → kept_if fits_u64 (digits_behind n (drop i ds)) ≡ None
digits_behind_large n i ds lt h =
    at_drop_more (λ xs. kept_if fits_u64 (digits_behind n xs)) ds i 0 lt ∙ one (get_or ds i 0) (drop (i + 1) ds) h
  where
    one : (d : ℕ) (rest : List ℕ) → 2 ^ 64 ≤ n * 10 + (d - 48) → kept_if fits_u64 (digits_behind n (d ∷ rest)) ≡ None
    one d rest past = let k = digits_value_after_ge (n * 10 + digit_value d) rest in grind (arith, nat_tests)

pub digits_value_after-append : (n : ℕ) (xs ys : List ℕ) → digits_value_after 10 n (xs ++ ys) ≡ digits_value_after 10 (digits_value_after 10 n xs) ys
digits_value_after-append n [] ys = refl
digits_value_after-append n (x ∷ xs) ys = digits_value_after-append (n * 10 + digit_value x) xs ys

-- the value of `units_of` if the lengths are right
units_of_is : (decimals : ℕ) (whole fraction : List ℕ) → 0 < length whole → length fraction ≤ decimals
    → units_of decimals whole fraction
    ≡ cond (all_digits whole && all_digits fraction) (Some (digits_value_after 10 (digits_value_after 10 0 whole) fraction * 10 ^ (decimals - length fraction))) None
units_of_is decimals [] fraction some few = absurd (omega arith)
units_of_is decimals (b ∷ whole) fraction some few = let e = digits_value_after-append 0 (b ∷ whole) fraction in grind (arith, nat_tests)

pub scaled_ge : (n k : ℕ) → n ≤ n * 10 ^ k
scaled_ge n k = let p = one-le-pow k 10 (lit< tt) in omega (arith, mul-le-mul_left {m = 1} {n = 10 ^ k} n p)

pub units_of_whole : (decimals : ℕ) (whole fraction : List ℕ) → 0 < length whole → length fraction ≤ decimals
    → kept_if fits_u64 (digits_behind 0 whole) ≡ None → kept_if fits_u64 (units_of decimals whole fraction) ≡ None
units_of_whole decimals whole fraction some few h =
    let v = digits_value_after 10 0 whole in
    let k = digits_value_after_ge v fraction in
    let m = scaled_ge (digits_value_after 10 v fraction) (decimals - length fraction) in
    rw (units_of_is decimals whole fraction some few) (grind (arith, nat_tests))

pub units_of_fraction : (decimals n : ℕ) (whole fraction : List ℕ) → 0 < length whole → length fraction ≤ decimals
    → kept_if fits_u64 (digits_behind 0 whole) ≡ Some n → kept_if fits_u64 (digits_behind n fraction) ≡ None → kept_if fits_u64 (units_of decimals whole fraction) ≡ None
units_of_fraction decimals n whole fraction some few h g =
    let m = scaled_ge (digits_value_after 10 n fraction) (decimals - length fraction) in
    rw (units_of_is decimals whole fraction some few) (grind (arith, nat_tests))

pub units_of_all : (decimals n k : ℕ) (whole fraction : List ℕ) → 0 < length whole → length fraction ≤ decimals
    → kept_if fits_u64 (digits_behind 0 whole) ≡ Some n → kept_if fits_u64 (digits_behind n fraction) ≡ Some k
    → units_of decimals whole fraction ≡ Some (k * 10 ^ (decimals - length fraction))
units_of_all decimals n k whole fraction some few h g = rw (units_of_is decimals whole fraction some few) (grind (arith, nat_tests))

-- a size that fits no u64 gives a number that fits no i64
pub kept_signed_none : (negative : Bool) (units : Option ℕ) → kept_if fits_u64 units ≡ None → kept_if fits_i64 (option_map (signed negative) units) ≡ None
kept_signed_none negative None h = refl
kept_signed_none true (Some zero) h = cc h
kept_signed_none true (Some (suc n)) h = grind (arith, nat_tests)
kept_signed_none false (Some n) h = grind (arith, nat_tests)

pub kept_signed_some : (negative : Bool) (units : Option ℕ) (n : ℕ) → kept_if fits_u64 units ≡ Some n → kept_if fits_i64 (option_map (signed negative) units) ≡ kept_if fits_i64 (Some (signed negative n))
kept_signed_some negative None n h = cc h
kept_signed_some negative (Some k) n h = grind (arith, nat_tests)

pub ruleset kept_signed = (kept_signed_none, kept_signed_some)
