-- Numbers from digits, limited to the greatest of 64 bits.
use Rattle.std.proofs.Common.{◌≡◌, ◌∙◌, ℕ, ◌+◌, ◌-◌, ◌*◌, ◌<◌, Bool, true, false, cond, List, [], ◌∷◌, length, get_or, drop, Option, Some, None, option_map, refl, sym, ap, arith}
use Rattle.std.specs.Char.{digit_value, is_ascii_digit}
use Rattle.std.proofs.lemmas.Bool.Decides.{nat_tests}
use Rattle.std.proofs.lemmas.List.{at_drop_more}
use Rattle.hh_num.specs.steps.Fixed.{digits_behind}
use Rattle.hh_http_heads.specs.Lengths.{saturated}

-- the number that digits write after those of another number
abbrev pub length_behind : ℕ → List ℕ → Option ℕ
length_behind number text = option_map saturated (digits_behind number text)

-- limiting before the next digit gives the same as limiting after it
saturated-more : (n d : ℕ) → saturated (saturated n * 10 + d) ≡ saturated (n * 10 + d)
saturated-more n d = omega arith

-- the digits after a number are read one by one
length_behind-cons : (n d : ℕ) (ds : List ℕ) → length_behind n (d ∷ ds) ≡ cond (is_ascii_digit d) (length_behind (n * 10 + digit_value d) ds) None
length_behind-cons n d ds = by (is_ascii_digit d) refl
  where
    by : (b : Bool) → is_ascii_digit d ≡ b → length_behind n (d ∷ ds) ≡ cond b (length_behind (n * 10 + digit_value d) ds) None
    by true is = rw is refl
    by false is = rw is refl

length_behind-saturated : (n : ℕ) (ds : List ℕ) → length_behind (saturated n) ds ≡ length_behind n ds
length_behind-saturated n [] = let once : saturated (saturated n) ≡ saturated n = omega arith in ap Some once
length_behind-saturated n (d ∷ ds) =
    let more : length_behind (saturated n * 10 + digit_value d) ds ≡ length_behind (n * 10 + digit_value d) ds =
    sym (length_behind-saturated (saturated n * 10 + digit_value d) ds) ∙ ap (λ (m : ℕ). length_behind m ds) (saturated-more n (digit_value d))
    ∙ length_behind-saturated (n * 10 + digit_value d) ds in
    length_behind-cons (saturated n) d ds ∙ ap (λ (o : Option ℕ). cond (is_ascii_digit d) o None) more ∙ sym (length_behind-cons n d ds)

digit_value-digit : (d : ℕ) → is_ascii_digit d ≡ true → digit_value d ≡ d - 48
digit_value-digit d is = grind (arith, nat_tests)

-- one more digit
pub length_more : (n r i : ℕ) (text : List ℕ) → i < length text → is_ascii_digit (get_or text i 0) ≡ true
    → r ≡ saturated (saturated (n * 10) + (get_or text i 0 - 48)) → length_behind r (drop (i + 1) text) ≡ length_behind n (drop i text)
length_more n r i text below is added =
    let d = get_or text i 0 in
    let value : r ≡ saturated (n * 10 + digit_value d) = omega (arith, digit_value-digit d is) in
    ap (λ (m : ℕ). length_behind m (drop (i + 1) text)) value ∙ length_behind-saturated (n * 10 + digit_value d) (drop (i + 1) text)
    ∙ sym (ap (λ (b : Bool). cond b (length_behind (n * 10 + digit_value d) (drop (i + 1) text)) None) is)
    ∙ sym (length_behind-cons n d (drop (i + 1) text)) ∙ sym (at_drop_more (length_behind n) text i 0 below)
