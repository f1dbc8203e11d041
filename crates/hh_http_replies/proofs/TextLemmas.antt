-- Decimals are ASCII.
use Rattle.std.proofs.Common.{◌≡◌, ◌∙◌, ◌<◌, ℕ, ℤ, List, [], ◌∷◌, ◌++◌, Bool, true, false, refl, sym, subst, arith}
use Rattle.std.specs.Prelude.{IsAscii, nat_lt}
use Rattle.std.specs.Char.{is_ascii_digit}
use Rattle.std.specs.List.{list_all}
use Rattle.std.proofs.lemmas.Bool.{and_from, and_parts}
use Rattle.std.proofs.lemmas.Bool.Decides.{nat_tests}
use Rattle.std.proofs.lemmas.List.Folds.{list_all-append}
use Rattle.hh_num.specs.Fixed.{IsFixed, all_digits, are_digits, minus_of, point_and}
use Rattle.hh_names.proofs.AsciiLaws.{all_ascii}

abbrev is_below : ℕ → Bool
is_below b = nat_lt b 128

below : (b : ℕ) → is_below b ≡ true → b < 128
below b h = grind (arith, nat_tests)

digit_below : (b : ℕ) → is_ascii_digit b ≡ true → is_below b ≡ true
digit_below b h = grind (arith, nat_tests)

digits_below : (text : List ℕ) → all_digits text ≡ true → list_all is_below text ≡ true
digits_below [] h = refl
digits_below (b ∷ rest) h =
    let parts = and_parts (is_ascii_digit b) (all_digits rest) h in
    and_from _ _ (digit_below b parts.0) (digits_below rest parts.1)

some_digits_below : (text : List ℕ) → are_digits text ≡ true → list_all is_below text ≡ true
some_digits_below [] h = refl
some_digits_below (b ∷ rest) h = digits_below (b ∷ rest) h

sign_below : (negative : Bool) → list_all is_below (minus_of negative) ≡ true
sign_below true = refl
sign_below false = refl

fraction_below : (text : List ℕ) → all_digits text ≡ true → list_all is_below (point_and text) ≡ true
fraction_below [] h = refl
fraction_below (b ∷ rest) h = digits_below (b ∷ rest) h

joined_below : (xs ys : List ℕ) → list_all is_below xs ≡ true → list_all is_below ys ≡ true → list_all is_below (xs ++ ys) ≡ true
joined_below xs ys h k = list_all-append is_below xs ys ∙ and_from _ _ h k

pub decimal_is_ascii : (decimals : ℕ) (text : List ℕ) (value : ℤ) → IsFixed decimals text value → IsAscii text
decimal_is_ascii decimals text value h =
    let front = joined_below (minus_of h.negative) h.whole (sign_below h.negative) (some_digits_below h.whole h.some_digits) in
    let all = joined_below (minus_of h.negative ++ h.whole) (point_and h.fraction) front (fraction_below h.fraction h.more_digits) in
    all_ascii is_below below text (subst (λ (t : List ℕ). list_all is_below t ≡ true) (sym h.spelled) all)
