-- Units that are read in one pass over a text.
use Rattle.std.proofs.Common.{◌≡◌, ℕ, suc, ◌+◌, ◌-◌, ◌*◌, ◌^◌, ◌<◌, ◌≤◌, Bool, true, false, cond, ltb, List, [], ◌∷◌, ◌++◌, length, get_or, take, drop, Option, Some, None, refl, sym, ap, ◌∙◌, arith, append-nil, append_assoc, length-append, position, option_map}
use Rattle.std.proofs.lemmas.Bool.Decides.{nat_tests}
use Rattle.std.proofs.Math.Nat.{sub-zero}
use Rattle.std.proofs.lemmas.List.Folds.{list_all-append}
use Rattle.std.specs.Char.{is_ascii_digit, digit_value}
use Rattle.std.specs.List.{position_or_len}
use Rattle.std.specs.Str.Parse.{digits_value_after, digits_value}
use Rattle.hh_num.specs.Fixed.{all_digits, is_point, units_of, units_at, unsigned_units, kept_if, fits_u64}
use Rattle.hh_num.specs.steps.Fixed.{digits_behind, units_behind, units_with_fraction}
use Rattle.hh_num.proofs.FixedFacts.{digits_value_after-append, scaled_ge}
use Rattle.hh_num.proofs.GrammarFacts.{unsigned_units-whole, unsigned_units-point, units_of-good, place-digits, digit_no_point, digits-cons, are-from-all}

-- the units of a number with a fraction, if the fraction's length is right
fraction_is : (decimals whole : ℕ) (fraction : List ℕ) → 0 < length fraction → length fraction ≤ decimals
    → units_with_fraction decimals whole fraction
    ≡ cond (all_digits fraction) (Some (digits_value_after 10 whole fraction * 10 ^ (decimals - length fraction))) None
fraction_is decimals whole [] some few = absurd (omega arith)
fraction_is decimals whole (b ∷ bytes) some few = grind (arith, nat_tests)

-- a fraction that is empty or too long
pub fraction_wrong : (decimals whole : ℕ) (fraction : List ℕ) → length fraction ≡ 0 → units_with_fraction decimals whole fraction ≡ None
fraction_wrong decimals whole [] none = refl
fraction_wrong decimals whole (b ∷ bytes) none = absurd (omega arith)

pub fraction_long : (decimals whole : ℕ) (fraction : List ℕ) → decimals < length fraction → units_with_fraction decimals whole fraction ≡ None
fraction_long decimals whole [] long = refl
fraction_long decimals whole (b ∷ bytes) long = grind (arith, nat_tests)

-- a fraction whose number fits no u64, or with a byte that is no digit
pub fraction_none : (decimals whole : ℕ) (fraction : List ℕ) → 0 < length fraction → length fraction ≤ decimals
    → kept_if fits_u64 (digits_behind whole fraction) ≡ None → kept_if fits_u64 (units_with_fraction decimals whole fraction) ≡ None
fraction_none decimals whole fraction some few h =
    let m = scaled_ge (digits_value_after 10 whole fraction) (decimals - length fraction) in
    rw (fraction_is decimals whole fraction some few) (grind (arith, nat_tests))

pub fraction_some : (decimals whole n : ℕ) (fraction : List ℕ) → 0 < length fraction → length fraction ≤ decimals
    → kept_if fits_u64 (digits_behind whole fraction) ≡ Some n → units_with_fraction decimals whole fraction ≡ Some (n * 10 ^ (decimals - length fraction))
fraction_some decimals whole n fraction some few h = rw (fraction_is decimals whole fraction some few) (grind (arith, nat_tests))

pub ruleset fraction_units = (fraction_wrong, fraction_long, fraction_none, fraction_some)

-- the first point, looked for past a byte that is no point
past_one : (b : ℕ) (xs : List ℕ) → is_point b ≡ false → position is_point (b ∷ xs) ≡ option_map suc (position is_point xs)
past_one b xs no_point =
    let e : position_or_len is_point (b ∷ xs) ≡ suc (position_or_len is_point xs) = rw no_point (omega arith) in
    grind (arith, nat_tests)

-- the bytes before the first point are not all digits
not_all : (whole bytes : List ℕ) (b p : ℕ) → all_digits whole ≡ true → is_ascii_digit b ≡ false → is_point b ≡ false
    → position is_point (whole ++ b ∷ bytes) ≡ Some p → all_digits (take p (whole ++ b ∷ bytes)) ≡ false
not_all [] bytes b p digits other no_point e = go (position is_point bytes) (sym (past_one b bytes no_point) ∙ e)
  where
    go : (o : Option ℕ) → option_map suc o ≡ Some p → all_digits (take p (b ∷ bytes)) ≡ false
    go None h = cc h
    go (Some q) h = let e : p ≡ suc q = cc h in rw e (rw other refl)
not_all (w ∷ whole) bytes b p digits other no_point e =
    let (first, more) = digits-cons w whole digits in
    go first (λ q. not_all whole bytes b q more other no_point) (position is_point (whole ++ b ∷ bytes)) refl (sym (past_one w (whole ++ b ∷ bytes) (digit_no_point w first)) ∙ e)
  where
    go : is_ascii_digit w ≡ true → ((q : ℕ) → position is_point (whole ++ b ∷ bytes) ≡ Some q → all_digits (take q (whole ++ b ∷ bytes)) ≡ false)
        → (o : Option ℕ) → position is_point (whole ++ b ∷ bytes) ≡ o → option_map suc o ≡ Some p → all_digits (take p (w ∷ whole ++ b ∷ bytes)) ≡ false
    go first more None h k = cc k
    go first more (Some q) h k =
        let e : p ≡ suc q = cc k in
        let rest = more q h in
        rw e (rw (first, rest) refl)

-- a text that is not all digits has no units
no_units : (decimals : ℕ) (whole fraction : List ℕ) → all_digits whole ≡ false → units_of decimals whole fraction ≡ None
no_units decimals [] fraction other = refl
no_units decimals (b ∷ bytes) fraction other = rw other refl

either_none : (past : Bool) → cond {A = Option ℕ} past None None ≡ None
either_none true = refl
either_none false = refl

-- digits, then a byte that is neither a digit nor a point
other_none : (decimals b : ℕ) (whole bytes : List ℕ) → all_digits whole ≡ true → is_ascii_digit b ≡ false → is_point b ≡ false
    → unsigned_units decimals (whole ++ b ∷ bytes) ≡ None
unfolding unsigned_units
other_none decimals b whole bytes digits other no_point = go (position is_point (whole ++ b ∷ bytes)) refl
  where
    text : List ℕ
    text = whole ++ b ∷ bytes

    go : (o : Option ℕ) → position is_point text ≡ o → units_at decimals text o ≡ None
    go None e = no_units decimals text [] (list_all-append is_ascii_digit whole (b ∷ bytes) ∙ rw (digits, other) refl)
    go (Some p) e =
        let none = no_units decimals (take p text) (drop (p + 1) text) (not_all whole bytes b p digits other no_point e) in
        rw none (either_none (ltb (p + 1) (length text)))

-- a text with digits and then a point alone
point_none : (decimals : ℕ) (whole : List ℕ) → all_digits whole ≡ true → unsigned_units decimals (whole ++ 46 ∷ []) ≡ None
unfolding unsigned_units
point_none decimals whole digits =
    let place = place-digits whole [] digits in
    let size = length-append whole (46 ∷ []) in
    let some : position is_point (whole ++ 46 ∷ []) ≡ Some (length whole) = grind (arith, nat_tests) in
    let outside : ltb (length whole + 1) (length (whole ++ 46 ∷ [])) ≡ false = grind (arith, nat_tests) in
    ap (units_at decimals (whole ++ 46 ∷ [])) some ∙ rw outside refl

-- a fraction behind digits
fraction_behind : (decimals b : ℕ) (whole bytes : List ℕ) → 0 < length whole → all_digits whole ≡ true
    → units_of decimals whole (b ∷ bytes) ≡ units_with_fraction decimals (digits_value 10 whole) (b ∷ bytes)
fraction_behind decimals b whole bytes some digits =
    let are = are-from-all whole digits some in
    let value = digits_value_after-append 0 whole (b ∷ bytes) in
    rw (are, value) refl

-- the units of a text, read from a place behind some of its digits
behind : (decimals : ℕ) (whole rest : List ℕ) → 0 < length whole → all_digits whole ≡ true
    → unsigned_units decimals (whole ++ rest) ≡ units_behind decimals (digits_value 10 whole) rest
behind decimals whole [] some digits =
    ap (unsigned_units decimals) (append-nil whole) ∙ unsigned_units-whole decimals whole digits
    ∙ units_of-good decimals whole [] (are-from-all whole digits some) refl (omega arith)
    ∙ ap (λ w. Some (digits_value 10 w * 10 ^ (decimals - 0))) (append-nil whole) ∙ ap (λ k. Some (digits_value 10 whole * 10 ^ k)) (sub-zero decimals)
behind decimals whole (b ∷ bytes) some digits =
    let size : 0 < length (whole ++ b ∷ []) = omega (arith, length-append whole (b ∷ [])) in
    go (behind decimals (whole ++ b ∷ []) bytes size) (is_point b) refl (is_ascii_digit b) refl
  where
    alone : (more : List ℕ) → unsigned_units decimals (whole ++ 46 ∷ more) ≡ units_with_fraction decimals (digits_value 10 whole) more
    alone [] = point_none decimals whole digits
    alone (c ∷ more) = unsigned_units-point decimals c whole more digits ∙ fraction_behind decimals c whole more some digits

    go : (all_digits (whole ++ b ∷ []) ≡ true → unsigned_units decimals ((whole ++ b ∷ []) ++ bytes) ≡ units_behind decimals (digits_value 10 (whole ++ b ∷ [])) bytes)
        → (p : Bool) → is_point b ≡ p → (d : Bool) → is_ascii_digit b ≡ d
        → unsigned_units decimals (whole ++ b ∷ bytes) ≡ cond p (units_with_fraction decimals (digits_value 10 whole) bytes) (cond d (units_behind decimals (digits_value 10 whole * 10 + digit_value b) bytes) None)
    go next true point d digit = let here : b ≡ 46 = grind (arith, nat_tests) in ap (λ x. unsigned_units decimals (whole ++ x ∷ bytes)) here ∙ alone bytes
    go next false no_point true digit =
        let more : all_digits (whole ++ b ∷ []) ≡ true = list_all-append is_ascii_digit whole (b ∷ []) ∙ rw (digits, digit) refl in
        ap (unsigned_units decimals) (sym (append_assoc whole (b ∷ []) bytes)) ∙ next more
        ∙ ap (λ n. units_behind decimals n bytes) (digits_value_after-append 0 whole (b ∷ []))
    go next false no_point false other = other_none decimals b whole bytes digits other no_point

-- the units of a text, read byte by byte
pub unsigned_units-behind : (decimals : ℕ) (text : List ℕ) → 0 < length text → is_point (get_or text 0 0) ≡ false
    → unsigned_units decimals text ≡ units_behind decimals 0 text
unsigned_units-behind decimals [] some no_point = absurd (omega arith)
unsigned_units-behind decimals (b ∷ bytes) some no_point = go (is_ascii_digit b) refl
  where
    go : (d : Bool) → is_ascii_digit b ≡ d → unsigned_units decimals (b ∷ bytes) ≡ units_behind decimals 0 (b ∷ bytes)
    go true digit = behind decimals (b ∷ []) bytes (omega arith) (rw digit refl) ∙ sym (rw (no_point, digit) refl)
    go false other = other_none decimals b [] bytes refl other no_point ∙ sym (rw (no_point, other) refl)

-- no text, and a text that begins with a point
pub unsigned_units-empty : (decimals : ℕ) (text : List ℕ) → length text ≡ 0 → unsigned_units decimals text ≡ None
unfolding unsigned_units
unsigned_units-empty decimals [] none = refl
unsigned_units-empty decimals (b ∷ bytes) none = absurd (omega arith)

pub unsigned_units-no_digit : (decimals : ℕ) (text : List ℕ) → is_point (get_or text 0 0) ≡ true → unsigned_units decimals text ≡ None
unfolding unsigned_units
unsigned_units-no_digit decimals [] point = cc point
unsigned_units-no_digit decimals (b ∷ bytes) point =
    let e : position_or_len is_point (b ∷ bytes) ≡ 0 = rw point refl in
    let first : position is_point (b ∷ bytes) ≡ Some 0 = grind (arith, nat_tests) in
    ap (units_at decimals (b ∷ bytes)) first ∙ either_none (ltb 1 (length (b ∷ bytes)))

pub ruleset unsigned_units_by_front = (unsigned_units-behind, unsigned_units-empty, unsigned_units-no_digit)
