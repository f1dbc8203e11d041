-- The grammar of numbers with a point, and how a text in it is read.
use Rattle.std.proofs.Common.{◌≡◌, ℕ, zero, suc, ◌+◌, ◌-◌, ◌*◌, ◌^◌, ◌/◌, ◌%◌, ◌<◌, ◌≤◌, Bool, true, false, cond, ◌&&◌, ltb, leb, eqb, List, [], ◌∷◌, ◌++◌, length, get_or, take, drop, Option, Some, None, option_map, refl, sym, ap, ◌∙◌, arith, add-one, append-nil, append_assoc, length-append, length-drop, take-append-drop, ℤ, pos, negsuc, unsigned_abs, position, IfSome, IfNone, FitsSigned, w64}
use Rattle.std.proofs.lemmas.Grind.{common_steps}
use Rattle.std.proofs.lemmas.Bool.Decides.{nat_tests}
use Rattle.std.proofs.lemmas.List.Quantifiers.{position-Some}
use Rattle.std.proofs.Math.Seq.{drop-cons}
use Rattle.std.specs.Char.{is_ascii_digit, digit_value}
use Rattle.std.specs.Str.Parse.{digits_value_after, digits_value}
use Rattle.std.specs.List.{position_or_len}
use Rattle.hh_num.specs.Fixed.{all_digits, are_digits, is_point, units_of, units_at, unsigned_units, fixed_value, signed, minus_of, point_and, IsFixed, kept_if, fits_i64, last_digits, is_negative, fixed_text}
use Rattle.hh_num.proofs.FixedFacts.{digits_value_after-append}
use Rattle.std.proofs.lemmas.Fmt.{decimal_by_steps}
use Rattle.std.proofs.Math.Nat.{div-div-eq-div-mul, div-le_self, sub_self}
use Rattle.std.specs.Fmt.{decimal}

pub digit_no_point : (b : ℕ) → is_ascii_digit b ≡ true → is_point b ≡ false
digit_no_point b h = grind (arith, nat_tests)

and_true : (a b : Bool) → (a && b) ≡ true → (a ≡ true) × (b ≡ true)
and_true true b h = (refl, h)
and_true false b h = cc h

-- a list of digits, taken apart
pub digits-cons : (b : ℕ) (bs : List ℕ) → all_digits (b ∷ bs) ≡ true → (is_ascii_digit b ≡ true) × (all_digits bs ≡ true)
digits-cons b bs h = and_true (is_ascii_digit b) (all_digits bs) h

-- the first point behind digits
pub place-digits : (ds rest : List ℕ) → all_digits ds ≡ true → position_or_len is_point (ds ++ 46 ∷ rest) ≡ length ds
place-digits [] rest h = refl
place-digits (d ∷ ds) rest h =
    let (digit, digits) = digits-cons d ds h in
    let no_point = digit_no_point d digit in
    let more = place-digits ds rest digits in
    rw (no_point) (omega arith)

place-none : (ds : List ℕ) → all_digits ds ≡ true → position_or_len is_point ds ≡ length ds
place-none [] h = refl
place-none (d ∷ ds) h =
    let (digit, digits) = digits-cons d ds h in
    let no_point = digit_no_point d digit in
    let more = place-none ds digits in
    rw (no_point) (omega arith)

all-from-are : (ds : List ℕ) → are_digits ds ≡ true → all_digits ds ≡ true
all-from-are [] h = refl
all-from-are (d ∷ ds) h = h

drop-behind : (xs : List ℕ) (x : ℕ) (rest : List ℕ) → drop (length xs + 1) (xs ++ x ∷ rest) ≡ rest
drop-behind [] x rest = refl
drop-behind (y ∷ ys) x rest = simp add-one (simp add-one at (drop-behind ys x rest))

-- a text of digits alone, and a text of digits before and behind a point
pub unsigned_units-whole : (decimals : ℕ) (whole : List ℕ) → all_digits whole ≡ true → unsigned_units decimals whole ≡ units_of decimals whole []
unfolding unsigned_units
unsigned_units-whole decimals whole h =
    let place = place-none whole h in
    let none : position is_point whole ≡ None = grind (arith, nat_tests) in
    ap (units_at decimals whole) none

pub unsigned_units-point : (decimals b : ℕ) (whole bytes : List ℕ) → all_digits whole ≡ true → unsigned_units decimals (whole ++ 46 ∷ b ∷ bytes) ≡ units_of decimals whole (b ∷ bytes)
unfolding unsigned_units
unsigned_units-point decimals b whole bytes h =
    let text = whole ++ 46 ∷ b ∷ bytes in
    let place = place-digits whole (b ∷ bytes) h in
    let size = length-append whole (46 ∷ b ∷ bytes) in
    let some : position is_point text ≡ Some (length whole) = grind (arith, nat_tests) in
    let inside : ltb (length whole + 1) (length text) ≡ true = grind (arith, nat_tests) in
    let front : take (length whole) text ≡ whole = grind (arith, common_steps) in
    let back : drop (length whole + 1) text ≡ b ∷ bytes = drop-behind whole 46 (b ∷ bytes) in
    ap (units_at decimals text) some ∙ rw (inside, front, back) refl

pub units_of-good : (decimals : ℕ) (whole fraction : List ℕ) → are_digits whole ≡ true → all_digits fraction ≡ true → length fraction ≤ decimals
    → units_of decimals whole fraction ≡ Some (digits_value 10 (whole ++ fraction) * 10 ^ (decimals - length fraction))
units_of-good decimals whole fraction w f few = let fits : leb (length fraction) decimals ≡ true = grind (arith, nat_tests) in rw (w, f, fits) refl

-- a text with no sign
unsigned_units-body : (decimals : ℕ) (whole fraction : List ℕ) → are_digits whole ≡ true → all_digits fraction ≡ true → length fraction ≤ decimals
    → unsigned_units decimals (whole ++ point_and fraction) ≡ Some (digits_value 10 (whole ++ fraction) * 10 ^ (decimals - length fraction))
unsigned_units-body decimals whole [] w f few =
    ap (unsigned_units decimals) (append-nil whole) ∙ unsigned_units-whole decimals whole (all-from-are whole w) ∙ units_of-good decimals whole [] w f few
unsigned_units-body decimals whole (b ∷ bytes) w f few =
    unsigned_units-point decimals b whole bytes (all-from-are whole w) ∙ units_of-good decimals whole (b ∷ bytes) w f few

pub fixed_value-from : (decimals : ℕ) (text : List ℕ) (v : ℤ) → IsFixed decimals text v → fixed_value decimals text ≡ Some v
unfolding fixed_value
fixed_value-from decimals text v h = rw (h.spelled, h.valued) (go h.negative h.whole h.fraction h.some_digits h.more_digits h.few)
  where
    go : (negative : Bool) (whole fraction : List ℕ) → are_digits whole ≡ true → all_digits fraction ≡ true → length fraction ≤ decimals
        → fixed_value decimals (minus_of negative ++ whole ++ point_and fraction) ≡ Some (signed negative (digits_value 10 (whole ++ fraction) * 10 ^ (decimals - length fraction)))
    go true whole fraction w f few = ap (option_map (signed true)) (unsigned_units-body decimals whole fraction w f few)
    go false [] fraction w f few = cc w
    go false (b ∷ bs) fraction w f few =
        let digit = digits-cons b bs w in
        let other : eqb b 45 ≡ false = grind (arith, nat_tests) in
        rw other (ap (option_map (signed false)) (unsigned_units-body decimals (b ∷ bs) fraction w f few))

-- a text with no sign, split into its parts
record Parts (decimals : ℕ) (text : List ℕ) (n : ℕ) : Type 0 where
  whole : List ℕ
  fraction : List ℕ
  spelled : text ≡ whole ++ point_and fraction
  some_digits : are_digits whole ≡ true
  more_digits : all_digits fraction ≡ true
  few : length fraction ≤ decimals
  valued : n ≡ digits_value 10 (whole ++ fraction) * 10 ^ (decimals - length fraction)

parts-from : (decimals n : ℕ) (text whole fraction : List ℕ) → text ≡ whole ++ point_and fraction → units_of decimals whole fraction ≡ Some n → Parts decimals text n
parts-from decimals n text whole fraction e h = go (are_digits whole) refl (all_digits fraction) refl (leb (length fraction) decimals) refl h
  where
    go : (w : Bool) → are_digits whole ≡ w → (f : Bool) → all_digits fraction ≡ f → (l : Bool) → leb (length fraction) decimals ≡ l
        → cond (w && f && l) (Some (digits_value 10 (whole ++ fraction) * 10 ^ (decimals - length fraction))) None ≡ Some n → Parts decimals text n
    go true a true b true d k = record { whole = whole; fraction = fraction; spelled = e; some_digits = a; more_digits = b; few = grind (arith, nat_tests, d); valued = cc k }
    go false a f b l d k = cc k
    go true a false b l d k = cc k
    go true a true b false d k = cc k

parts-of : (decimals n : ℕ) (text : List ℕ) → unsigned_units decimals text ≡ Some n → Parts decimals text n
unfolding unsigned_units
parts-of decimals n text h = go (position is_point text) refl h
  where
    at : (point : ℕ) (rest : List ℕ) → position is_point text ≡ Some point → drop (point + 1) text ≡ rest → point + 1 < length text → units_of decimals (take point text) rest ≡ Some n → Parts decimals text n
    at point [] p e lt k = absurd (omega (arith, length-drop (point + 1) text, ap length e))
    at point (b ∷ bytes) p e lt k =
        let here = position-Some is_point text point 0 p in
        let is46 : get_or text point 0 ≡ 46 = grind (arith, nat_tests, here.1) in
        let inside : point < length text = omega arith in
        let behind : drop (suc point) text ≡ b ∷ bytes = rw add-one at e in
        let rest = drop-cons text point 0 inside ∙ ap (λ x. x ∷ drop (suc point) text) is46 ∙ ap (λ s. 46 ∷ s) behind in
        parts-from decimals n text (take point text) (b ∷ bytes) (sym (take-append-drop point text) ∙ ap (λ s. take point text ++ s) rest) k

    go : (o : Option ℕ) → position is_point text ≡ o → units_at decimals text o ≡ Some n → Parts decimals text n
    go None p k = parts-from decimals n text text [] (sym (append-nil text)) k
    go (Some point) p k = past (ltb (point + 1) (length text)) refl k
      where
        past : (b : Bool) → ltb (point + 1) (length text) ≡ b → cond b (units_of decimals (take point text) (drop (point + 1) text)) None ≡ Some n → Parts decimals text n
        past true lt k = at point (drop (point + 1) text) p refl (grind (arith, nat_tests)) k
        past false lt k = cc k

minus-first : (text : List ℕ) → eqb (get_or text 0 0) 45 ≡ true → text ≡ 45 ∷ drop 1 text
minus-first [] h = cc h
minus-first (x ∷ xs) h = let e : x ≡ 45 = grind (arith, nat_tests) in ap (λ y. y ∷ xs) e

pub IsFixed-from : (decimals : ℕ) (text : List ℕ) (v : ℤ) → fixed_value decimals text ≡ Some v → IsFixed decimals text v
unfolding fixed_value
IsFixed-from decimals text v h = go (eqb (get_or text 0 0) 45) refl h
  where
    signed-parts : (negative : Bool) (body : List ℕ) (o : Option ℕ) → text ≡ minus_of negative ++ body → unsigned_units decimals body ≡ o → option_map (signed negative) o ≡ Some v → IsFixed decimals text v
    signed-parts negative body None e k m = cc m
    signed-parts negative body (Some n) e k m =
        let p = parts-of decimals n body k in
        record {
          negative = negative;
          whole = p.whole;
          fraction = p.fraction;
          spelled = e ∙ ap (λ b. minus_of negative ++ b) p.spelled ∙ sym (append_assoc (minus_of negative) p.whole (point_and p.fraction));
          some_digits = p.some_digits;
          more_digits = p.more_digits;
          few = p.few;
          valued = sym (cc m) ∙ ap (signed negative) p.valued;
        }

    go : (b : Bool) → eqb (get_or text 0 0) 45 ≡ b
        → cond b (option_map (signed true) (unsigned_units decimals (drop 1 text))) (option_map (signed false) (unsigned_units decimals text)) ≡ Some v → IsFixed decimals text v
    go true e k = signed-parts true (drop 1 text) _ (minus-first text e) refl k
    go false e k = signed-parts false text _ refl refl k

pub kept_fixed_some : (decimals : ℕ) (text : List ℕ) (r : Option ℤ) → r ≡ kept_if fits_i64 (fixed_value decimals text) → IfSome r (λ v. IsFixed decimals text v)
kept_fixed_some decimals text None e = tt
kept_fixed_some decimals text (Some v) e = go (fixed_value decimals text) refl e
  where
    go : (o : Option ℤ) → fixed_value decimals text ≡ o → Some v ≡ kept_if fits_i64 o → IsFixed decimals text v
    go None k h = cc h
    go (Some w) k h = test (fits_i64 w) h
      where
        test : (b : Bool) → Some v ≡ cond b (Some w) None → IsFixed decimals text v
        test true m = IsFixed-from decimals text v (k ∙ sym m)
        test false m = cc m

fits-true : (v : ℤ) → FitsSigned w64 v → fits_i64 v ≡ true
fits-true (pos n) f = let small = f.sfits in grind (arith, nat_tests)
fits-true (negsuc n) f = let small = f.sfits in grind (arith, nat_tests)

pub kept_fixed_none : (decimals : ℕ) (text : List ℕ) (r : Option ℤ) → r ≡ kept_if fits_i64 (fixed_value decimals text) → IfNone r ((v : ℤ) → IsFixed decimals text v → FitsSigned w64 v → ⊥)
kept_fixed_none decimals text (Some v) e = tt
kept_fixed_none decimals text None e = λ v h fits.
    let read = fixed_value-from decimals text v h in
    let good = fits-true v fits in
    let none = rw (read, good) at e in
    cc none

pub ruleset kept_fixed = (kept_fixed_some, kept_fixed_none)

-- a written text is in the grammar
all_digits-push : (ds : List ℕ) (d : ℕ) → all_digits ds ≡ true → is_ascii_digit d ≡ true → all_digits (ds ++ d ∷ []) ≡ true
all_digits-push [] d h e = rw e refl
all_digits-push (x ∷ xs) d h e =
    let (digit, digits) = digits-cons x xs h in
    let more = all_digits-push xs d digits e in
    rw (digit) more

glyph_digit : (n : ℕ) → n < 10 → is_ascii_digit (48 + n) ≡ true
glyph_digit n h = grind (arith, nat_tests)

glyph_value : (n : ℕ) → n < 10 → digit_value (48 + n) ≡ n
glyph_value n h = grind (arith, nat_tests)

record Writes (n : ℕ) (text : List ℕ) : Type 0 where
  digits : all_digits text ≡ true
  some : 0 < length text
  value : digits_value 10 text ≡ n

decimal-writes : (n : ℕ) → n < 2 ^ 64 → Writes n (decimal n)
decimal-writes n h = decimal_by_steps Writes
    (λ n lt. record { digits = all_digits-push [] (48 + n) refl (glyph_digit n lt); some = omega arith; value = rw (glyph_value n lt) (omega arith) })
    (λ n ds lt w. record {
      digits = all_digits-push ds (48 + n % 10) w.digits (glyph_digit (n % 10) (omega arith));
      some = omega (arith, length-append ds ((48 + n % 10) ∷ []));
      value = digits_value_after-append 0 ds ((48 + n % 10) ∷ []) ∙ rw (w.value, glyph_value (n % 10) (omega arith)) (omega arith);
    }) n h

last_digits-digits : (k n : ℕ) → all_digits (last_digits k n) ≡ true
last_digits-digits zero n = refl
last_digits-digits (suc k) n = rw (glyph_digit (n / 10 ^ k % 10) (omega arith)) (last_digits-digits k n)

pub length-last_digits : (k n : ℕ) → length (last_digits k n) ≡ k
length-last_digits zero n = refl
length-last_digits (suc k) n = ap (λ m. suc m) (length-last_digits k n)

value-last_digits : (k n : ℕ) → digits_value_after 10 (n / 10 ^ k) (last_digits k n) ≡ n
value-last_digits zero n = omega arith
value-last_digits (suc k) n =
    let digit = glyph_value (n / 10 ^ k % 10) (omega arith) in
    let power : 10 ^ suc k ≡ 10 ^ k * 10 = omega arith in
    let cut : n / 10 ^ suc k ≡ n / 10 ^ k / 10 = ap (λ m. n / m) power ∙ sym (div-div-eq-div-mul n (10 ^ k) 10) in
    let step : n / 10 ^ suc k * 10 + digit_value (48 + n / 10 ^ k % 10) ≡ n / 10 ^ k = rw (digit, cut) (omega arith) in
    ap (λ m. digits_value_after 10 m (last_digits k n)) step ∙ value-last_digits k n

signed_back : (v : ℤ) → v ≡ signed (is_negative v) (unsigned_abs v)
signed_back (pos n) = refl
signed_back (negsuc n) = refl

pub are-from-all : (ds : List ℕ) → all_digits ds ≡ true → 0 < length ds → are_digits ds ≡ true
are-from-all [] h some = absurd (omega arith)
are-from-all (d ∷ ds) h some = h

abs-small : (v : ℤ) → FitsSigned w64 v → unsigned_abs v < 2 ^ 64
abs-small (pos n) f = omega (arith, f.sfits)
abs-small (negsuc n) f = omega (arith, f.sfits)

pub IsFixed-fixed_text : (decimals : ℕ) (v : ℤ) → decimals ≤ 10 → FitsSigned w64 v → IsFixed decimals (fixed_text decimals v) v
IsFixed-fixed_text decimals v few fits =
    let n = unsigned_abs v in
    let small = abs-small v fits in
    let cut : n / 10 ^ decimals < 2 ^ 64 = omega (arith, div-le_self n (10 ^ decimals)) in
    let writes = decimal-writes (n / 10 ^ decimals) cut in
    let same = length-last_digits decimals n in
    record {
      negative = is_negative v;
      whole = decimal (n / 10 ^ decimals);
      fraction = last_digits decimals n;
      spelled = refl;
      some_digits = are-from-all _ writes.digits writes.some;
      more_digits = last_digits-digits decimals n;
      few = omega arith;
      valued = signed_back v ∙ ap (signed (is_negative v)) (sym (
          ap (λ k. digits_value 10 (decimal (n / 10 ^ decimals) ++ last_digits decimals n) * 10 ^ (decimals - k)) same
          ∙ rw (digits_value_after-append 0 (decimal (n / 10 ^ decimals)) (last_digits decimals n), writes.value, value-last_digits decimals n) (rw (sub_self decimals) (omega arith))));
    }

pub one_value : (decimals : ℕ) (text : List ℕ) (v w : ℤ) → IsFixed decimals text v → IsFixed decimals text w → v ≡ w
one_value decimals text v w h k = cc (sym (fixed_value-from decimals text v h) ∙ fixed_value-from decimals text w k)
