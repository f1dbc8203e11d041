-- The text of an accepted date is read back as that date, and no other text is read.
use Rattle.std.proofs.Common.{◌≡◌, ◌≤◌, ◌<◌, ◌∙◌, ℕ, ◌+◌, ◌*◌, ◌/◌, ◌%◌, ℤ, pos, negsuc, ◌≤ℤ◌, Bool, true, false, List, [], ◌∷◌, Option, Some, None, refl, ap, sym, subst, arith}
use Rattle.std.specs.Prelude.{◌&&◌, ◌==◌, nat_le, unsigned_abs, IsTrue, IsSome, IfSome, ◌↔◌, if◌then◌else◌}
use Rattle.std.specs.Char.{is_ascii_digit}
use Rattle.std.specs.List.{list_all}
use Rattle.std.proofs.lemmas.Bool.{and_parts}
use Rattle.std.proofs.lemmas.Bool.Decides.{nat_tests}
use Rattle.std.proofs.lemmas.Option.{same_Some}
use Rattle.jiff_core.specs.Calendar.{days_in_month, days_from_civil, IsYear}
use Rattle.jiff_core.proofs.CalendarLemmas.{days_in_month_bounds}
use Rattle.jiff.proofs.SpanFacts.{signed_arith}
use Rattle.jiff.specs.Types.{Date}
use Rattle.jiff.specs.Words.{epoch_day}
use Rattle.hh_time.specs.Calendar.{date_on}
use Rattle.hh_time.specs.DateText.{pair_value, dashed, text_of, date_text, civil_day, date_value}
use Rattle.hh_time.specs.Days.{is_accepted}
use Rattle.hh_time.specs.Zone.{IsAccepted}
use Rattle.hh_time.proofs.AcceptedLaws.{accepted-number}
use Rattle.hh_time.proofs.CalendarLaws.{number_on, date_of_number}

is_digit : (k : ℕ) → k < 10 → is_ascii_digit (48 + k) ≡ true
is_digit k h = grind (arith, nat_tests)

pair_of : (n : ℕ) → n < 100 → pair_value (48 + n / 10) (48 + n % 10) ≡ n
pair_of n h = omega arith

tens : (n : ℕ) → n < 100 → is_ascii_digit (48 + n / 10) ≡ true
tens n h = is_digit (n / 10) (omega arith)

ones : (n : ℕ) → is_ascii_digit (48 + n % 10) ≡ true
ones n = is_digit (n % 10) (omega arith)

-- a text of this form passes the test, and its number is that of its parts
dashed_value : (a b c d : ℕ) → a < 100 → b < 100 → c < 100 → d < 100 → date_value (dashed a b c d) ≡ civil_day (a * 100 + b) c d
unfolding date_value
dashed_value a b c d ha hb hc hd =
    rw (tens a ha, ones a, tens b hb, ones b, tens c hc, ones c, tens d hd, ones d, pair_of a ha, pair_of b hb, pair_of c hc, pair_of d hd) refl

civil_is : (y m d : ℕ) → 2001 ≤ y → y ≤ 2099 → 1 ≤ m → m ≤ 12 → 1 ≤ d → d ≤ days_in_month (pos y) m
    → civil_day y m d ≡ Some (unsigned_abs (days_from_civil (pos y) m d))
civil_is y m d h1 h2 h3 h4 h5 h6 =
    let t1 : nat_le 2001 y ≡ true = grind (arith, nat_tests) in
    let t2 : nat_le y 2099 ≡ true = grind (arith, nat_tests) in
    let t3 : nat_le 1 m ≡ true = grind (arith, nat_tests) in
    let t4 : nat_le m 12 ≡ true = grind (arith, nat_tests) in
    let t5 : nat_le 1 d ≡ true = grind (arith, nat_tests) in
    let t6 : nat_le d (days_in_month (pos y) m) ≡ true = grind (arith, nat_tests) in
    rw (t1, t2, t3, t4, t5, t6) refl

of_parts : (y m d : ℕ) → 2001 ≤ y → y ≤ 2099 → 1 ≤ m → m ≤ 12 → 1 ≤ d → d ≤ days_in_month (pos y) m → d ≤ 31
    → date_value (dashed (y / 100) (y % 100) m d) ≡ Some (unsigned_abs (days_from_civil (pos y) m d))
of_parts y m d h1 h2 h3 h4 h5 h6 h7 =
    let whole : y / 100 * 100 + y % 100 ≡ y = omega arith in
    dashed_value (y / 100) (y % 100) m d (omega arith) (omega arith) (omega arith) (omega arith)
    ∙ ap (λ (n : ℕ). civil_day n m d) whole ∙ civil_is y m d h1 h2 h3 h4 h5 h6

size_of : (z : ℤ) → pos 0 ≤ℤ z → pos (unsigned_abs z) ≡ z
size_of (pos n) h = refl
size_of (negsuc n) h = absurd (omega (arith, signed_arith))

-- the text of an accepted date reads as that date
value_of_date : (x : Date) → IsAccepted x → date_value (text_of x) ≡ Some (unsigned_abs (epoch_day x))
value_of_date x h =
    let year : pos (unsigned_abs x.year) ≡ x.year = size_of x.year (omega (arith, signed_arith)) in
    let low : 2001 ≤ unsigned_abs x.year = omega (arith, signed_arith) in
    let high : unsigned_abs x.year ≤ 2099 = omega (arith, signed_arith) in
    let In : ℤ → Type 0 = λ z. x.day ≤ days_in_month z x.month in
    let fits : x.day ≤ days_in_month (pos (unsigned_abs x.year)) x.month = subst In (sym year) x.day_in.1 in
    of_parts (unsigned_abs x.year) x.month x.day low high x.month_in.0 x.month_in.1 x.day_in.0 fits (omega (arith, days_in_month_bounds x.year x.month, x.day_in.1))
    ∙ ap (λ (z : ℤ). Some (unsigned_abs (days_from_civil z x.month x.day))) year

pub value_of_text : (d : ℕ) → IsTrue (is_accepted d) → date_value (date_text d) ≡ Some d
unfolding date_text
value_of_text d h =
    let range : (11_323 ≤ d) × (d ≤ 47_481) = grind (arith, nat_tests) in
    let number = number_on d (omega arith) in
    value_of_date (date_on d) ((accepted-number (date_on d)).1 (omega (arith, signed_arith)))
    ∙ ap (λ (z : ℤ). Some (unsigned_abs z)) number

if_some : (t : Bool) (x : Option ℕ) (d : ℕ) → (if t then x else None) ≡ Some d → (t ≡ true) × (x ≡ Some d)
if_some true x d e = (refl, e)
if_some false x d e = absurd (cc)

-- a byte that is a digit
digit_is : (b : ℕ) → is_ascii_digit b ≡ true → (48 ≤ b) × (b ≤ 57)
digit_is b e = grind (arith, nat_tests)

number_of_accepted : (x : Date) (n : ℕ) → IsAccepted x → unsigned_abs (epoch_day x) ≡ n → epoch_day x ≡ pos n
number_of_accepted x n h e =
    let range = (accepted-number x).0 h in
    sym (size_of (epoch_day x) (omega (arith, signed_arith))) ∙ ap (λ (k : ℕ). pos k) e

-- the date that parts within their bounds name
date_of_parts : (y m d n : ℕ) → civil_day y m d ≡ Some n → (x : Date) × (x.year ≡ pos y) × (x.month ≡ m) × (x.day ≡ d) × IsAccepted x × (epoch_day x ≡ pos n)
date_of_parts y m d n e =
    let passed = if_some (nat_le 2001 y && nat_le y 2099 && nat_le 1 m && nat_le m 12 && nat_le 1 d && nat_le d (days_in_month (pos y) m))
    (Some (unsigned_abs (days_from_civil (pos y) m d))) n e in
    let within : (2001 ≤ y) × (y ≤ 2099) × (1 ≤ m) × (m ≤ 12) × (1 ≤ d) × (d ≤ days_in_month (pos y) m) = grind (arith, nat_tests) in
    let year_in : IsYear (pos y) = (omega (arith, signed_arith), omega (arith, signed_arith)) in
    let x : Date = record { year = pos y; month = m; day = d; year_in = year_in; month_in = (within.2, within.3); day_in = (within.4, within.5) } in
    let accepted : IsAccepted x = (omega (arith, signed_arith), omega (arith, signed_arith)) in
    (x, refl, refl, refl, accepted, number_of_accepted x n accepted (same_Some _ _ passed.1))

with_dashes : (y e a r s m n t d f : ℕ) → s ≡ 45 → t ≡ 45 → y ∷ e ∷ a ∷ r ∷ s ∷ m ∷ n ∷ t ∷ d ∷ f ∷ [] ≡ y ∷ e ∷ a ∷ r ∷ 45 ∷ m ∷ n ∷ 45 ∷ d ∷ f ∷ []
with_dashes y e a r s m n t d f first second = rw (first, second) refl

text_of_parts : (x : Date) (y m d : ℕ) → x.year ≡ pos y → x.month ≡ m → x.day ≡ d → dashed (y / 100) (y % 100) m d ≡ text_of x
text_of_parts x y m d year month day = rw (year, month, day) refl

text_of_pairs : (y e a r m n d f : ℕ) → is_ascii_digit y ≡ true → is_ascii_digit e ≡ true → is_ascii_digit a ≡ true → is_ascii_digit r ≡ true
    → is_ascii_digit m ≡ true → is_ascii_digit n ≡ true → is_ascii_digit d ≡ true → is_ascii_digit f ≡ true
    → y ∷ e ∷ a ∷ r ∷ 45 ∷ m ∷ n ∷ 45 ∷ d ∷ f ∷ []
    ≡ dashed ((pair_value y e * 100 + pair_value a r) / 100) ((pair_value y e * 100 + pair_value a r) % 100) (pair_value m n) (pair_value d f)
text_of_pairs y e a r m n d f hy he ha hr hm hn hd hf =
    let by = digit_is y hy in
    let be = digit_is e he in
    let ba = digit_is a ha in
    let br = digit_is r hr in
    let bm = digit_is m hm in
    let bn = digit_is n hn in
    let bd = digit_is d hd in
    let bf = digit_is f hf in
    let v : ℕ = pair_value y e * 100 + pair_value a r in
    let ey : 48 + (pair_value y e * 100 + pair_value a r) / 100 / 10 ≡ y = omega arith in
    let ee : 48 + (pair_value y e * 100 + pair_value a r) / 100 % 10 ≡ e = omega arith in
    let ea : 48 + (pair_value y e * 100 + pair_value a r) % 100 / 10 ≡ a = omega arith in
    let er : 48 + (pair_value y e * 100 + pair_value a r) % 100 % 10 ≡ r = omega arith in
    let em : 48 + pair_value m n / 10 ≡ m = omega arith in
    let en : 48 + pair_value m n % 10 ≡ n = omega arith in
    let ed : 48 + pair_value d f / 10 ≡ d = omega arith in
    let ef : 48 + pair_value d f % 10 ≡ f = omega arith in
    rw (ey, ee, ea, er, em, en, ed, ef) refl

-- a text whose value is n is the text of the date with that number
abbrev pub Names : List ℕ → ℕ → Type 0
Names text n = (x : Date) × IsAccepted x × (text ≡ text_of x) × (epoch_day x ≡ pos n)

named_by_bytes : (y e a r s m n t d f k : ℕ) → date_value (y ∷ e ∷ a ∷ r ∷ s ∷ m ∷ n ∷ t ∷ d ∷ f ∷ []) ≡ Some k
    → Names (y ∷ e ∷ a ∷ r ∷ s ∷ m ∷ n ∷ t ∷ d ∷ f ∷ []) k
unfolding date_value
named_by_bytes y e a r s m n t d f k h =
    let passed = if_some (list_all is_ascii_digit (y ∷ e ∷ a ∷ r ∷ m ∷ n ∷ d ∷ f ∷ []) && (s == 45) && (t == 45))
    (civil_day (pair_value y e * 100 + pair_value a r) (pair_value m n) (pair_value d f)) k h in
    let outer = and_parts _ _ passed.0 in
    let inner = and_parts _ _ outer.0 in
    let digits : list_all is_ascii_digit (y ∷ e ∷ a ∷ r ∷ m ∷ n ∷ d ∷ f ∷ []) ≡ true = inner.0 in
    let dash : (s == 45) ≡ true = inner.1 in
    let dash_again : (t == 45) ≡ true = outer.1 in
    let first : s ≡ 45 = grind (arith, nat_tests) in
    let second : t ≡ 45 = grind (arith, nat_tests) in
    let d1 = and_parts _ _ digits in
    let d2 = and_parts _ _ d1.1 in
    let d3 = and_parts _ _ d2.1 in
    let d4 = and_parts _ _ d3.1 in
    let d5 = and_parts _ _ d4.1 in
    let d6 = and_parts _ _ d5.1 in
    let d7 = and_parts _ _ d6.1 in
    let d8 = and_parts _ _ d7.1 in
    let x = date_of_parts (pair_value y e * 100 + pair_value a r) (pair_value m n) (pair_value d f) k passed.1 in
    let spelled = text_of_pairs y e a r m n d f d1.0 d2.0 d3.0 d4.0 d5.0 d6.0 d7.0 d8.0 in
    let text = with_dashes y e a r s m n t d f first second ∙ spelled ∙ text_of_parts x.0 (pair_value y e * 100 + pair_value a r) (pair_value m n) (pair_value d f) x.1 x.2 x.3 in
    (x.0, x.4, text, x.5)

pub text_of_value : (text : List ℕ) (k : ℕ) → date_value text ≡ Some k → Names text k
unfolding date_value
text_of_value (y ∷ e ∷ a ∷ r ∷ s ∷ m ∷ n ∷ t ∷ d ∷ f ∷ []) k h = named_by_bytes y e a r s m n t d f k h
text_of_value [] k h = absurd (cc)
text_of_value (y ∷ []) k h = absurd (cc)
text_of_value (y ∷ e ∷ []) k h = absurd (cc)
text_of_value (y ∷ e ∷ a ∷ []) k h = absurd (cc)
text_of_value (y ∷ e ∷ a ∷ r ∷ []) k h = absurd (cc)
text_of_value (y ∷ e ∷ a ∷ r ∷ s ∷ []) k h = absurd (cc)
text_of_value (y ∷ e ∷ a ∷ r ∷ s ∷ m ∷ []) k h = absurd (cc)
text_of_value (y ∷ e ∷ a ∷ r ∷ s ∷ m ∷ n ∷ []) k h = absurd (cc)
text_of_value (y ∷ e ∷ a ∷ r ∷ s ∷ m ∷ n ∷ t ∷ []) k h = absurd (cc)
text_of_value (y ∷ e ∷ a ∷ r ∷ s ∷ m ∷ n ∷ t ∷ d ∷ []) k h = absurd (cc)
text_of_value (y ∷ e ∷ a ∷ r ∷ s ∷ m ∷ n ∷ t ∷ d ∷ f ∷ g ∷ more) k h = absurd (cc)

pub none_reads : (text : List ℕ) → ((date : Date) → IsAccepted date → ¬ (text ≡ text_of date)) → (d : ℕ) → IsTrue (is_accepted d) → ¬ (text ≡ date_text d)
unfolding date_text
none_reads text none d h same =
    let range : (11_323 ≤ d) × (d ≤ 47_481) = grind (arith, nat_tests) in
    let number = number_on d (omega arith) in
    none (date_on d) ((accepted-number (date_on d)).1 (omega (arith, signed_arith))) same

none_by : (text : List ℕ) → ((date : Date) → IsAccepted date → ¬ (text ≡ text_of date)) → (v : Option ℕ) → date_value text ≡ v → None ≡ v
none_by text none None e = refl
none_by text none (Some k) e = let named = text_of_value text k e in absurd (none named.0 named.1 named.2)

pub none_value : (text : List ℕ) → ((date : Date) → IsAccepted date → ¬ (text ≡ text_of date)) → None ≡ date_value text
none_value text none = none_by text none (date_value text) refl

pub some_text : (text : List ℕ) (x : Date) → IsAccepted x → text ≡ text_of x → (d : ℕ) → epoch_day x ≡ pos d → text ≡ date_text d
unfolding date_text
some_text text x h e d number =
    let range = (accepted-number x).0 h in
    e ∙ ap text_of (sym (date_of_number x d (omega (arith, signed_arith)) number))

pub some_value : (text : List ℕ) (x : Date) → IsAccepted x → text ≡ text_of x → (d : ℕ) → epoch_day x ≡ pos d → Some d ≡ date_value text
some_value text x h e d number =
    sym (ap date_value e ∙ value_of_date x h ∙ ap (λ (z : ℤ). Some (unsigned_abs z)) number)

pub whole_value : (text : List ℕ) (x : Date) → IsAccepted x → text ≡ text_of x → (r : Option ℕ) → IfSome r (λ d. epoch_day x ≡ pos d) → (IsSome r ↔ IsAccepted x) → r ≡ date_value text
whole_value text x h e (Some d) number accepted = some_value text x h e d number
whole_value text x h e None number accepted = let bad : false ≡ true = accepted.1 h in absurd (cc)

pub some_texts : (text : List ℕ) (x : Date) → IsAccepted x → text ≡ text_of x → (r : Option ℕ) → IfSome r (λ d. epoch_day x ≡ pos d) → IfSome r (λ d. text ≡ date_text d)
some_texts text x h e (Some d) number = some_text text x h e d number
some_texts text x h e None number = number

pub one_date : (text : List ℕ) (d : ℕ) → date_value text ≡ Some d → text ≡ date_text d
one_date text d e = let named = text_of_value text d e in some_text text named.0 named.1 named.2 d named.3
