-- The texts that the readers of a path's parts accept are ASCII, not empty, and have no slash.
use Rattle.std.proofs.Common.{◌≡◌, ◌∙◌, ℕ, ℤ, pos, negsuc, ◌≤ℤ◌, zero, suc, ◌+◌, ◌-◌, ◌/◌, ◌%◌, ◌<◌, ◌≤◌, List, [], ◌∷◌, length, take, drop, Option, Some, None, Bool, true, false, ◌&&◌, cond, refl, sym, ap, subst, arith, true≢false}
use Rattle.std.proofs.lemmas.Bool.{and_from, and_parts, eqb-true, ne_eqb, not_from_false}
use Rattle.std.proofs.lemmas.Bool.Decides.{nat_tests}
use Rattle.std.proofs.lemmas.Option.{cond_some, none-some, same_Some}
use Rattle.std.proofs.lemmas.Slice.Eq.{bytes_eq-Decides}
use Rattle.std.specs.List.{find, list_all}
use Rattle.std.specs.Prelude.{◌==◌, bytes_eq, codes, nat_le, nat_lt, slice_index, unsigned_abs}
use Rattle.jiff_core.proofs.CalendarLemmas.{days_in_month_bounds}
use Rattle.jiff.proofs.SpanFacts.{signed_arith}
use Rattle.jiff.specs.Types.{Date}
use Rattle.hh_time.specs.DateText.{dashed, date_value, text_of}
use Rattle.hh_time.specs.Zone.{IsAccepted}
use Rattle.hh_time.proofs.DateTextLaws.{text_of_value}
use Rattle.hh_names.specs.Accounts.{account_from, account_value, side_value}
use Rattle.hh_names.specs.Words.{is_capital_or_digit, is_file_name_byte, is_word, party_value, word_value}
use Rattle.hh_names.specs.declared.account.Account.{Account}
use Rattle.hh_names.specs.declared.account.Side.{Side}
use Rattle.hh_names.specs.declared.account.Side.TheVariants.{Production, Consumption}
use Rattle.hh_rows.specs.Kinds.{all_kinds, kind_value, kind_word}
use Rattle.hh_rows.specs.declared.file_kind.FileKind.{FileKind}
use Rattle.hh_rows.specs.declared.file_kind.FileKind.TheVariants as kind
use Rattle.hh_runs.specs.RunKinds.{all_run_kinds, run_kind_code, run_kind_value}
use Rattle.hh_runs.specs.declared.run_kind.RunKind.{RunKind}
use Rattle.hh_runs.specs.declared.run_kind.RunKind.TheVariants as run
use Rattle.hh_wire.specs.steps.Paths.{is_part, is_part_byte}

-- ---- kinds
named : {K : Type 0} (name : K → List ℕ) (all : List K) (word : List ℕ) (k : K) → find (λ x. bytes_eq word (name x)) all ≡ Some k → word ≡ name k
named name [] word k e = absurd (none-some k e)
named name (x ∷ all) word k e = by (named name all word k) (bytes_eq word (name x)) refl e
  where
    by : (find (λ x. bytes_eq word (name x)) all ≡ Some k → word ≡ name k) → (v : Bool) → bytes_eq word (name x) ≡ v
        → cond v (Some x) (find (λ x. bytes_eq word (name x)) all) ≡ Some k → word ≡ name k
    by later true same is = (bytes_eq-Decides word (name x)).0 same ∙ ap name (same_Some x k is)
    by later false same is = later is

kind_is_part : (k : FileKind) → is_part (kind_word k) ≡ true
kind_is_part kind.Parties = refl
kind_is_part kind.Units = refl
kind_is_part kind.Meters = refl
kind_is_part kind.Prices = refl
kind_is_part kind.Contracts = refl
kind_is_part kind.Reallocations = refl

pub kind_part : (text : List ℕ) (k : FileKind) → kind_value text ≡ Some k → is_part text ≡ true
unfolding kind_value
kind_part text k e = ap is_part (named kind_word all_kinds text k e) ∙ kind_is_part k

run_kind_is_part : (k : RunKind) → is_part (run_kind_code k) ≡ true
run_kind_is_part run.SF = refl
run_kind_is_part run.R1 = refl
run_kind_is_part run.R2 = refl
run_kind_is_part run.R3 = refl
run_kind_is_part run.RF = refl
run_kind_is_part run.DF = refl

pub run_kind_part : (text : List ℕ) (k : RunKind) → run_kind_value text ≡ Some k → is_part text ≡ true
unfolding run_kind_value
run_kind_part text k e = ap is_part (named run_kind_code all_run_kinds text k e) ∙ run_kind_is_part k

-- ---- words
all_parts : (allows : ℕ → Bool) → ((b : ℕ) → allows b ≡ true → is_part_byte b ≡ true) → (text : List ℕ) → list_all allows text ≡ true → list_all is_part_byte text ≡ true
all_parts allows fits [] h = refl
all_parts allows fits (b ∷ rest) h =
    let parts = and_parts (allows b) (list_all allows rest) h in
    and_from _ _ (fits b parts.0) (all_parts allows fits rest parts.1)

some_part : (text : List ℕ) → 0 < length text → list_all is_part_byte text ≡ true → is_part text ≡ true
some_part text some bytes =
    let some' : nat_lt 0 (length text) ≡ true = grind (arith, nat_tests) in
    and_from _ _ some' bytes

word_bytes : (allows : ℕ → Bool) (least most : ℕ) → ((b : ℕ) → allows b ≡ true → is_part_byte b ≡ true) → (text value : List ℕ) → word_value allows least most text ≡ Some value
    → (least ≤ length text) × (list_all is_part_byte text ≡ true)
unfolding is_word
word_bytes allows least most fits text value e =
    let passes = (cond_some (is_word allows least most text) text value e).0 in
    let parts = and_parts (nat_le least (length text) && nat_le (length text) most) (list_all allows text) passes in
    let long = (and_parts (nat_le least (length text)) (nat_le (length text) most) parts.0).0 in
    let enough : least ≤ length text = grind (arith, nat_tests) in
    (enough, all_parts allows fits text parts.1)

-- a byte that passes a test which bytes from 128 on and a slash don't pass
fits_part : (allows : ℕ → Bool) → allows 47 ≡ false → (b : ℕ) → b < 128 → allows b ≡ true → is_part_byte b ≡ true
fits_part allows no_slash b small h =
    let low : nat_lt b 128 ≡ true = grind (arith, nat_tests) in
    let other : (b == 47) ≡ false = ne_eqb b 47 (λ e. true≢false (sym h ∙ ap allows e ∙ no_slash)) in
    and_from _ _ low (not_from_false _ other)

name_byte : (b : ℕ) → is_file_name_byte b ≡ true → is_part_byte b ≡ true
name_byte b h = fits_part is_file_name_byte refl b (grind (arith, nat_tests)) h

party_byte : (b : ℕ) → is_capital_or_digit b ≡ true → is_part_byte b ≡ true
party_byte b h = fits_part is_capital_or_digit refl b (grind (arith, nat_tests)) h

pub name_part : (text value : List ℕ) → word_value is_file_name_byte 1 64 text ≡ Some value → is_part text ≡ true
name_part text value e = let (some, bytes) = word_bytes is_file_name_byte 1 64 name_byte text value e in some_part text (omega arith) bytes

-- ---- accounts
side_bytes : (text : List ℕ) (side : Side) → side_value text ≡ Some side → list_all is_part_byte text ≡ true
unfolding side_value
side_bytes text side e = by (bytes_eq text (codes "P")) refl (bytes_eq text (codes "C")) refl e
  where
    by : (v : Bool) → bytes_eq text (codes "P") ≡ v → (w : Bool) → bytes_eq text (codes "C") ≡ w → cond v (Some Production) (cond w (Some Consumption) None) ≡ Some side → list_all is_part_byte text ≡ true
    by true same w other is = ap (list_all is_part_byte) ((bytes_eq-Decides text (codes "P")).0 same)
    by false differs true same is = ap (list_all is_part_byte) ((bytes_eq-Decides text (codes "C")).0 same)
    by false differs false other is = absurd (none-some side is)

account_of : (side : Option Side) (party : Option (List ℕ)) (a : Account) → account_from side party ≡ Some a → (s : Side) × (p : List ℕ) × (side ≡ Some s) × (party ≡ Some p)
account_of None party a e = absurd (none-some a e)
account_of (Some s) None a e = absurd (none-some a e)
account_of (Some s) (Some p) a e = (s, p, refl, refl)

-- all of a text passes a test if its front, the byte after it and the rest do
all_of : (test : ℕ → Bool) (text : List ℕ) (i : ℕ) → i < length text → list_all test (take i text) ≡ true → test (slice_index text i) ≡ true → list_all test (drop (suc i) text) ≡ true
    → list_all test text ≡ true
all_of test [] i inside front middle rest = absurd (omega arith)
all_of test (b ∷ text) zero inside front middle rest = and_from _ _ middle rest
all_of test (b ∷ text) (suc i) inside front middle rest =
    let parts = and_parts (test b) (list_all test (take i text)) front in
    and_from _ _ parts.0 (all_of test text i (omega arith) parts.1 middle rest)

dash_byte : (b : ℕ) → (b == 45) ≡ true → is_part_byte b ≡ true
dash_byte b h = ap is_part_byte (eqb-true b 45 h)

pub else_some : {A : Type 0} (t : Bool) (x : Option A) (y : A) → cond t None x ≡ Some y → (t ≡ false) × (x ≡ Some y)
else_some true x y e = absurd (none-some y e)
else_some false x y e = (refl, e)

pub then_some : {A : Type 0} (t : Bool) (x : Option A) (y : A) → cond t x None ≡ Some y → (t ≡ true) × (x ≡ Some y)
then_some true x y e = (refl, e)
then_some false x y e = absurd (none-some y e)

pub account_part : (text : List ℕ) (a : Account) → account_value text ≡ Some a → is_part text ≡ true
unfolding account_value
account_part text a e =
    let n = length text in
    let read = account_from (side_value (drop (n - 1) text)) (party_value (take (n - 2) text)) in
    let (enough, more) = else_some (nat_lt n 2) (cond (slice_index text (n - 2) == 45) read None) a e in
    let (dash, reads) = then_some (slice_index text (n - 2) == 45) read a more in
    let (side, party, side_is, party_is) = account_of (side_value (drop (n - 1) text)) (party_value (take (n - 2) text)) a reads in
    let long : 2 ≤ length text = grind (arith, nat_tests) in
    let next : length text - 1 ≡ suc (length text - 2) = omega arith in
    let front = (word_bytes is_capital_or_digit 1 10 party_byte (take (n - 2) text) party party_is).1 in
    let rest = subst (λ (k : ℕ). list_all is_part_byte (drop k text) ≡ true) next (side_bytes (drop (n - 1) text) side side_is) in
    some_part text (omega arith) (all_of is_part_byte text (n - 2) (omega arith) front (dash_byte (slice_index text (n - 2)) dash) rest)

-- ---- dates
digit_part : (k : ℕ) → k < 10 → is_part_byte (48 + k) ≡ true
digit_part k h =
    let low : nat_lt (48 + k) 128 ≡ true = grind (arith, nat_tests) in
    let other : (48 + k == 47) ≡ false = grind (arith, nat_tests) in
    and_from _ _ low (not_from_false _ other)

tens_part : (n : ℕ) → n < 100 → is_part_byte (48 + n / 10) ≡ true
tens_part n h = digit_part (n / 10) (omega arith)

ones_part : (n : ℕ) → is_part_byte (48 + n % 10) ≡ true
ones_part n = digit_part (n % 10) (omega arith)

dashed_part : (a b c d : ℕ) → a < 100 → b < 100 → c < 100 → d < 100 → is_part (dashed a b c d) ≡ true
dashed_part a b c d ha hb hc hd =
    rw (tens_part a ha, ones_part a, tens_part b hb, ones_part b, tens_part c hc, ones_part c, tens_part d hd, ones_part d) refl

size_below : (z : ℤ) → pos 2001 ≤ℤ z → z ≤ℤ pos 2099 → unsigned_abs z ≤ 2099
size_below (pos n) low high = omega (arith, signed_arith)
size_below (negsuc n) low high = absurd (omega (arith, signed_arith))

text_part : (x : Date) → IsAccepted x → is_part (text_of x) ≡ true
text_part x h =
    let y = unsigned_abs x.year in
    let high : y ≤ 2099 = size_below x.year (omega (arith, signed_arith)) (omega (arith, signed_arith)) in
    dashed_part (y / 100) (y % 100) x.month x.day (omega arith) (omega arith) (omega (arith, x.month_in)) (omega (arith, days_in_month_bounds x.year x.month, x.day_in.1))

pub date_part : (text : List ℕ) (d : ℕ) → date_value text ≡ Some d → is_part text ≡ true
date_part text d e =
    let named = text_of_value text d e in
    ap is_part named.2 ∙ text_part named.0 named.1
