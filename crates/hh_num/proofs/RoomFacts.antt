-- Texts of numbers that are put at the end of a room.
use Rattle.std.proofs.Common.{refl, min, take, replicate, ◌≡◌, ℕ, zero, suc, ◌+◌, ◌-◌, ◌^◌, ◌<◌, ◌≤◌, ◌/◌, ◌%◌, List, [], ◌∷◌, ◌++◌, length, set, drop, sym, ap, ◌∙◌, arith, lit<, append-nil}
use Rattle.std.specs.Fmt.{decimal}
use Rattle.std.proofs.lemmas.Fmt.{decimal_digit, decimal_step, length-decimal-le}
use Rattle.std.proofs.lemmas.List.{drop-set, drop_all, drop-drop, take-append-drop, take-replicate, drop-replicate, length-replicate, length-drop, drop-append-le}
use Rattle.std.proofs.Math.Arith.{mod-mul}
use Rattle.std.proofs.Math.Nat.{min-le_left, div-le_self, div-div-eq-div-mul, one-le-pow, pow-suc, pow-le-pow_right, mul_comm}
use Rattle.hh_num.specs.Fixed.{last_digits, point_and, fraction_text, flush_right}
use Rattle.hh_num.proofs.GrammarFacts.{length-last_digits}

ten_pow_pos : (k : ℕ) → 0 < 10 ^ k
ten_pow_pos k = one-le-pow k 10 (lit< tt)

-- the last digit comes behind those of a tenth of the number
last_digits-end : (k n : ℕ) → last_digits (suc k) n ≡ last_digits k (n / 10) ++ (48 + n % 10) ∷ []
last_digits-end zero n = let e : n / 10 ^ 0 ≡ n = omega arith in ap (λ m. (48 + m % 10) ∷ []) e
last_digits-end (suc k) n =
    ap (λ m. (48 + m % 10) ∷ last_digits (suc k) n) (ap (λ m. n / m) (pow-suc 10 k ∙ mul_comm (10 ^ k) 10) ∙ sym (div-div-eq-div-mul n 10 (10 ^ k)))
    ∙ ap (λ ds. (48 + n / 10 / 10 ^ k % 10) ∷ ds) (last_digits-end k n)

-- digits cut off in front are not among the last digits
pub last_digits_cut : (k n : ℕ) → last_digits k (n % 10 ^ k) ≡ last_digits k n
last_digits_cut zero n = refl
last_digits_cut (suc k) n =
    let rest = ap (λ m. n % m) (pow-suc 10 k) ∙ mod-mul n {m = 10 ^ k} {c = 10} (ten_pow_pos k) (lit< tt) in
    let tenth : n % 10 ^ suc k / 10 ≡ n / 10 % 10 ^ k = omega arith in
    let last : n % 10 ^ suc k % 10 ≡ n % 10 = omega arith in
    last_digits-end k (n % 10 ^ suc k)
    ∙ ap (λ m. last_digits k m ++ (48 + n % 10 ^ suc k % 10) ∷ []) tenth
    ∙ ap (λ d. last_digits k (n / 10 % 10 ^ k) ++ (48 + d) ∷ []) last
    ∙ ap (λ ds. ds ++ (48 + n % 10) ∷ []) (last_digits_cut k (n / 10))
    ∙ sym (last_digits-end k n)

-- the text of a number that has a 1 before so many digits
decimal_behind_one : (k n : ℕ) → n < 10 ^ k → 10 ^ k + n < 2 ^ 64 → decimal (10 ^ k + n) ≡ 49 ∷ last_digits k n
decimal_behind_one zero n below small = let e : 10 ^ 0 + n ≡ 1 = omega arith in ap decimal e ∙ decimal_digit 1 (lit< tt)
decimal_behind_one (suc k) n below small =
    let some = ten_pow_pos k in
    let more = pow-suc 10 k in
    let tenth : (10 ^ suc k + n) / 10 ≡ 10 ^ k + n / 10 = omega arith in
    let last : (10 ^ suc k + n) % 10 ≡ n % 10 = omega arith in
    decimal_step (10 ^ suc k + n) (omega arith) small
    ∙ ap (λ m. decimal m ++ (48 + (10 ^ suc k + n) % 10) ∷ []) tenth
    ∙ ap (λ d. decimal (10 ^ k + n / 10) ++ (48 + d) ∷ []) last
    ∙ ap (λ ds. ds ++ (48 + n % 10) ∷ []) (decimal_behind_one k (n / 10) (omega arith) (omega arith))
    ∙ ap (λ ds. 49 ∷ ds) (sym (last_digits-end k n))

behind_one : (k n unit : ℕ) → k ≤ 10 → n < 10 ^ k → unit ≡ 10 ^ k → decimal (unit + n) ≡ 49 ∷ last_digits k n
behind_one k n unit few below is =
    let most : 10 ^ k ≤ 10 ^ 10 = pow-le-pow_right (lit< tt) few in
    ap (λ u. decimal (u + n)) is ∙ decimal_behind_one k n below (omega arith)

-- its length
pub one_fits : (k n unit : ℕ) → k ≤ 10 → n < 10 ^ k → unit ≡ 10 ^ k → length (decimal (unit + n)) ≡ k + 1
one_fits k n unit few below is = ap length (behind_one k n unit few below is) ∙ ap (λ l. suc l) (length-last_digits k n) ∙ omega arith

-- the point put in the place of the 1
pub point_put : (k n unit at : ℕ) (old room : List ℕ) → 0 < k → k ≤ 10 → n < 10 ^ k → unit ≡ 10 ^ k → length old ≡ 40 → length room ≡ 40
    → at + length (decimal (unit + n)) ≡ 40 → drop at room ≡ decimal (unit + n) ++ drop 40 old
    → drop at (set room at 46) ≡ fraction_text k n
point_put zero n unit at old room some few below is long whole ends stand = absurd (omega arith)
point_put (suc j) n unit at old room some few below is long whole ends stand =
    let size = one_fits (suc j) n unit few below is in
    let all : drop at room ≡ 49 ∷ last_digits (suc j) n =
    stand ∙ ap (λ ds. decimal (unit + n) ++ ds) (drop_all 40 old (omega arith)) ∙ append-nil _ ∙ behind_one (suc j) n unit few below is in
    drop-set room at 46 (omega arith) ∙ ap (λ ds. 46 ∷ ds) (sym (drop-drop 1 at room) ∙ ap (drop 1) all)

-- the remainder of a division has the same fraction as the number
pub fraction_cut : (k n unit : ℕ) → unit ≡ 10 ^ k → fraction_text k (n % unit) ≡ fraction_text k n
fraction_cut k n unit is = ap (λ u. fraction_text k (n % u)) is ∙ ap point_and (last_digits_cut k n)

-- the digits of a quotient are at most 20
pub digits_fit : (n unit : ℕ) → n < 2 ^ 64 → length (decimal (n / unit)) ≤ 20
digits_fit n unit small = let less = div-le_self n unit in length-decimal-le 20 (n / unit) (lit< tt) (omega arith) (omega arith)

-- a room of blanks, from a place before its text: blanks, then the text
blanks_before : (at start : ℕ) (room text : List ℕ) → at ≤ start → start ≤ 40 → drop start room ≡ text → take start room ≡ take start (replicate 40 32)
    → drop at room ≡ replicate (start - at) 32 ++ text
blanks_before at start room text before inside stand blank =
    let front : take start room ≡ replicate start 32 = blank ∙ take-replicate start 40 32 inside in
    let whole : room ≡ replicate start 32 ++ text =
    sym (take-append-drop start room) ∙ ap (λ xs. xs ++ drop start room) front ∙ ap (λ xs. replicate start 32 ++ xs) stand in
    let long : length (replicate {A = ℕ} start 32) ≡ start = length-replicate start 32 in
    ap (drop at) whole ∙ drop-append-le at (replicate start 32) text (omega (arith, long)) ∙ ap (λ xs. xs ++ text) (drop-replicate at start 32)

-- a mark before a text that fills a width
pub field_put : (mark width start at : ℕ) (room text : List ℕ) → width ≤ 39 → (8 ≤ start) × (start ≤ 40) → at ≡ min start (40 - width) → length room ≡ 40
    → drop start room ≡ text → take start room ≡ take start (replicate 40 32)
    → drop (at - 1) (set room (at - 1) mark) ≡ mark ∷ flush_right width text
unfolding flush_right
field_put mark width start at room text narrow inside least long stand blank =
    let left = min-le_left start (40 - width) in
    let next : at - 1 + 1 ≡ at = omega arith in
    let size : length text ≡ 40 - start = sym (ap length stand) ∙ length-drop start room ∙ ap (λ n. n - start) long in
    let gap : start - at ≡ width - length text = omega arith in
    drop-set room (at - 1) mark (omega arith)
    ∙ ap (λ n. mark ∷ drop n room) next
    ∙ ap (λ xs. mark ∷ xs) (blanks_before at start room text (omega arith) inside.1 stand blank)
    ∙ ap (λ n. mark ∷ replicate n 32 ++ text) gap
