-- Texts of so few digits that their number is below 2 ^ 64.
use Rattle.std.proofs.Common.{ℕ, ◌+◌, ◌-◌, ◌*◌, ◌^◌, ◌<◌, ◌≤◌, List, length, drop, arith, lit<, length-drop}
use Rattle.std.proofs.Math.Nat.{one-le-pow, pow-le-pow_right}
use Rattle.std.proofs.lemmas.Grind.{pow_more}
use Rattle.hh_num.specs.steps.Fixed.{AreFew}

-- one more digit, if there is room for it
room_next : (k n d : ℕ) → n < 10 ^ k → d ≤ 9 → n * 10 + d < 10 ^ (k + 1)
room_next k n d room digit = omega (arith, pow_more 10 k)

fewer : (n j k : ℕ) → n < 10 ^ j → j ≤ k → n < 10 ^ k
fewer n j k room more = omega (arith, pow-le-pow_right {n = 10} (lit< tt) more)

-- the number of so few digits is below 2 ^ 64
pub few_fit : (n d i : ℕ) (ds : List ℕ) → AreFew n (drop i ds) → i < length ds → d ≤ 9 → n * 10 + d < 2 ^ 64
few_fit n d i ds few inside digit =
    let k = 19 - length (drop i ds) in
    let left = length-drop i ds in
    let next = room_next k n d few.room digit in
    let within = fewer (n * 10 + d) (k + 1) 19 next (omega (arith, few.few)) in
    omega arith

-- after one more digit
pub few_next : (n d i : ℕ) (ds : List ℕ) → AreFew n (drop i ds) → i < length ds → d ≤ 9 → AreFew (n * 10 + d) (drop (i + 1) ds)
few_next n d i ds few inside digit =
    let k = 19 - length (drop i ds) in
    let here = length-drop i ds in
    let next = length-drop (i + 1) ds in
    record {
      few = omega (arith, few.few);
      room = fewer (n * 10 + d) (k + 1) (19 - length (drop (i + 1) ds)) (room_next k n d few.room digit) (omega (arith, few.few));
    }

-- after one more byte that is no digit
pub few_on : (n i : ℕ) (ds : List ℕ) → AreFew n (drop i ds) → AreFew n (drop (i + 1) ds)
few_on n i ds few =
    let here = length-drop i ds in
    let next = length-drop (i + 1) ds in
    record {
      few = omega (arith, few.few);
      room = fewer n (19 - length (drop i ds)) (19 - length (drop (i + 1) ds)) few.room (omega arith);
    }

-- the start: no digits are read yet
pub few_none : (ds : List ℕ) → length ds ≤ 19 → AreFew 0 ds
few_none ds few = record { few = few; room = one-le-pow (19 - length ds) 10 (lit< tt) }
