-- What `matchit` finds among rows that spell a word and have one or two parameters after it.
use Rattle.std.proofs.Common.{◌≡◌, ◌∙◌, ℕ, zero, suc, ◌+◌, ◌-◌, ◌<◌, List, [], ◌∷◌, ◌++◌, length, drop, Option, Some, None, Bool, true, false, ◌&&◌, not, cond, refl, sym, ap, arith, ◌==◌, ltb, nat_eq, true≢false}
use Rattle.std.proofs.Math.Seq.{drop-length, drop-append_seam}
use Rattle.std.proofs.lemmas.Bool.{and_left, and_parts, and_right}
use Rattle.std.proofs.lemmas.Bool.Decides.{nat_tests}
use Rattle.std.proofs.lemmas.List.{length-append}
use Rattle.std.specs.Cmp.Lexicographic.{pointwise}
use Rattle.std.specs.List.{list_all}
use Rattle.std.specs.Prelude.{nat_lt}
use Rattle.matchit.specs.Rows.{RowsOf, param_token, catch_all_token}
use Rattle.hh_wire.specs.steps.Paths.{is_part, is_part_byte}
use Rattle.matchit.specs.Seek.{step, or_else, own, seek, first, param_step, has_slash, segment, cuts}

-- ---- segments
-- no byte of a text is a slash
slash_parts : (b : ℕ) (p : List ℕ) → has_slash (b ∷ p) ≡ false → ((b == 47) ≡ false) × (has_slash p ≡ false)
slash_parts b p h = by (b == 47) refl h
  where
    by : (v : Bool) → (b == 47) ≡ v → cond v true (has_slash p) ≡ false → ((b == 47) ≡ false) × (has_slash p ≡ false)
    by true e more = absurd (true≢false more)
    by false e more = (e, more)

drop_slash : (n : ℕ) (xs : List ℕ) → has_slash xs ≡ false → has_slash (drop n xs) ≡ false
drop_slash zero xs h = h
drop_slash (suc n) [] h = refl
drop_slash (suc n) (b ∷ xs) h = drop_slash n xs (slash_parts b xs h).1

-- a segment without a slash is all that there is
segment_whole : (xs : List ℕ) → has_slash xs ≡ false → segment xs ≡ xs
segment_whole [] h = refl
segment_whole (b ∷ xs) h = let parts = slash_parts b xs h in rw parts.0 (ap (λ (t : List ℕ). b ∷ t) (segment_whole xs parts.1))

-- and it does not end with a slash
no_slash_ends : (xs : List ℕ) → has_slash xs ≡ false → pointwise nat_eq (47 ∷ []) xs ≡ false
no_slash_ends [] h = refl
no_slash_ends (b ∷ xs) h =
    let other : (b == 47) ≡ false = (slash_parts b xs h).0 in
    let turned : nat_eq 47 b ≡ false = grind (arith, nat_tests) in
    and_left (nat_eq 47 b) (pointwise nat_eq [] xs) turned

cuts_none : (xs : List ℕ) → has_slash xs ≡ false → cuts xs (47 ∷ []) ≡ false
cuts_none xs h =
    let rest = drop (length xs - 1) xs in
    and_right (ltb 1 (length xs)) (pointwise nat_eq (47 ∷ []) rest) (no_slash_ends rest (drop_slash (length xs - 1) xs h))

-- a segment ends with its slash
segment_slash : (xs rest : List ℕ) → has_slash xs ≡ false → segment (xs ++ 47 ∷ rest) ≡ xs ++ 47 ∷ []
segment_slash [] rest h = refl
segment_slash (b ∷ xs) rest h = let parts = slash_parts b xs h in rw parts.0 (ap (λ (t : List ℕ). b ∷ t) (segment_slash xs rest parts.1))

-- the slash cuts off its suffix
cuts_slash : (xs : List ℕ) → 0 < length xs → cuts (xs ++ 47 ∷ []) (47 ∷ []) ≡ true
cuts_slash xs h =
    let long : length (xs ++ 47 ∷ []) ≡ length xs + 1 = length-append xs (47 ∷ []) in
    let n : length (xs ++ 47 ∷ []) - 1 ≡ length xs = omega arith in
    let more : ltb 1 (length (xs ++ 47 ∷ [])) ≡ true = grind (arith, nat_tests) in
    let rest : drop (length (xs ++ 47 ∷ []) - 1) (xs ++ 47 ∷ []) ≡ 47 ∷ [] = ap (λ (m : ℕ). drop m (xs ++ 47 ∷ [])) n ∙ drop-append_seam xs (47 ∷ []) in
    rw (more, rest) refl

module _ {K : Type 0} where
  -- ---- steps
  param_step_empty : (p : List ℕ) → (param_step {K = K} [] p).1 ≡ []
  unfolding param_step
  param_step_empty p =
      elim (has_slash p) as (λ v. (cond {A = ℕ × RowsOf K} v (0, []) (length p, [])).1 ≡ []) [ true ↦ refl | false ↦ refl ]

  seek_empty : (k : ℕ) (p : List ℕ) → seek {K = K} k [] p ≡ None
  unfolding seek
  seek_empty k [] = refl
  seek_empty (suc k) (b ∷ p) = seek_empty k p
  seek_empty zero (b ∷ p) = simp (seek_empty 0 p, param_step_empty (b ∷ p), seek_empty (((param_step {K = K} [] (b ∷ p)).0) - 1) p)

  seek_drop : (k : ℕ) (r : RowsOf K) (p : List ℕ) → seek k r p ≡ seek 0 r (drop k p)
  unfolding seek
  seek_drop zero r p = refl
  seek_drop (suc k) r [] = refl
  seek_drop (suc k) r (b ∷ p) = seek_drop k r p

  or_else_none : (a : Option K) → or_else a None ≡ a
  or_else_none None = refl
  or_else_none (Some k) = refl

  -- a byte that every row spells
  seek_byte : (rs : RowsOf K) (b : ℕ) (p : List ℕ) → step param_token rs ≡ [] → step catch_all_token rs ≡ [] → seek 0 rs (b ∷ p) ≡ seek 0 (step b rs) p
  unfolding seek
  seek_byte rs b p h k =
      rw (h, k) (simp (param_step_empty (b ∷ p), seek_empty ((param_step {K = K} [] (b ∷ p)).0 - 1) p, or_else_none))

  -- the rows that go on after a word
  abbrev pub after : List ℕ → RowsOf K → RowsOf K
  after [] rs = rs
  after (b ∷ w) rs = after w (step b rs)

  abbrev is_empty : RowsOf K → Bool
  is_empty [] = true
  is_empty (r ∷ rs) = false

  -- each of them spells the word
  abbrev pub is_written : List ℕ → RowsOf K → Bool
  is_written [] rs = true
  is_written (b ∷ w) rs = is_empty (step param_token rs) && (is_empty (step catch_all_token rs) && is_written w (step b rs))

  empty_is : (rs : RowsOf K) → is_empty rs ≡ true → rs ≡ []
  empty_is [] h = refl
  empty_is (r ∷ rs) h = absurd (true≢false (sym h))

  seek_word : (w : List ℕ) (rs : RowsOf K) (p : List ℕ) → is_written w rs ≡ true → seek 0 rs (w ++ p) ≡ seek 0 (after w rs) p
  seek_word [] rs p h = refl
  seek_word (b ∷ w) rs p h =
      let here = and_parts (is_empty (step param_token rs)) (is_empty (step catch_all_token rs) && is_written w (step b rs)) h in
      let more = and_parts (is_empty (step catch_all_token rs)) (is_written w (step b rs)) here.1 in
      seek_byte rs b (w ++ p) (empty_is (step param_token rs) here.0) (empty_is (step catch_all_token rs) more.0) ∙ seek_word w (step b rs) p more.1

  -- what is left after the last part
  past_end : (rs : RowsOf K) (p : List ℕ) → seek (suc (length p) - 1) rs p ≡ own rs
  unfolding seek
  past_end rs p =
      let n : suc (length p) - 1 ≡ length p = omega arith in
      ap (λ (m : ℕ). seek m rs p) n ∙ seek_drop (length p) rs p ∙ ap (λ (q : List ℕ). seek 0 rs q) (drop-length p)

  -- ---- one parameter
  abbrev pub one_left : K → RowsOf K
  one_left k = (param_token ∷ [], k) ∷ []

  param_step_one : (k : K) (xs : List ℕ) → has_slash xs ≡ false → param_step (([], k) ∷ []) xs ≡ (length xs, ([], k) ∷ [])
  unfolding param_step
  param_step_one k xs h = rw h refl

  seek_one : (k : K) (b : ℕ) (p : List ℕ) → b < 256 → has_slash (b ∷ p) ≡ false → seek 0 (one_left k) (b ∷ p) ≡ Some k
  unfolding seek
  seek_one k b p small h =
      let n : (param_token == b) ≡ false = grind (arith, nat_tests) in
      rw (n, seek_empty 0 p, param_step_one k (b ∷ p) h, past_end (([], k) ∷ []) p) refl

  -- ---- two parameters
  abbrev pub two_left : K → RowsOf K
  two_left k = (param_token ∷ 47 ∷ param_token ∷ [], k) ∷ []

  abbrev behind_first : K → RowsOf K
  behind_first k = (47 ∷ param_token ∷ [], k) ∷ []

  param_step_two : (k : K) (xs rest : List ℕ) → has_slash xs ≡ false → 0 < length xs
      → param_step (behind_first k) (xs ++ 47 ∷ rest) ≡ (length xs, behind_first k)
  unfolding param_step
  param_step_two k xs rest h some =
      let long : length (xs ++ 47 ∷ []) ≡ length xs + 1 = length-append xs (47 ∷ []) in
      let n : length (xs ++ 47 ∷ []) - 1 ≡ length xs = omega arith in
      rw (segment_slash xs rest h, cuts_slash xs some) (λ i. (n i, behind_first k))

  past_first : (k : K) (xs rest : List ℕ) → seek (suc (length xs) - 1) (behind_first k) (xs ++ 47 ∷ rest) ≡ seek 0 (one_left k) rest
  past_first k xs rest =
      let s : suc (length xs) - 1 ≡ length xs = omega arith in
      ap (λ (m : ℕ). seek m (behind_first k) (xs ++ 47 ∷ rest)) s
      ∙ seek_drop (length xs) (behind_first k) (xs ++ 47 ∷ rest)
      ∙ ap (λ (q : List ℕ). seek 0 (behind_first k) q) (drop-append_seam xs (47 ∷ rest))
      ∙ seek_byte (behind_first k) 47 rest refl refl

  seek_two : (k : K) (b : ℕ) (xs rest : List ℕ) → b < 256 → has_slash (b ∷ xs) ≡ false → seek 0 (two_left k) (b ∷ xs ++ 47 ∷ rest) ≡ seek 0 (one_left k) rest
  unfolding seek
  seek_two k b xs rest small h =
      let n : (param_token == b) ≡ false = grind (arith, nat_tests) in
      let long : 0 < length (b ∷ xs) = omega arith in
      rw (n, seek_empty 0 (xs ++ 47 ∷ rest), param_step_two k (b ∷ xs) rest h long, past_first k xs rest) (or_else_none (seek 0 (one_left k) rest))

  -- ---- two rows, the one with two parameters and the other with one
  abbrev pub both_left : K → K → RowsOf K
  both_left two one = (param_token ∷ 47 ∷ param_token ∷ [], two) ∷ (param_token ∷ [], one) ∷ []

  abbrev both_behind : K → K → RowsOf K
  both_behind two one = (47 ∷ param_token ∷ [], two) ∷ ([], one) ∷ []

  param_step_both_one : (two one : K) (xs : List ℕ) → has_slash xs ≡ false → param_step (both_behind two one) xs ≡ (length xs, both_behind two one)
  unfolding param_step
  param_step_both_one two one xs h = rw (segment_whole xs h, cuts_none xs h, h) refl

  param_step_both_two : (two one : K) (xs rest : List ℕ) → has_slash xs ≡ false → 0 < length xs
      → param_step (both_behind two one) (xs ++ 47 ∷ rest) ≡ (length xs, behind_first two)
  unfolding param_step
  param_step_both_two two one xs rest h some =
      let long : length (xs ++ 47 ∷ []) ≡ length xs + 1 = length-append xs (47 ∷ []) in
      let n : length (xs ++ 47 ∷ []) - 1 ≡ length xs = omega arith in
      rw (segment_slash xs rest h, cuts_slash xs some) (λ i. (n i, behind_first two))

  seek_both_one : (two one : K) (b : ℕ) (p : List ℕ) → b < 256 → has_slash (b ∷ p) ≡ false → seek 0 (both_left two one) (b ∷ p) ≡ Some one
  unfolding seek
  seek_both_one two one b p small h =
      let n : (param_token == b) ≡ false = grind (arith, nat_tests) in
      rw (n, seek_empty 0 p, param_step_both_one two one (b ∷ p) h, past_end (both_behind two one) p) refl

  seek_both_two : (two one : K) (b : ℕ) (xs rest : List ℕ) → b < 256 → has_slash (b ∷ xs) ≡ false
      → seek 0 (both_left two one) (b ∷ xs ++ 47 ∷ rest) ≡ seek 0 (one_left two) rest
  unfolding seek
  seek_both_two two one b xs rest small h =
      let n : (param_token == b) ≡ false = grind (arith, nat_tests) in
      let long : 0 < length (b ∷ xs) = omega arith in
      rw (n, seek_empty 0 (xs ++ 47 ∷ rest), param_step_both_two two one (b ∷ xs) rest h long, past_first two xs rest) (or_else_none (seek 0 (one_left two) rest))

-- ---- words and their parts
no_other : (v : Bool) → not v ≡ true → v ≡ false
no_other true h = sym h
no_other false h = refl

-- a byte of a part is a byte, and no slash
part_byte : (b : ℕ) → is_part_byte b ≡ true → (b < 256) × ((b == 47) ≡ false)
part_byte b h =
    let parts = and_parts (nat_lt b 128) (not (b == 47)) h in
    let low = parts.0 in
    let small : b < 256 = grind (arith, nat_tests) in
    (small, no_other (b == 47) parts.1)

no_slash : (xs : List ℕ) → list_all is_part_byte xs ≡ true → has_slash xs ≡ false
no_slash [] h = refl
no_slash (b ∷ xs) h = let parts = and_parts (is_part_byte b) (list_all is_part_byte xs) h in rw (part_byte b parts.0).1 (no_slash xs parts.1)

part_facts : (b : ℕ) (xs : List ℕ) → is_part (b ∷ xs) ≡ true → (b < 256) × (has_slash (b ∷ xs) ≡ false)
part_facts b xs h =
    let bytes = (and_parts (nat_lt 0 (length (b ∷ xs))) (list_all is_part_byte (b ∷ xs)) h).1 in
    ((part_byte b (and_parts (is_part_byte b) (list_all is_part_byte xs) bytes).0).0, no_slash (b ∷ xs) bytes)

module _ {K : Type 0} (w : List ℕ) (rs : RowsOf K) (written : is_written w rs ≡ true) where
  pub finds_one : (k : K) → after w rs ≡ one_left k → (part : List ℕ) → is_part part ≡ true → first rs (w ++ part) ≡ Some k
  finds_one k left [] h = absurd (true≢false (sym h))
  finds_one k left (b ∷ p) h =
      let (small, plain) = part_facts b p h in
      seek_word w rs (b ∷ p) written ∙ ap (λ (r : RowsOf K). seek 0 r (b ∷ p)) left ∙ seek_one k b p small plain

  pub finds_two : (k : K) → after w rs ≡ two_left k → (xs ys : List ℕ) → is_part xs ≡ true → is_part ys ≡ true → first rs (w ++ (xs ++ 47 ∷ ys)) ≡ Some k
  finds_two k left [] ys h g = absurd (true≢false (sym h))
  finds_two k left (b ∷ xs) [] h g = absurd (true≢false (sym g))
  finds_two k left (b ∷ xs) (c ∷ ys) h g =
      let (small, plain) = part_facts b xs h in
      let (low, clear) = part_facts c ys g in
      seek_word w rs (b ∷ xs ++ 47 ∷ c ∷ ys) written ∙ ap (λ (r : RowsOf K). seek 0 r (b ∷ xs ++ 47 ∷ c ∷ ys)) left
      ∙ seek_two k b xs (c ∷ ys) small plain ∙ seek_one k c ys low clear

  pub finds_one_of_both : (two one : K) → after w rs ≡ both_left two one → (part : List ℕ) → is_part part ≡ true → first rs (w ++ part) ≡ Some one
  finds_one_of_both two one left [] h = absurd (true≢false (sym h))
  finds_one_of_both two one left (b ∷ p) h =
      let (small, plain) = part_facts b p h in
      seek_word w rs (b ∷ p) written ∙ ap (λ (r : RowsOf K). seek 0 r (b ∷ p)) left ∙ seek_both_one two one b p small plain

  pub finds_two_of_both : (two one : K) → after w rs ≡ both_left two one → (xs ys : List ℕ) → is_part xs ≡ true → is_part ys ≡ true → first rs (w ++ (xs ++ 47 ∷ ys)) ≡ Some two
  finds_two_of_both two one left [] ys h g = absurd (true≢false (sym h))
  finds_two_of_both two one left (b ∷ xs) [] h g = absurd (true≢false (sym g))
  finds_two_of_both two one left (b ∷ xs) (c ∷ ys) h g =
      let (small, plain) = part_facts b xs h in
      let (low, clear) = part_facts c ys g in
      seek_word w rs (b ∷ xs ++ 47 ∷ c ∷ ys) written ∙ ap (λ (r : RowsOf K). seek 0 r (b ∷ xs ++ 47 ∷ c ∷ ys)) left
      ∙ seek_both_two two one b xs (c ∷ ys) small plain ∙ seek_one two c ys low clear
