-- Words in buffers padded with zeros.
use Rattle.std.proofs.Common.{◌≡◌, ℕ, zero, suc, ◌-◌, ◌<◌, ◌≤◌, ◌++◌, ◌&&◌, List, [], ◌∷◌, drop, length, Bool, true, false, cond, refl, sym, ap, ◌∙◌, arith}
use Rattle.std.proofs.Math.Bool.{true≢false}
use Rattle.std.proofs.lemmas.Bool.{and_from, and_parts, eqb-true}
use Rattle.std.proofs.lemmas.Bool.Decides.{nat_tests}
use Rattle.std.specs.Prelude.{replicate, codes, bytes_eq, nat_eq, nat_le, IsAscii}
use Rattle.std.specs.List.{list_all}
use Rattle.std.proofs.lemmas.List.{drop-replicate}
use Rattle.std.proofs.lemmas.List.Sums.{take_while-cons}
use Rattle.std.specs.Ordering.{nat_cmp}
use Rattle.std.specs.Cmp.Lexicographic.{slice_cmp}
use Rattle.hh_names.proofs.AsciiLaws.{all_ascii}
use Rattle.hh_names.proofs.ByteFacts.{padded_order}
use Rattle.hh_names.specs.Words.{is_letter_or_digit, is_not_zero, is_operator_key, is_reference_byte, is_word, padded, word_in}

-- ---- bytes other than zero
suc_is_not_zero : (b : ℕ) → is_not_zero (suc b) ≡ true
suc_is_not_zero b = grind (arith, nat_tests)

word_not_zero : (buffer : List ℕ) → list_all is_not_zero (word_in buffer) ≡ true
word_not_zero [] = refl
word_not_zero (b ∷ rest) = ap (list_all is_not_zero) (take_while-cons is_not_zero b rest) ∙ by (word_not_zero rest) (is_not_zero b) refl
  where
    by : list_all is_not_zero (word_in rest) ≡ true → (told : Bool) → is_not_zero b ≡ told → list_all is_not_zero (cond told (b ∷ word_in rest) []) ≡ true
    by rest_not true e = and_from _ _ e rest_not
    by rest_not false e = refl

allowed_not_zero : (allows : ℕ → Bool) → allows 0 ≡ false → (text : List ℕ) → list_all allows text ≡ true → list_all is_not_zero text ≡ true
allowed_not_zero allows no_zero [] h = refl
allowed_not_zero allows no_zero (zero ∷ rest) h = absurd (true≢false (sym (and_parts (allows 0) (list_all allows rest) h).0 ∙ no_zero))
allowed_not_zero allows no_zero (suc b ∷ rest) h = and_from _ _ (suc_is_not_zero b) (allowed_not_zero allows no_zero rest (and_parts (allows (suc b)) (list_all allows rest) h).1)

-- ---- texts in buffers filled up with zeros
word_before_zeros : (text : List ℕ) (n : ℕ) → list_all is_not_zero text ≡ true → word_in (text ++ replicate n 0) ≡ text
word_before_zeros [] zero h = refl
word_before_zeros [] (suc n) h = refl
word_before_zeros (b ∷ rest) n h =
    let parts = and_parts (is_not_zero b) (list_all is_not_zero rest) h in
    take_while-cons is_not_zero b (rest ++ replicate n 0) ∙ (λ i. cond (parts.0 i) (b ∷ word_before_zeros rest n parts.1 i) [])

module _ (allows : ℕ → Bool) (no_zero : allows 0 ≡ false) (least most : ℕ) (text copied : List ℕ) (same : copied ≡ text) (passes : is_word allows least most text ≡ true) where
  -- a buffer of zeros with the text copied over its front
  abbrev written : List ℕ
  written = copied ++ drop (length text) (replicate most 0)

  is_padded : padded most text ≡ written
  is_padded = sym (λ i. same i ++ drop-replicate (length text) most 0 i)

  pub word_written : word_in written ≡ text
  unfolding is_word
  word_written =
      let parts = and_parts (nat_le least (length text) && nat_le (length text) most) (list_all allows text) passes in
      sym (ap word_in is_padded) ∙ word_before_zeros text (most - length text) (allowed_not_zero allows no_zero text parts.1)

  pub invariant_written : (padded most (word_in written) ≡ written) × (is_word allows least most (word_in written) ≡ true)
  invariant_written = (ap (padded most) word_written ∙ is_padded, ap (is_word allows least most) word_written ∙ passes)

-- the order of two words is that of their buffers
module _ (allows : ℕ → Bool) (least most : ℕ) where
  fits_buffer : (text : List ℕ) → is_word allows least most text ≡ true → length text ≤ most
  unfolding is_word
  fits_buffer text passes = grind (arith, nat_tests)

  pub order_in_buffers : (a b : List ℕ) → (padded most (word_in a) ≡ a) × (is_word allows least most (word_in a) ≡ true) → (padded most (word_in b) ≡ b) × (is_word allows least most (word_in b) ≡ true)
      → slice_cmp nat_cmp a b ≡ slice_cmp nat_cmp (word_in a) (word_in b)
  order_in_buffers a b p q =
      let fits_a = fits_buffer (word_in a) p.1 in
      let fits_b = fits_buffer (word_in b) q.1 in
      (λ i. slice_cmp nat_cmp (sym p.0 i) (sym q.0 i))
      ∙ padded_order (word_in a) (word_in b) (most - length (word_in a)) (most - length (word_in b)) (omega arith) (word_not_zero a) (word_not_zero b)

-- each byte of an operator's key is one that references may have
letters_allowed : (rest : List ℕ) → list_all is_letter_or_digit rest ≡ true → list_all is_reference_byte rest ≡ true
letters_allowed [] h = refl
letters_allowed (b ∷ rest) h =
    let parts = and_parts (is_letter_or_digit b) (list_all is_letter_or_digit rest) h in
    rw (parts.0) (letters_allowed rest parts.1)

pub operator_key_is_word : (text : List ℕ) → is_operator_key text ≡ true → is_word is_reference_byte 11 64 text ≡ true
unfolding is_operator_key is_word
operator_key_is_word [] h = cc h
operator_key_is_word (a ∷ []) h = absurd (true≢false (sym h ∙ front (nat_eq a 111)))
  where
    front : (p : Bool) → ((p && false) && is_word is_letter_or_digit 8 61 []) ≡ false
    front true = refl
    front false = refl
operator_key_is_word (a ∷ b ∷ []) h = absurd (true≢false (sym h ∙ front (nat_eq a 111) (nat_eq b 112)))
  where
    front : (p q : Bool) → ((p && (q && false)) && is_word is_letter_or_digit 8 61 []) ≡ false
    front true true = refl
    front true false = refl
    front false q = refl
operator_key_is_word (a ∷ b ∷ c ∷ rest) h =
    let parts = and_parts (bytes_eq (a ∷ b ∷ c ∷ []) (codes "op-")) (is_word is_letter_or_digit 8 61 rest) h in
    let first = and_parts (nat_eq a 111) (nat_eq b 112 && (nat_eq c 45 && true)) parts.0 in
    let second = and_parts (nat_eq b 112) (nat_eq c 45 && true) first.1 in
    let third = and_parts (nat_eq c 45) true second.1 in
    let sizes = and_parts (nat_le 8 (length rest) && nat_le (length rest) 61) (list_all is_letter_or_digit rest) parts.1 in
    let fits : (nat_le 11 (suc (suc (suc (length rest)))) && nat_le (suc (suc (suc (length rest)))) 64) ≡ true = grind (arith, nat_tests) in
    rw (eqb-true a 111 first.0, eqb-true b 112 second.0, eqb-true c 45 third.0) (and_from _ _ fits (letters_allowed rest sizes.1))

-- a word of an alphabet below 128 is ASCII
pub word_is_ascii : (allows : ℕ → Bool) → ((b : ℕ) → allows b ≡ true → b < 128) → (least most : ℕ) (text : List ℕ) → is_word allows least most text ≡ true → IsAscii text
unfolding is_word
word_is_ascii allows below least most text h = all_ascii allows below text (and_parts (nat_le least (length text) && nat_le (length text) most) (list_all allows text) h).1
