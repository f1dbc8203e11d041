-- What `matchit` finds is a row, and the path begins with the bytes that the row spells.
use Rattle.std.proofs.Common.{◌≡◌, ◌⊎◌, ℕ, zero, suc, ◌-◌, List, [], ◌∷◌, ◌++◌, length, Option, Some, None, Bool, true, false, cond, inl, inr, refl, sym, ◌==◌, ltb, true≢false}
use Rattle.std.proofs.lemmas.Bool.{and_parts, eqb-true}
use Rattle.std.proofs.lemmas.Option.{none-some, same_Some}
use Rattle.std.specs.List.{list_all}
use Rattle.std.specs.Prelude.{nat_lt}
use Rattle.matchit.specs.Rows.{RowsOf, param_token, catch_all_token}
use Rattle.matchit.specs.Seek.{step, or_else, own, seek, first, param_step, has_slash, segment, same_text, with_suffix, longest_suffix}

-- a path begins with what a pattern spells before its first parameter
abbrev pub Begins : List ℕ → List ℕ → Type 0
Begins [] path = Unit {0}
Begins (x ∷ t) [] = nat_lt x 256 ≡ true → ⊥
Begins (x ∷ t) (b ∷ path) = nat_lt x 256 ≡ true → (x ≡ b) × Begins t path

abbrev pub is_byte : ℕ → Bool
is_byte b = nat_lt b 256

pub begins_word : (w t path : List ℕ) → list_all is_byte w ≡ true → Begins (w ++ t) path → (rest : List ℕ) × (path ≡ w ++ rest)
begins_word [] t path h begun = (path, refl)
begins_word (x ∷ w) t [] h begun = absurd (begun (and_parts (is_byte x) (list_all is_byte w) h).0)
begins_word (x ∷ w) t (b ∷ path) h begun =
    let bytes = and_parts (is_byte x) (list_all is_byte w) h in
    let here = begun bytes.0 in
    let (rest, is) = begins_word w t path bytes.1 here.1 in
    (rest, λ i. sym here.0 i ∷ is i)

module _ {K : Type 0} where
  -- a pattern and its key are one of these rows
  abbrev pub Among : List ℕ → K → RowsOf K → Type 0
  Among t k [] = ⊥
  Among t k ((u, j) ∷ rest) = ((u ≡ t) × (j ≡ k)) ⊎ Among t k rest

  own_among : (rs : RowsOf K) (k : K) → own rs ≡ Some k → Among [] k rs
  own_among [] k e = absurd (none-some k e)
  own_among (([], j) ∷ rest) k e = inl (refl, same_Some j k e)
  own_among ((x ∷ u, j) ∷ rest) k e = inr (own_among rest k e)

  step_among : (b : ℕ) (rs : RowsOf K) (t : List ℕ) (k : K) → Among t k (step b rs) → Among (b ∷ t) k rs
  step_among b [] t k a = a
  step_among b (([], j) ∷ rest) t k a = inr (step_among b rest t k a)
  step_among b ((x ∷ u, j) ∷ rest) t k a = by (step_among b rest t k) (x == b) refl a
    where
      by : (Among t k (step b rest) → Among (b ∷ t) k rest) → (v : Bool) → (x == b) ≡ v → Among t k (cond v ((u, j) ∷ step b rest) (step b rest))
          → Among (b ∷ t) k ((x ∷ u, j) ∷ rest)
      by later true e (inl (same, key)) = inl (λ i. eqb-true x b e i ∷ same i, key)
      by later true e (inr more) = inr (later more)
      by later false e more = inr (later more)

  suffix_among : (s : List ℕ) (rs : RowsOf K) (t : List ℕ) (k : K) → Among t k (with_suffix s rs) → Among t k rs
  suffix_among s [] t k a = a
  suffix_among s ((u, j) ∷ rest) t k a = by (suffix_among s rest t k) (same_text (segment u) s) a
    where
      by : (Among t k (with_suffix s rest) → Among t k rest) → (v : Bool) → Among t k (cond v ((u, j) ∷ with_suffix s rest) (with_suffix s rest)) → Among t k ((u, j) ∷ rest)
      by later true (inl here) = inl here
      by later true (inr more) = inr (later more)
      by later false more = inr (later more)

  param_among : (rs : RowsOf K) (p t : List ℕ) (k : K) → Among t k (param_step rs p).1 → Among t k rs
  unfolding param_step
  param_among rs p t k a = by (ltb 0 (length (longest_suffix (segment p) rs))) (has_slash p) a
    where
      by : (v w : Bool)
          → Among t k (cond {A = ℕ × RowsOf K} v (length (segment p) - length (longest_suffix (segment p) rs), with_suffix (longest_suffix (segment p) rs) rs) (cond {A = ℕ × RowsOf K} w (0, []) (length p, rs))).1
          → Among t k rs
      by true w b = suffix_among (longest_suffix (segment p) rs) rs t k b
      by false true b = absurd b
      by false false b = b

  which : (a c d : Option K) (k : K) → or_else a (or_else c d) ≡ Some k → (a ≡ Some k) ⊎ ((c ≡ Some k) ⊎ (d ≡ Some k))
  which None None d k e = inr (inr e)
  which None (Some j) d k e = inr (inl e)
  which (Some j) c d k e = inl e

  -- what is found is among the rows
  seek_among : (skip : ℕ) (rs : RowsOf K) (p : List ℕ) (k : K) → seek skip rs p ≡ Some k → (t : List ℕ) × Among t k rs
  unfolding seek
  seek_among skip rs [] k e = ([], own_among rs k e)
  seek_among (suc skip) rs (b ∷ p) k e = seek_among skip rs p k e
  seek_among zero rs (b ∷ p) k e =
      let taken = param_step (step param_token rs) (b ∷ p) in
      elim (which (seek 0 (step b rs) p) (seek (taken.0 - 1) taken.1 p) (own (step catch_all_token rs)) k e) [
        | inl here ↦ let (t, a) = seek_among 0 (step b rs) p k here in (b ∷ t, step_among b rs t k a)
        | inr (inl here) ↦
            let (t, a) = seek_among (taken.0 - 1) taken.1 p k here in
            (param_token ∷ t, step_among param_token rs t k (param_among (step param_token rs) (b ∷ p) t k a))
        | inr (inr here) ↦ (catch_all_token ∷ [], step_among catch_all_token rs [] k (own_among (step catch_all_token rs) k here))
      ]

  -- and the path begins as its row does
  pub first_begins : (rs : RowsOf K) (p : List ℕ) (k : K) → first rs p ≡ Some k → (t : List ℕ) × Among t k rs × Begins t p
  unfolding seek
  first_begins rs [] k e = ([], own_among rs k e, tt)
  first_begins rs (b ∷ p) k e =
      let taken = param_step (step param_token rs) (b ∷ p) in
      elim (which (seek 0 (step b rs) p) (seek (taken.0 - 1) taken.1 p) (own (step catch_all_token rs)) k e) [
        | inl here ↦ let (t, a, begun) = first_begins (step b rs) p k here in (b ∷ t, step_among b rs t k a, λ byte. (refl, begun))
        | inr (inl here) ↦
            let (t, a) = seek_among (taken.0 - 1) taken.1 p k here in
            (param_token ∷ t, step_among param_token rs t k (param_among (step param_token rs) (b ∷ p) t k a), λ byte. absurd (true≢false (sym byte)))
        | inr (inr here) ↦ (catch_all_token ∷ [], step_among catch_all_token rs [] k (own_among (step catch_all_token rs) k here), λ byte. absurd (true≢false (sym byte)))
      ]
