-- The parts of a day report: sums of charges, the numbers of periods, and rows whose periods never fall.
use Rattle.std.proofs.Common.{◌≡◌, ℕ, ◌+◌, ◌^◌, ◌<◌, ◌≤◌, List, length, take, get_or, inl, inr, sym, ap, ◌∙◌, arith, FitsSigned, to_z, of_z}
use Rattle.std.specs.Prelude.{ℤ, unsigned_abs}
use Rattle.std.specs.Int.{w128}
use Rattle.std.specs.List.{range_with_len}
use Rattle.std.proofs.lemmas.Int.{ints, to_z-of_z}
use Rattle.std.proofs.lemmas.Bool.{cases_lt}
use Rattle.std.proofs.lemmas.List.{get_or_default, take_all}
use Rattle.std.proofs.lemmas.List.FromFn.{get_or-range_with_len, length-range_with_len}
use Rattle.hh_calc.specs.declared.result.AccountRow.{AccountRow}

-- a number as a word of 128 bits
abbrev pub word : ℤ → ℤ
word x = to_z w128 (of_z w128 x)

long_word : (x : ℤ) → unsigned_abs x ≤ 10 ^ 38 → word x ≡ x
long_word x le = let fits : FitsSigned w128 x = omega (arith, ints) in to_z-of_z w128 x fits

pub short_word : (x : ℤ) → unsigned_abs x ≤ 2 ^ 126 → word x ≡ x
short_word x small = let less : unsigned_abs x ≤ 10 ^ 38 = omega arith in long_word x less

-- the numbers of so many periods after one
pub among_periods : (first count step : ℕ) → step < count → step < length (range_with_len first count)
among_periods first count step inside = rw (length-range_with_len first count) inside

pub period_at : (first count step : ℕ) → step < count → first + step ≡ get_or (range_with_len first count) step (first + step)
period_at first count step inside = sym (get_or-range_with_len first count step (first + step) inside)

pub all_periods : (first count step : ℕ) → count ≤ step → take step (range_with_len first count) ≡ range_with_len first count
all_periods first count step all = take_all step (range_with_len first count) (rw (length-range_with_len first count) all)

-- the Settlement Periods of the first rows never fall, and none is above the last
abbrev pub Rises : List (ℕ × AccountRow) → ℕ → Type 0
Rises rows i = (a b : ℕ) (d : ℕ × AccountRow) → a ≤ b → b < i → (get_or rows a d).0 ≤ (get_or rows b d).0

abbrev pub StaysBelow : List (ℕ × AccountRow) → ℕ → ℕ → Type 0
StaysBelow rows i last = (a : ℕ) (d : ℕ × AccountRow) → a < i → (get_or rows a d).0 ≤ last

-- one more row
module _ (rows : List (ℕ × AccountRow)) (i : ℕ) (row : ℕ × AccountRow) (inside : i < length rows) (is : row ≡ get_or rows i row) where
  here : (b : ℕ) (d : ℕ × AccountRow) → b ≡ i → (get_or rows b d).0 ≡ row.0
  here b d same = ap (λ k. (get_or rows k d).0) same ∙ ap (λ (e : ℕ × AccountRow). e.0) (get_or_default rows i d row inside ∙ sym is)

  module _ (last : ℕ) (higher : last ≤ row.0) (below : StaysBelow rows i last) where
    pub stays_below : StaysBelow rows (i + 1) row.0
    stays_below a d lt = elim (cases_lt a i) [
      | inl before ↦ let k = below a d before in omega arith
      | inr at ↦ let e = here a d (omega arith) in omega arith
    ]

    pub rises_on : Rises rows i → Rises rows (i + 1)
    rises_on rises a b d le lt = elim (cases_lt b i) [
      | inl before ↦ rises a b d le before
      | inr at ↦ let e = here b d (omega arith) in let k = stays_below a d (omega arith) in omega arith
    ]
