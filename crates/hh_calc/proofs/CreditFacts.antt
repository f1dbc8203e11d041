-- The amounts of credits, and that they fit the machine's words.
use Rattle.std.proofs.Common.{◌≡◌, ℕ, ◌+◌, ◌*◌, ◌^◌, ◌<◌, ◌≤◌, List, [], ◌∷◌, ◌++◌, length, get_or, take, map, refl, sym, ap, ◌∙◌, arith, FitsSigned, to_z, of_z, add-one}
use Rattle.std.specs.Prelude.{ℤ, pos, negsuc, ◌+ℤ◌, ◌-ℤ◌, ◌*ℤ◌, unsigned_abs}
use Rattle.std.specs.Int.{w64, w128}
use Rattle.std.specs.Int.Signed.{mag}
use Rattle.std.specs.Cmp.{IsTotalOrder, on_total, then_total}
use Rattle.std.specs.List.{All}
use Rattle.std.proofs.Math.Nat.{mul-le-mul, suc-mul}
use Rattle.std.proofs.lemmas.Int.{ints, to_z-of_z, unsigned_abs-mul}
use Rattle.std.proofs.lemmas.List.{append_assoc, map_more, take_all}
use Rattle.std.proofs.lemmas.List.Elements.{All-map, All-more, All-push}
use Rattle.hh_share.specs.Ranges.{IsBetween}
use Rattle.hh_share.specs.Rounding.{near}
use Rattle.hh_share.specs.Totals.{total}
use Rattle.hh_names.proofs.AccountLaws.{account_total, bytes_total}
use Rattle.hh_calc.specs.declared.data.Subsidiary.{Subsidiary}
use Rattle.hh_calc.specs.declared.result.CreditRow.{CreditRow}
use Rattle.hh_calc.specs.Formulas.{lead_credit, loss_adjusted, subsidiary_credit, unit_credits}
use Rattle.hh_calc.specs.Ready.{most_subsidiaries}
use Rattle.hh_calc.specs.Settled.{credit_cmp}
use Rattle.hh_calc.specs.steps.Sums.{IsCreditSmall}
use Rattle.hh_calc.specs.Terms.{UnitDataView}
use Rattle.hh_calc.proofs.SumLaws.{total-more}
use Rattle.hh_calc.proofs.WordFacts.{long_word, word}

-- a word has the value of an amount, which is at most so large
pub record Holds (held amount : ℤ) (most : ℕ) : Type 0 where
  pub is : held ≡ amount
  pub small : unsigned_abs amount ≤ most

pub held_fits : (held amount : ℤ) (most : ℕ) → Holds held amount most → most ≤ 10 ^ 36 → FitsSigned w128 held
held_fits held amount most h le =
    let small : unsigned_abs held ≤ most = rw h.is h.small in
    omega (arith, ints)

pub held_word : (held amount : ℤ) (most : ℕ) → Holds held amount most → most ≤ 10 ^ 36 → Holds (word held) amount most
held_word held amount most h le =
    let small : unsigned_abs amount ≤ most = h.small in
    record { is = ap word h.is ∙ long_word amount (omega arith); small = small }

-- a number of 64 bits, widened
pub held_wide : (v units wide : ℤ) (most : ℕ) → units ≡ v → unsigned_abs v ≤ most → most ≤ 10 ^ 18 → wide ≡ to_z w64 (of_z w64 units) → Holds (word wide) v most
held_wide v units wide most same le few e =
    let fits : FitsSigned w64 v = omega (arith, ints) in
    held_word wide v most (record { is = e ∙ ap (λ z. to_z w64 (of_z w64 z)) same ∙ to_z-of_z w64 v fits; small = le }) (omega arith)

module _ (a x b y : ℤ) (m n : ℕ) (h : Holds a x m) (k : Holds b y n) where
  pub held_times : Holds (a *ℤ b) (x *ℤ y) (m * n)
  held_times =
      let product : unsigned_abs x * unsigned_abs y ≤ m * n = mul-le-mul h.small k.small in
      record { is = λ i. h.is i *ℤ k.is i; small = rw (unsigned_abs-mul x y) product }

  pub held_plus : Holds (a +ℤ b) (x +ℤ y) (m + n)
  held_plus =
      let left : unsigned_abs x ≤ m = h.small in
      let right : unsigned_abs y ≤ n = k.small in
      record { is = λ i. h.is i +ℤ k.is i; small = omega (arith, ints) }

  pub held_minus : Holds (a -ℤ b) (x -ℤ y) (m + n)
  held_minus =
      let left : unsigned_abs x ≤ m = h.small in
      let right : unsigned_abs y ≤ n = k.small in
      record { is = λ i. h.is i -ℤ k.is i; small = omega (arith, ints) }

-- the sizes of the numbers that a credit is computed from
pub percent_most : (v : ℤ) → IsBetween (pos 0) (pos 10_000_000) v → unsigned_abs v ≤ 10 ^ 7
percent_most v (low, high) = omega (arith, ints)

pub multiplier_most : (v : ℤ) → IsBetween (pos 0) (pos 20_000_000) v → unsigned_abs v ≤ 2 * 10 ^ 7
multiplier_most v (low, high) = omega (arith, ints)

-- a credit is rounded from its amount in 10^-7 ticks
pub near_size : (x : ℤ) → unsigned_abs x ≤ 6 * 10 ^ 21 → unsigned_abs (near x (pos (10 ^ 7))) ≤ 10 ^ 15
near_size (pos n) le = omega arith
near_size (negsuc n) le = omega (arith, ints)

-- The amount of a subsidiary's credit, from numbers of 64 bits that are widened.
module _ (metered balancing percent : ℤ) (m b p : ℤ) (hm : Holds m metered (10 ^ 7)) (hb : Holds b balancing (10 ^ 7)) (hp : Holds p percent (10 ^ 7)) where
  pub held_percentage : Holds (word (m -ℤ b) *ℤ p) ((metered -ℤ balancing) *ℤ percent) (2 * 10 ^ 14)
  held_percentage = held_times _ _ _ _ (2 * 10 ^ 7) (10 ^ 7) (held_word _ _ _ (held_minus _ _ _ _ (10 ^ 7) (10 ^ 7) hm hb) (omega arith)) hp

  module _ (fixed f : ℤ) (hf : Holds f fixed (10 ^ 7)) where
    pub held_part : Holds (word (word (m -ℤ b) *ℤ p) +ℤ word (f *ℤ pos (10 ^ 7))) (((metered -ℤ balancing) *ℤ percent) +ℤ (fixed *ℤ pos (10 ^ 7))) (3 * 10 ^ 14)
    held_part = held_plus _ _ _ _ (2 * 10 ^ 14) (10 ^ 14) (held_word _ _ _ held_percentage (omega arith))
        (held_word _ _ _ (held_times _ _ _ _ (10 ^ 7) (10 ^ 7) hf (record { is = refl; small = omega arith })) (omega arith))

    module _ (tlm t : ℤ) (ht : Holds t tlm (2 * 10 ^ 7)) where
      pub held_amount : Holds (word (word (word (m -ℤ b) *ℤ p) +ℤ word (f *ℤ pos (10 ^ 7))) *ℤ t) ((((metered -ℤ balancing) *ℤ percent) +ℤ (fixed *ℤ pos (10 ^ 7))) *ℤ tlm) (6 * 10 ^ 21)
      held_amount = held_times _ _ _ _ (3 * 10 ^ 14) (2 * 10 ^ 7) (held_word _ _ _ held_part (omega arith)) ht

-- that amount is small enough to be rounded; rounded, it is the credit
pub held_limit : (held amount : ℤ) → Holds held amount (6 * 10 ^ 21) → unsigned_abs held ≤ 10 ^ 30
held_limit held amount h = let small : unsigned_abs amount ≤ 6 * 10 ^ 21 = h.small in rw h.is (omega arith)

pub held_credit : (result held amount : ℤ) → mag result < 2 ^ 127 → result ≡ near held (pos (10 ^ 7)) → Holds held amount (6 * 10 ^ 21) → Holds (word result) (near amount (pos (10 ^ 7))) (10 ^ 15)
held_credit result held amount fits e h = record {
  is = to_z-of_z w128 result (record { sfits = fits }) ∙ e ∙ ap (λ z. near z (pos (10 ^ 7))) h.is;
  small = near_size amount h.small;
}

-- The credits of a unit's subsidiaries, one after another.
abbrev pub credit_of : UnitDataView → Subsidiary → CreditRow
credit_of u s = record { unit = u.unit; account = s.account; credited = subsidiary_credit u s }

module _ (u : UnitDataView) (i : ℕ) (s : Subsidiary) (inside : i < length u.subsidiaries) (is : s ≡ get_or u.subsidiaries i s) where
  pub credits_more : (start so_far : List CreditRow) → so_far ≡ start ++ map (credit_of u) (take i u.subsidiaries)
      → (row : CreditRow) → row ≡ credit_of u s → (new : List CreditRow) → new ≡ so_far ++ row ∷ []
      → new ≡ start ++ map (credit_of u) (take (i + 1) u.subsidiaries)
  credits_more start so_far before row same new e =
      e
      ∙ (λ j. before j ++ (same ∙ ap (credit_of u) is) j ∷ [])
      ∙ append_assoc start (map (credit_of u) (take i u.subsidiaries)) (credit_of u (get_or u.subsidiaries i s) ∷ [])
      ∙ ap (λ rows. start ++ rows) (sym (map_more (credit_of u) u.subsidiaries i s inside))

  -- the rest, less one more credit
  pub rest_more : (rest credit : ℤ) → rest ≡ loss_adjusted u -ℤ total (subsidiary_credit u) (take i u.subsidiaries) → credit ≡ subsidiary_credit u s
      → rest -ℤ credit ≡ loss_adjusted u -ℤ total (subsidiary_credit u) (take (i + 1) u.subsidiaries)
  rest_more rest credit before same =
      (λ j. before j -ℤ same j)
      ∙ less (loss_adjusted u) (total (subsidiary_credit u) (take i u.subsidiaries)) (subsidiary_credit u s)
      ∙ ap (λ z. loss_adjusted u -ℤ z) (sym (total-more (subsidiary_credit u) u.subsidiaries i s inside is))
    where
      less : (a b c : ℤ) → (a -ℤ b) -ℤ c ≡ a -ℤ (b +ℤ c)
      less a b c = omega (arith, ints)

  pub small_more : All (λ x. unsigned_abs (subsidiary_credit u x) ≤ 10 ^ 18) (take i u.subsidiaries) → (credit : ℤ) → credit ≡ subsidiary_credit u s → unsigned_abs credit ≤ 10 ^ 15
      → All (λ x. unsigned_abs (subsidiary_credit u x) ≤ 10 ^ 18) (take (i + 1) u.subsidiaries)
  small_more before credit same le =
      let here : unsigned_abs (subsidiary_credit u (get_or u.subsidiaries i s)) ≤ 10 ^ 15 = rw (sym (same ∙ ap (subsidiary_credit u) is)) le in
      All-more (λ x. unsigned_abs (subsidiary_credit u x) ≤ 10 ^ 18) u.subsidiaries i s inside before (omega arith)

-- the rest as a machine's word
pub rest_word : (i : ℕ) (rest credit : ℤ) → i ≤ most_subsidiaries → unsigned_abs rest ≤ 2 * 10 ^ 14 + i * 10 ^ 15 → unsigned_abs credit ≤ 10 ^ 15
    → Holds (word (rest -ℤ word credit)) (rest -ℤ credit) (2 * 10 ^ 14 + (i + 1) * 10 ^ 15)
rest_word i rest credit few le le' =
    let both : unsigned_abs (rest -ℤ credit) ≤ 2 * 10 ^ 14 + (i + 1) * 10 ^ 15 = rw (add-one, suc-mul i (10 ^ 15)) (omega (arith, ints)) in
    let low : unsigned_abs (rest -ℤ credit) ≤ 10 ^ 36 = omega (arith, ints) in
    record {
      is = ap (λ z. word (rest -ℤ z)) (long_word credit (omega arith)) ∙ long_word (rest -ℤ credit) (omega arith);
      small = both;
    }

-- all the credits of a unit are small
pub unit_credits_small : (u : UnitDataView) (i : ℕ) (rest : ℤ) → length u.subsidiaries ≤ i → i ≤ most_subsidiaries
    → All (λ x. unsigned_abs (subsidiary_credit u x) ≤ 10 ^ 18) (take i u.subsidiaries)
    → rest ≡ loss_adjusted u -ℤ total (subsidiary_credit u) (take i u.subsidiaries) → unsigned_abs rest ≤ 2 * 10 ^ 14 + i * 10 ^ 15
    → All IsCreditSmall (unit_credits u)
unit_credits_small u i rest all few each is le =
    let whole : take i u.subsidiaries ≡ u.subsidiaries = take_all i u.subsidiaries all in
    let lead : unsigned_abs (lead_credit u) ≤ 10 ^ 18 = rw (sym (is ∙ ap (λ l. loss_adjusted u -ℤ total (subsidiary_credit u) l) whole)) (omega arith) in
    All-push IsCreditSmall (map (credit_of u) u.subsidiaries) _
    (All-map IsCreditSmall (credit_of u) u.subsidiaries (rw whole at each)) lead

-- the order of credits is total
pub credit_total : IsTotalOrder credit_cmp
credit_total = then_total (on_total (λ c. c.unit) bytes_total) (on_total (λ c. c.account) account_total)
