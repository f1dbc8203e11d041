-- The figures of one account, and the limits.
use Rattle.std.proofs.Common.{◌≡◌, ℕ, ◌*◌, ◌^◌, ◌<◌, ◌≤◌, Bool, true, false, cond, Option, Some, None, refl, sym, ap, ◌∙◌, arith, FitsSigned, to_z, of_z}
use Rattle.std.specs.Prelude.{ℤ, pos, neg_ℤ, ◌-ℤ◌, ◌*ℤ◌, unsigned_abs}
use Rattle.std.specs.Int.{w64, w128}
use Rattle.std.specs.Int.Signed.{mag}
use Rattle.std.proofs.Math.IntN.{+ℤ_idl}
use Rattle.std.proofs.Math.Nat.{mul-le-mul}
use Rattle.std.proofs.lemmas.Int.{ints, to_z-of_z, unsigned_abs-mul}
use Rattle.hh_share.specs.Ranges.{IsBetween}
use Rattle.std.proofs.lemmas.Bool.Decides.{nat_tests}
use Rattle.hh_names.specs.declared.account.Account.{Account}
use Rattle.hh_calc.specs.declared.sums.AccountSums.{AccountSums}
use Rattle.hh_calc.specs.declared.result.Figures.{Figures}
use Rattle.hh_calc.specs.Formulas.{charge_for, figures_from, imbalance_of}
use Rattle.hh_calc.specs.Limits.{are_within, is_at_most}
use Rattle.hh_calc.specs.steps.Limits.{kept_where}
use Rattle.hh_calc.specs.steps.Sums.{greatest_sum, IsWithin}
use Rattle.hh_calc.proofs.WordFacts.{long_word, word}

-- an amount that is within a limit, and one that is past it
pub in_limit : (most : ℕ) (x word v : ℤ) (r : Option ℤ) → r ≡ cond (is_at_most most word) (Some word) None → word ≡ x → r ≡ Some v → (v ≡ x) × (is_at_most most x ≡ true)
in_limit most x word v r e same some = go (is_at_most most word) refl (sym e ∙ some)
  where
    go : (b : Bool) → is_at_most most word ≡ b → cond b (Some word) None ≡ Some v → (v ≡ x) × (is_at_most most x ≡ true)
    go true k h = (sym (cc h) ∙ same, ap (is_at_most most) (sym same) ∙ k)
    go false k h = cc h

pub past_limit : (most : ℕ) (x word : ℤ) (r : Option ℤ) → r ≡ cond (is_at_most most word) (Some word) None → word ≡ x → r ≡ None → is_at_most most x ≡ false
past_limit most x word r e same none = go (is_at_most most word) refl (sym e ∙ none)
  where
    go : (b : Bool) → is_at_most most word ≡ b → cond b (Some word) None ≡ None → is_at_most most x ≡ false
    go true k h = cc h
    go false k h = ap (is_at_most most) (sym same) ∙ k

-- the imbalance as the machine's words compute it
pub imbalance_word : (s : AccountSums) → IsWithin greatest_sum s
    → word (word (word s.credited -ℤ word s.balancing) -ℤ word s.contracts) ≡ imbalance_of s
imbalance_word s small =
    let a : unsigned_abs s.credited ≤ 4 * 10 ^ 37 = small.credited in
    let b : unsigned_abs s.balancing ≤ 4 * 10 ^ 37 = small.balancing in
    let d : unsigned_abs s.contracts ≤ 4 * 10 ^ 37 = small.contracts in
    let first : unsigned_abs (s.credited -ℤ s.balancing) ≤ 15 * 10 ^ 37 = omega (arith, ints) in
    let all : unsigned_abs ((s.credited -ℤ s.balancing) -ℤ s.contracts) ≤ 15 * 10 ^ 37 = omega (arith, ints) in
    (λ i. word (word (long_word s.credited (omega arith) i -ℤ long_word s.balancing (omega arith) i) -ℤ long_word s.contracts (omega arith) i))
    ∙ ap (λ z. word (z -ℤ s.contracts)) (long_word (s.credited -ℤ s.balancing) first)
    ∙ long_word ((s.credited -ℤ s.balancing) -ℤ s.contracts) all

-- minus the energy times the price, as the words compute it; it is small enough to be rounded
pub charge_word : (imbalance price wide wide' : ℤ) → unsigned_abs imbalance ≤ 10 ^ 17 → unsigned_abs price ≤ 10 ^ 10 → wide ≡ imbalance → wide' ≡ price
    → let amount : ℤ = to_z w128 (of_z w128 (pos 0 -ℤ to_z w128 (of_z w128 (to_z w128 (of_z w128 wide) *ℤ to_z w128 (of_z w128 wide'))))) in
    (amount ≡ neg_ℤ (imbalance *ℤ price)) × (unsigned_abs amount ≤ 10 ^ 30)
charge_word imbalance price wide wide' a b same same' =
    let product = unsigned_abs-mul imbalance price in
    let low : unsigned_abs imbalance * unsigned_abs price ≤ 10 ^ 17 * 10 ^ 10 = mul-le-mul a b in
    let small : unsigned_abs (imbalance *ℤ price) ≤ 10 ^ 27 = omega arith in
    let turned : unsigned_abs (neg_ℤ (imbalance *ℤ price)) ≤ 10 ^ 27 = omega (arith, ints) in
    let is =
    (λ i. to_z w128 (of_z w128 (pos 0 -ℤ to_z w128 (of_z w128 (to_z w128 (of_z w128 (same i)) *ℤ to_z w128 (of_z w128 (same' i)))))))
    ∙ (λ i. to_z w128 (of_z w128 (pos 0 -ℤ to_z w128 (of_z w128 (long_word imbalance (omega arith) i *ℤ long_word price (omega arith) i)))))
    ∙ ap (λ z. to_z w128 (of_z w128 (pos 0 -ℤ z))) (long_word (imbalance *ℤ price) (omega arith))
    ∙ ap (λ z. to_z w128 (of_z w128 z)) (+ℤ_idl (neg_ℤ (imbalance *ℤ price)))
    ∙ long_word (neg_ℤ (imbalance *ℤ price)) (omega arith) in
    (is, rw is (omega arith))

-- a number of 64 bits, widened
pub widened : (v units wide : ℤ) → units ≡ v → unsigned_abs v ≤ 10 ^ 18 → wide ≡ to_z w64 (of_z w64 units) → wide ≡ v
widened v units wide same le e =
    let fits : FitsSigned w64 v = omega (arith, ints) in
    e ∙ ap (λ z. to_z w64 (of_z w64 z)) same ∙ to_z-of_z w64 v fits

pub price_size : (p : ℤ) → IsBetween (neg_ℤ (pos 9_999_999_999)) (pos 9_999_999_999) p → unsigned_abs p ≤ 10 ^ 10
price_size p (low, high) = omega (arith, ints)

pub at_most : (most : ℕ) (x : ℤ) → is_at_most most x ≡ true → unsigned_abs x ≤ most
at_most most x h = grind (arith, nat_tests)

-- a number that fits 128 bits is its word
pub cash_word : (x : ℤ) → mag x < 2 ^ 127 → to_z w128 (of_z w128 x) ≡ x
cash_word x h = to_z-of_z w128 x (record { sfits = h })

-- an account's sum fits a word
pub sum_held : (x : ℤ) → unsigned_abs x ≤ greatest_sum → word x ≡ x
sum_held x le = long_word x (omega arith)

-- nothing is kept if the test fails
pub none_kept : {A : Type 0} (r : Option A) (test : Bool) (value : A) → r ≡ None → test ≡ false → r ≡ kept_where test value
none_kept r test value none past = none ∙ ap (λ b. cond b (Some value) None) (sym past)

-- the figures from the sums are kept if they pass no limit
pub figures_kept : (account : Account) (sums : AccountSums) (price : ℤ) (credited balancing contracts imbalance charge : ℤ)
    → credited ≡ sums.credited → balancing ≡ sums.balancing → contracts ≡ sums.contracts → imbalance ≡ imbalance_of sums → charge ≡ charge_for (imbalance_of sums) price
    → are_within (figures_from account sums price) ≡ true
    → let figures : Figures = record { account = account; credited = credited; balancing = balancing; contracts = contracts; imbalance = imbalance; charge = charge } in
    Some figures ≡ kept_where (are_within (figures_from account sums price)) (figures_from account sums price)
figures_kept account sums price credited balancing contracts imbalance charge a b d e f within =
    (λ i. Some (record { account = account; credited = a i; balancing = b i; contracts = d i; imbalance = e i; charge = f i }))
    ∙ ap (λ t. cond t (Some (figures_from account sums price)) None) (sym within)
