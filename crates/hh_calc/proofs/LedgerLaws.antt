-- The sums of accounts over units, one unit after another.
use Rattle.std.proofs.Common.{◌≡◌, ℕ, ◌+◌, ◌<◌, Bool, true, false, cond, List, [], ◌∷◌, ◌++◌, ◌-◌, ◌*◌, ◌≤◌, length, get_or, take, drop, map, replicate, refl, sym, ap, ◌∙◌, arith, subst, length-append}
use Rattle.std.specs.Prelude.{pos, ◌+ℤ◌, not, sum_by, All, IsPermutation}
use borrow.Rule.Slice.PartMut.{mid_of, put_mid}
use Rattle.std.proofs.Math.IntN.{+ℤ_idl}
use Rattle.std.proofs.Math.Seq.{drop-append_seam, take-append_seam}
use Rattle.std.proofs.lemmas.List.{append-nil, length-map, take_all, take_more}
use Rattle.std.proofs.lemmas.List.Concat.{flat_map-append}
use Rattle.std.proofs.lemmas.List.Elements.{filter_more, All-replicate}
use Rattle.std.proofs.lemmas.List.Sorted.{length_permutation, IsPermutation-append_left, IsPermutation-put_mid, IsPermutation-trans}
use Rattle.std.proofs.lemmas.List.Sums.{sum_by-append}
use Rattle.hh_share.specs.Totals.{total}
use Rattle.hh_share.proofs.TotalLaws.{total-append}
use Rattle.hh_names.specs.declared.account.Account.{Account}
use Rattle.hh_calc.specs.declared.result.CreditRow.{CreditRow}
use Rattle.hh_calc.specs.declared.sums.AccountSums.{AccountSums}
use Rattle.hh_calc.specs.Formulas.{balancing_ticks, balancing_of, credited_of, credits_of, net_contracts, period_sums, unit_credits, unit_sums, weighing, weight_of}
use Rattle.hh_calc.specs.steps.Formulas.{all_sums}
use Rattle.hh_calc.specs.Ready.{most_subsidiaries, HasFewSubsidiaries}
use Rattle.hh_calc.specs.steps.Sums.{balancing_amounts, greatest_credit, greatest_sum, greatest_volume, no_sums, with_amounts, with_credits, with_net_by, with_unit, AreChanged, AreGrown, IsWithin}
use Rattle.hh_calc.specs.Terms.{UnitDataView, PeriodDataView}
use Rattle.hh_calc.proofs.SumLaws.{all_within, changed_on, grown_on, none_more, total-more, weight_of_none}
use Rattle.hh_calc.proofs.CreditFacts.{credit_of}

-- a unit's credits and its balancing volume
pub unit_step : (u : UnitDataView) (a : Account) (s : AccountSums)
    → with_amounts u.lead (balancing_amounts (balancing_ticks u)) a (with_credits (not u.interconnector) (unit_credits u) a s) ≡ with_unit u a s
unit_step u a s = λ j. record {
  credited = none_more a u.lead (s.credited +ℤ total (credited_of a) (unit_credits u)) j;
  balancing = s.balancing +ℤ balancing_of a u;
  contracts = none_more a u.lead s.contracts j;
  weight = (weight_of_none a u.lead (s.weight + cond (not u.interconnector) (sum_by (weight_of a) (unit_credits u)) 0) ∙ ap (λ n. s.weight + n) (turned u.interconnector)) j;
}
  where
    turned : (b : Bool) → cond (not b) (sum_by (weight_of a) (unit_credits u)) 0 ≡ cond b 0 (sum_by (weight_of a) (unit_credits u))
    turned true = refl
    turned false = refl

module _ (units : List UnitDataView) (i : ℕ) (u : UnitDataView) (inside : i < length units) (is : u ≡ get_or units i u) where
  -- the credits of one more unit
  pub credits_next : credits_of (take (i + 1) units) ≡ credits_of (take i units) ++ unit_credits u
  credits_next =
      ap credits_of (take_more units i u inside)
      ∙ flat_map-append unit_credits (take i units) (get_or units i u ∷ [])
      ∙ ap (λ rows. credits_of (take i units) ++ rows) (append-nil (unit_credits (get_or units i u)) ∙ ap unit_credits (sym is))

  -- the same with the credits in any order
  pub credits_placed : (rows new : List CreditRow) → IsPermutation (credits_of (take i units)) rows → IsPermutation (rows ++ unit_credits u) new → IsPermutation (credits_of (take (i + 1) units)) new
  credits_placed rows new so_far placed =
      rw credits_next (IsPermutation-trans _ _ _ (IsPermutation-append_left (unit_credits u) (credits_of (take i units)) rows so_far) placed)

  -- the credits that weigh
  weighing_next : credits_of (weighing (take (i + 1) units)) ≡ credits_of (weighing (take i units)) ++ credits_of (cond (not u.interconnector) (u ∷ []) [])
  weighing_next =
      ap credits_of (filter_more (λ v. not v.interconnector) units i u inside)
      ∙ (λ j. credits_of (weighing (take i units) ++ cond (not (sym is j).interconnector) (sym is j ∷ []) []))
      ∙ flat_map-append unit_credits (weighing (take i units)) (cond (not u.interconnector) (u ∷ []) [])

  weight_next : (a : Account) → sum_by (weight_of a) (credits_of (weighing (take i units))) + cond u.interconnector 0 (sum_by (weight_of a) (unit_credits u)) ≡ sum_by (weight_of a) (credits_of (weighing (take (i + 1) units)))
  weight_next a = sym (
      ap (sum_by (weight_of a)) weighing_next
      ∙ sum_by-append (weight_of a) (credits_of (weighing (take i units))) (credits_of (cond (not u.interconnector) (u ∷ []) []))
      ∙ ap (λ n. sum_by (weight_of a) (credits_of (weighing (take i units))) + n) (one u.interconnector))
    where
      one : (b : Bool) → sum_by (weight_of a) (credits_of (cond (not b) (u ∷ []) [])) ≡ cond b 0 (sum_by (weight_of a) (unit_credits u))
      one true = refl
      one false = ap (sum_by (weight_of a)) (append-nil (unit_credits u))

  -- the sums over one more unit
  pub units_step : (a : Account) → with_unit u a (unit_sums (take i units) a) ≡ unit_sums (take (i + 1) units) a
  units_step a = λ j. record {
    credited = (sym (ap (total (credited_of a)) credits_next ∙ total-append (credited_of a) (credits_of (take i units)) (unit_credits u))) j;
    balancing = sym (total-more (balancing_of a) units i u inside is) j;
    contracts = pos 0;
    weight = weight_next a j;
  }

-- no units
pub sums_start : (accounts : List Account) → replicate (length accounts) no_sums ≡ map (unit_sums []) accounts
sums_start [] = refl
sums_start (a ∷ accounts) = λ i. no_sums ∷ sums_start accounts i

-- the credits that a unit appended are those behind the earlier ones
pub appended : (old new more : List CreditRow) (first : ℕ) → first ≡ length old → new ≡ old ++ more → take (length new - first) (drop first new) ≡ more
appended old new more first is e =
    let long : length new ≡ length old + length more = ap length e ∙ length-append old more in
    let behind : drop first new ≡ more = (λ i. drop (is i) (e i)) ∙ drop-append_seam old more in
    ap (take (length new - first)) behind ∙ take_all (length new - first) more (omega arith)

-- the credits behind the first ones are sorted and written back: all credits are still the same ones
pub reordered : (made rows part beneath : List CreditRow) (first n : ℕ) → rows ≡ made → length rows ≡ n
    → IsPermutation (mid_of first (length rows - first) rows) part
    → let whole = put_mid first (length rows - first) rows part in IsPermutation made (take n (whole ++ drop (length whole) beneath))
reordered made rows part beneath first n is long placed =
    let whole = put_mid first (length rows - first) rows part in
    let same : IsPermutation rows whole = IsPermutation-put_mid first (length rows - first) rows part placed in
    let count : length whole ≡ n = length_permutation rows whole same ∙ long in
    let read : take n (whole ++ drop (length whole) beneath) ≡ whole =
    ap (λ k. take k (whole ++ drop (length whole) beneath)) (sym count) ∙ take-append_seam whole (drop (length whole) beneath) in
    rw read (subst (λ rows. IsPermutation rows whole) is same)

-- a unit has at most 800 credits
few_credits : (u : UnitDataView) → HasFewSubsidiaries u → length (unit_credits u) ≤ most_subsidiaries + 1
few_credits u few =
    let long : length (unit_credits u) ≡ length u.subsidiaries + 1 = length-append (map (credit_of u) u.subsidiaries) _ ∙ ap (λ n. n + 1) (length-map u.subsidiaries (credit_of u)) in
    omega (arith, few)

module _ (u : UnitDataView) (credits : List CreditRow) (are : credits ≡ unit_credits u) (old middle new : List AccountSums) where
  pub unit_room : HasFewSubsidiaries u → All (IsWithin greatest_sum) old → AreGrown (length credits * greatest_credit) old middle → All (IsWithin (2 * greatest_sum)) middle
  unit_room few small grown =
      let long : length credits ≤ 800 = rw are (few_credits u few) in
      all_within (greatest_sum + length credits * greatest_credit) (2 * greatest_sum) middle (omega arith) (grown greatest_sum small)

  pub unit_grown : AreGrown (length credits * greatest_credit) old middle → AreGrown greatest_volume middle new → AreGrown (length (unit_credits u) * greatest_credit + greatest_volume) old new
  unit_grown = grown_on (length credits * greatest_credit) greatest_volume (length (unit_credits u) * greatest_credit + greatest_volume) (rw are refl) old middle new

  pub unit_added : (accounts : List Account) (weighs : Bool) → weighs ≡ not u.interconnector → (lead : Account) → lead ≡ u.lead → (x : AccountSums) → x ≡ balancing_amounts (balancing_ticks u)
      → AreChanged accounts (with_credits weighs credits) old middle → AreChanged accounts (with_amounts lead x) middle new → AreChanged accounts (with_unit u) old new
  unit_added accounts weighs weighs_is lead lead_is x x_is =
      changed_on accounts (with_credits weighs credits) (with_amounts lead x) (with_unit u)
      (λ a s. (λ i. with_amounts (lead_is i) (x_is i) a (with_credits (weighs_is i) (are i) a s)) ∙ unit_step u a s)
      old middle new

-- a period's contracts after its units
pub contracts_after : (p : PeriodDataView) (old new : List AccountSums)
    → old ≡ map (unit_sums p.units) p.accounts → AreChanged p.accounts (with_net_by p.accounts p.contracts) old new → new ≡ all_sums p
contracts_after p old new e changed = changed (unit_sums p.units) e ∙ (λ i. map (λ a. one a i) p.accounts)
  where
    one : (a : Account) → with_net_by p.accounts p.contracts a (unit_sums p.units a) ≡ period_sums p a
    one a = λ j. record (unit_sums p.units a) { contracts = +ℤ_idl (net_contracts p a) j }

-- sums of 0 are within any size
pub none_within : (accounts : List Account) (most : ℕ) (sums : List AccountSums) → sums ≡ replicate (length accounts) no_sums → All (IsWithin most) sums
none_within accounts most sums e =
    rw e (All-replicate (IsWithin most) (length accounts) no_sums (record { credited = omega arith; balancing = omega arith; contracts = omega arith; weight = omega arith }))
