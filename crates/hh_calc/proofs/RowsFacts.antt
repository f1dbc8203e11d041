-- The accounts of a period, row after row.
use Rattle.std.proofs.Common.{◌≡◌, ℕ, ◌+◌, ◌*◌, ◌^◌, ◌<◌, ◌≤◌, Bool, true, false, Option, Some, None, List, [], ◌∷◌, ◌++◌, length, get_or, take, map, refl, sym, ap, ◌∙◌, arith, add-one}
use Rattle.std.specs.Prelude.{ℤ, neg_ℤ, ◌-ℤ◌, unsigned_abs}
use Rattle.std.proofs.Math.IntN.{neg_ℤ-+ℤ}
use Rattle.std.proofs.Math.Nat.{suc-mul}
use Rattle.std.proofs.lemmas.Bool.{and_from, and_parts}
use Rattle.std.proofs.lemmas.Int.{ints}
use Rattle.std.proofs.lemmas.List.{get_or-map, map-append, map_more, take_more}
use Rattle.std.proofs.lemmas.List.Folds.{list_all_at, list_all_more}
use Rattle.hh_share.specs.Totals.{total}
use Rattle.hh_names.specs.declared.account.Account.{Account}
use Rattle.hh_calc.specs.declared.result.Figures.{Figures}
use Rattle.hh_calc.specs.declared.sums.AccountSums.{AccountSums}
use Rattle.hh_calc.specs.Formulas.{figures, figures_from, period_sums}
use Rattle.hh_calc.specs.steps.Sums.{no_sums}
use Rattle.hh_calc.specs.Limits.{are_accounts_within, are_within, greatest_cash, is_account_within}
use Rattle.hh_calc.specs.steps.Limits.{kept_where}
use Rattle.hh_calc.specs.Terms.{PeriodDataView}
use Rattle.hh_calc.proofs.RowFacts.{at_most}
use Rattle.hh_calc.proofs.SumLaws.{total-more}
use Rattle.hh_calc.proofs.WordFacts.{long_word, word}

-- a kept value passed the test
pub kept_some : {A : Type 0} (r : Option A) (test : Bool) (value v : A) → r ≡ kept_where test value → r ≡ Some v → (v ≡ value) × (test ≡ true)
kept_some r true value v e some = (sym (cc (sym e ∙ some)), refl)
kept_some r false value v e some = cc (sym e ∙ some)

pub kept_none : {A : Type 0} (r : Option A) (test : Bool) (value : A) → r ≡ kept_where test value → r ≡ None → test ≡ false
kept_none r true value e none = cc (sym e ∙ none)
kept_none r false value e none = refl

module _ (p : PeriodDataView) (place : ℕ) (account : Account) (inside : place < length p.accounts) (is : account ≡ get_or p.accounts place account) where
  -- The sums at an account's place are its sums over the period.
  pub sums_read : (sums : List AccountSums) → sums ≡ map (period_sums p) p.accounts → get_or sums place no_sums ≡ period_sums p account
  sums_read sums e = ap (λ l. get_or l place no_sums) e ∙ get_or-map (period_sums p) p.accounts place account no_sums inside ∙ ap (period_sums p) (sym is)

  -- The figures from these sums are the account's figures in the period.
  pub figures_read : (sums : List AccountSums) → sums ≡ map (period_sums p) p.accounts → (price : ℤ) → price ≡ p.price
      → figures_from account (get_or sums place no_sums) price ≡ figures p account
  figures_read sums e price same = λ i. figures_from account (sums_read sums e i) (same i)

  -- If one account is past the limits, not all are within them.
  pub past_account : is_account_within p account ≡ false → are_accounts_within p p.accounts ≡ false
  past_account past = list_all_at (is_account_within p) p.accounts place account inside (ap (is_account_within p) (sym is) ∙ past)

  -- One more account is within the limits.
  pub account_more : are_accounts_within p (take place p.accounts) ≡ true → is_account_within p account ≡ true → are_accounts_within p (take (place + 1) p.accounts) ≡ true
  account_more h k = list_all_more (is_account_within p) p.accounts place account inside ∙ and_from _ _ h (ap (is_account_within p) (sym is) ∙ k)

-- the mapped list with one more value
pub map_next : {A X : Type 0} (f : A → X) (rows : List A) (place : ℕ) (row : A) → place < length rows → row ≡ get_or rows place row
    → (items : List X) (x : X) → items ≡ map f (take place rows) → x ≡ f row → (new : List X) → new ≡ items ++ x ∷ [] → new ≡ map f (take (place + 1) rows)
map_next f rows place row inside is items x so_far same new e = e ∙ (λ i. so_far i ++ (same ∙ ap f is) i ∷ []) ∙ sym (map_more f rows place row inside)

-- the rows with one more, which shows the next value of a list
pub shown_next : {R X : Type 0} (f : R → X) (xs : List X) (place : ℕ) (d x : X) → place < length xs → x ≡ get_or xs place d
    → (rows : List R) (row : R) → map f rows ≡ take place xs → f row ≡ x → (new : List R) → new ≡ rows ++ row ∷ [] → map f new ≡ take (place + 1) xs
shown_next f xs place d x inside is rows row so_far same new e =
    ap (map f) e ∙ map-append f rows (row ∷ []) ∙ (λ i. so_far i ++ (same ∙ is) i ∷ []) ∙ sym (take_more xs place d inside)

pub residual_more : {X : Type 0} (f : X → ℤ) (accounts : List X) (place : ℕ) (account : X) → place < length accounts → account ≡ get_or accounts place account
    → (residual charge : ℤ) → residual ≡ neg_ℤ (total f (take place accounts)) → charge ≡ f account
    → residual -ℤ charge ≡ neg_ℤ (total f (take (place + 1) accounts))
residual_more f accounts place account inside is residual charge so_far same =
    (λ i. so_far i -ℤ same i)
    ∙ sym (ap neg_ℤ (total-more f accounts place account inside is) ∙ neg_ℤ-+ℤ (total f (take place accounts)) (f account))

pub charge_size : (f : Figures) → are_within f ≡ true → unsigned_abs f.charge ≤ greatest_cash
charge_size f h = at_most greatest_cash f.charge (and_parts _ _ h).1

pub residual_size : (place : ℕ) (residual charge : ℤ) → unsigned_abs residual ≤ place * greatest_cash → unsigned_abs charge ≤ greatest_cash → unsigned_abs (residual -ℤ charge) ≤ (place + 1) * greatest_cash
residual_size place residual charge small le = rw (add-one, suc-mul place greatest_cash) (omega (arith, ints))

-- the residual as the machine's words compute it
pub residual_word : (held wide residual charge : ℤ) → held ≡ residual → wide ≡ charge → unsigned_abs residual ≤ 10 ^ 35 → unsigned_abs charge ≤ greatest_cash
    → word (held -ℤ word wide) ≡ residual -ℤ charge
residual_word held wide residual charge same same' small small' =
    let both : unsigned_abs (residual -ℤ charge) ≤ 15 * 10 ^ 37 = omega (arith, ints) in
    (λ i. word (same i -ℤ word (same' i)))
    ∙ ap (λ z. word (residual -ℤ z)) (long_word charge (omega arith))
    ∙ long_word (residual -ℤ charge) both
