-- A settled period is as its definition says: its rows show the accounts' figures and shares, and its credits are those of the
-- units, in order.
use Rattle.std.proofs.Common.{◌≡◌, ◌≢◌, ℕ, zero, suc, ◌<◌, List, [], ◌∷◌, length, get_or, map, refl, sym, ap, subst, ◌∙◌, Bool, false, Ordering, arith, add-one}
use Rattle.std.specs.Prelude.{ℤ, pos, neg_ℤ, ◌+ℤ◌, All, AllPairs, T}
use Rattle.std.specs.Cmp.{IsTotalOrder}
use Rattle.std.specs.FinMap.{is_sorted}
use Rattle.std.specs.FinMap.Entries.{below_all}
use Rattle.std.specs.List.{AllByRecursion}
use Rattle.std.specs.List.Sorted.{IsPermutation, IsSorted}
use Rattle.std.specs.Ordering.{eq_by_cmp, is_lt, ordering_reverse}
use Rattle.std.proofs.Math.IntN.{+ℤ_invr}
use Rattle.std.proofs.lemmas.List.{length-map}
use Rattle.std.proofs.lemmas.List.Elements.{All-weaker, recursion_from_All}
use Rattle.std.proofs.lemmas.List.Sorted.{IsPermutation-map}
use Rattle.std.proofs.lemmas.Map.Lookups.{exact_bytes}
use Rattle.hh_num.specs.Totals.{total}
use Rattle.hh_num.proofs.TotalLaws.{total-map, total-plus}
use Rattle.hh_tables.specs.Tables.{in_key_order}
use Rattle.hh_tables.proofs.RowLaws.{first, less, second}
use Rattle.hh_tables.proofs.TableLaws.{is_sorted-in_key_order}
use Rattle.hh_names.specs.declared.account.Account.{Account}
use Rattle.hh_names.specs.Accounts.{account_cmp, bytes_cmp}
use Rattle.hh_names.proofs.AccountLaws.{exact_accounts}
use Rattle.hh_share.proofs.SumLaws.{length-shares, shares_sum}
use Rattle.hh_calc.specs.declared.data.Subsidiary.{Subsidiary}
use Rattle.hh_calc.specs.declared.result.AccountRow.{AccountRow}
use Rattle.hh_calc.specs.declared.result.CreditRow.{CreditRow}
use Rattle.hh_calc.specs.declared.result.Figures.{Figures}
use Rattle.hh_calc.specs.Formulas.{all_figures, credits_of, figures, lead_credit, period_sums, residual, residual_shares, subsidiary_credit, unit_credits, weights}
use Rattle.hh_calc.specs.Settled.{AddsUp, credit_cmp, figures_of, paid_by, shares_shown}
use Rattle.hh_calc.specs.Terms.{UnitDataView, PeriodDataView}
use Rattle.hh_calc.specs.Ready.{AreInOrder, AreListed, AreUnitsDistinct}
use Rattle.hh_calc.proofs.PeriodLaws.{adds_up}
use Rattle.hh_states.specs.PeriodSettlement.{UnitAccount, account_rows, in_credit_order, keyed_credits, settled, unit_account_cmp}
use Rattle.hh_states.specs.Sums.{CreditsEachOnce, SettlesEachPeriod}
use Rattle.hh_states.proofs.KeyLaws.{unit_account_total}
use Rattle.hh_state_laws.proofs.AmountLaws.{in_key_order_moves, told_apart}
use Rattle.hh_state_laws.proofs.ApartLaws.{NoneAlike, all-append, all-map, distinct-append, distinct-map, distinct_blocks, first_part, have_one_key, second_part}

-- rows made of figures and shares show the figures
pub figures_shown : (fs : List Figures) (shares : List ℤ) → length fs ≡ length shares → map figures_of (account_rows fs shares) ≡ fs
figures_shown [] shares same = refl
figures_shown (f ∷ fs) [] same = absurd (omega arith)
figures_shown (f ∷ fs) (x ∷ shares) same = ap (λ t. f ∷ t) (figures_shown fs shares (omega arith))

-- and they show the shares
shares_are_shown : (fs : List Figures) (shares : List ℤ) → length fs ≡ length shares → shares_shown (account_rows fs shares) ≡ shares
shares_are_shown [] [] same = refl
shares_are_shown [] (x ∷ shares) same = absurd (omega arith)
shares_are_shown (f ∷ fs) [] same = absurd (omega arith)
shares_are_shown (f ∷ fs) (x ∷ shares) same = ap (λ t. x ∷ t) (shares_are_shown fs shares (omega arith))

-- each account has a share
pub a_share_each : (p : PeriodDataView) → length (all_figures p) ≡ length (residual_shares p)
a_share_each p =
    length-map p.accounts (figures p)
    ∙ sym (length-shares (residual p) (weights p) ∙ length-map p.accounts (λ a. (period_sums p a).weight))

-- a residual other than zero is shared by at least one account
some_account : (accounts : List Account) (f : Account → ℤ) (g : Account → ℕ) → neg_ℤ (total f accounts) ≢ pos 0 → 0 < length (map g accounts)
some_account [] f g differs = absurd (differs refl)
some_account (a ∷ accounts) f g differs = omega arith

-- charges and shares together sum to zero
pub period_balances : (p : PeriodDataView) → total paid_by (settled p).accounts ≡ pos 0
period_balances p =
    let rows : List AccountRow = (settled p).accounts in
    let charge : Account → ℤ = λ a. (figures p a).charge in
    total-plus (λ (r : AccountRow). r.charge) (λ r. r.share) rows
    ∙ (λ i. (sym (total-map (λ (f : Figures). f.charge) figures_of rows) ∙ ap (total (λ f. f.charge)) (figures_shown (all_figures p) (residual_shares p) (a_share_each p)) ∙ total-map (λ (f : Figures). f.charge) (figures p) p.accounts) i
    +ℤ (sym (total-map (λ x. x) (λ (r : AccountRow). r.share) rows) ∙ ap (total (λ x. x)) (shares_are_shown (all_figures p) (residual_shares p) (a_share_each p))
    ∙ shares_sum (residual p) (weights p) (some_account p.accounts charge (λ a. (period_sums p a).weight))) i)
    ∙ +ℤ_invr (total charge p.accounts)

-- elements that differ pairwise are told apart
told_apart_all : {X : Type 0} (alike : X → X → Bool) (Differ : X → X → Type 0) → ((x y : X) → Differ x y → alike x y ≡ false) → (xs : List X) → AllPairs Differ xs → NoneAlike alike xs
told_apart_all alike Differ told [] h = tt
told_apart_all {X = X} alike Differ told (x ∷ xs) h = (
  recursion_from_All (λ y. alike x y ≡ false) xs (λ k d below. told x (get_or xs k d) (h 0 (suc k) d (omega arith) (omega arith))),
  told_apart_all alike Differ told xs (λ i j d before below. h (suc i) (suc j) d (omega arith) (omega arith)),
)

-- whether two credits are from the same unit to the same account
abbrev have_one_place : CreditRow → CreditRow → Bool
have_one_place c d = eq_by_cmp unit_account_cmp (c.unit, c.account) (d.unit, d.account)

module _ (u : UnitDataView) where
  -- the credit to a subsidiary
  abbrev to_subsidiary : Subsidiary → CreditRow
  to_subsidiary s = record { unit = u.unit; account = s.account; credited = subsidiary_credit u s }

  -- the credit to the lead account
  abbrev to_lead : CreditRow
  to_lead = record { unit = u.unit; account = u.lead; credited = lead_credit u }

  -- the credits to subsidiaries are from their unit
  all_own : (subsidiaries : List Subsidiary) → AllByRecursion (λ c. c.unit ≡ u.unit) (map to_subsidiary subsidiaries)
  all_own [] = tt
  all_own (s ∷ subsidiaries) = (refl, all_own subsidiaries)

  -- and so are all credits from it
  pub own_credits : AllByRecursion (λ c. c.unit ≡ u.unit) (unit_credits u)
  own_credits = all-append (λ c. c.unit ≡ u.unit) (map to_subsidiary u.subsidiaries) (to_lead ∷ []) (all_own u.subsidiaries) (refl, tt)

  -- credits to different accounts differ
  other_place : (a b : Account) → a ≢ b → eq_by_cmp unit_account_cmp (u.unit, a) (u.unit, b) ≡ false
  other_place a b apart = second_part (bytes_cmp u.unit u.unit) (account_cmp a b) (told_apart exact_accounts a b apart)

  -- no two credits from a unit that credits no account twice are alike
  unit_credits_distinct : CreditsEachOnce u → NoneAlike have_one_place (unit_credits u)
  unit_credits_distinct once =
      distinct-append have_one_place (map to_subsidiary u.subsidiaries) (to_lead ∷ [])
      (distinct-map have_one_place to_subsidiary u.subsidiaries
      (told_apart_all (λ s t. have_one_place (to_subsidiary s) (to_subsidiary t)) (λ s t. s.account ≢ t.account) (λ s t apart. other_place s.account t.account apart) u.subsidiaries once.0))
      (tt, tt)
      (all-map (λ c. AllByRecursion (λ d. have_one_place c d ≡ false) (to_lead ∷ [])) to_subsidiary u.subsidiaries
      (recursion_from_All (λ s. AllByRecursion (λ d. have_one_place (to_subsidiary s) d ≡ false) (to_lead ∷ [])) u.subsidiaries
      (All-weaker (λ s. s.account ≢ u.lead) (λ s. AllByRecursion (λ d. have_one_place (to_subsidiary s) d ≡ false) (to_lead ∷ [])) (λ s apart. (other_place s.account u.lead apart, tt)) u.subsidiaries once.1)))

-- no two credits of a period are alike
period_credits_distinct : (p : PeriodDataView) → AllPairs (λ u v. u.unit ≢ v.unit) p.units → All CreditsEachOnce p.units → NoneAlike have_one_place (credits_of p.units)
period_credits_distinct p distinct once =
    distinct_blocks (eq_by_cmp bytes_cmp) have_one_place (λ (u : UnitDataView). u.unit) (λ (c : CreditRow). c.unit)
    (λ c d. first_part (bytes_cmp c.unit d.unit) (account_cmp c.account d.account))
    unit_credits own_credits p.units
    (recursion_from_All (λ u. NoneAlike have_one_place (unit_credits u)) p.units (All-weaker CreditsEachOnce (λ u. NoneAlike have_one_place (unit_credits u)) unit_credits_distinct p.units once))
    (told_apart_all (λ u v. eq_by_cmp bytes_cmp u.unit v.unit) (λ u v. u.unit ≢ v.unit) (λ u v apart. told_apart exact_bytes u.unit v.unit apart) p.units distinct)

-- a credit as its unit and account, with its energy
abbrev keyed_credit : CreditRow → UnitAccount × ℤ
keyed_credit c = ((c.unit, c.account), c.credited)

-- the credit of a unit and an account
abbrev credit_under : UnitAccount × ℤ → CreditRow
credit_under e = record { unit = e.0.0; account = e.0.1; credited = e.1 }

-- turning credits into such entries and back leaves them the same
back_from_keys : (credits : List CreditRow) → map credit_under (keyed_credits credits) ≡ credits
back_from_keys [] = refl
back_from_keys (c ∷ credits) = ap (λ t. c ∷ t) (back_from_keys credits)

-- sorting credits, no two of which are alike, only moves them
credits_moved : (credits : List CreditRow) → NoneAlike have_one_place credits → IsPermutation credits (in_credit_order credits)
credits_moved credits distinct =
    subst (λ l. IsPermutation l (in_credit_order credits)) (back_from_keys credits)
    (IsPermutation-map credit_under (keyed_credits credits) (in_key_order unit_account_cmp (keyed_credits credits))
    (in_key_order_moves unit_account_total (keyed_credits credits) (distinct-map (have_one_key unit_account_cmp) keyed_credit credits distinct)))

module _ {K V X : Type 0} {R : K → K → Ordering} (o : IsTotalOrder R) (cmp : X → X → Ordering) (f : K × V → X) (same : (e g : K × V) → cmp (f e) (f g) ≡ R e.0 g.0) where
  -- if a table's rows are shown in its order, no shown row is below the one before it
  each_next : (es : List (K × V)) → T (is_sorted R es) → (k : ℕ) (d : X) → suc k < length (map f es) → is_lt (cmp (get_or (map f es) (suc k) d) (get_or (map f es) k d)) ≡ false
  each_next [] sorted k d inside = absurd (omega arith)
  each_next (e ∷ []) sorted k d inside = absurd (omega arith)
  each_next (e ∷ g ∷ es) sorted zero d inside =
      ap is_lt (same g e ∙ o.antisymm g.0 e.0 ∙ ap ordering_reverse (less (R e.0 g.0) (first (is_lt (R e.0 g.0)) (below_all R e.0 es) (first (below_all R e.0 (g ∷ es)) (is_sorted R (g ∷ es)) sorted))))
  each_next (e ∷ g ∷ es) sorted (suc k) d inside = each_next (g ∷ es) (second (below_all R e.0 (g ∷ es)) (is_sorted R (g ∷ es)) sorted) k d (omega arith)

  -- so the shown rows are sorted
  shown_in_order : (es : List (K × V)) → T (is_sorted R es) → IsSorted cmp (map f es)
  shown_in_order es sorted k d from inside =
      subst (λ n. is_lt (cmp (get_or (map f es) n d) (get_or (map f es) k d)) ≡ false) (sym (add-one k)) (each_next es sorted k d (omega arith))

-- a settled period is as its definition says
pub is_settled : SettlesEachPeriod
is_settled p distinct once = record {
  rows = figures_shown (all_figures p) (residual_shares p) (a_share_each p);
  shared = shares_are_shown (all_figures p) (residual_shares p) (a_share_each p);
  credits = credits_moved (credits_of p.units) (period_credits_distinct p distinct once);
  ordered = shown_in_order unit_account_total credit_cmp credit_under (λ e g. refl) (in_key_order unit_account_cmp (keyed_credits (credits_of p.units))) (is_sorted-in_key_order unit_account_total (keyed_credits (credits_of p.units)));
  remainder = refl;
}

-- so it adds up
pub settled_adds_up : (p : PeriodDataView) → AreInOrder p → AreListed p → AreUnitsDistinct p → All CreditsEachOnce p.units
    → AddsUp p (settled p)
settled_adds_up p up named distinct once = adds_up p (settled p) up named (is_settled p distinct once)
