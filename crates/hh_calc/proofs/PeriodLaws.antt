-- What a settled period adds up to.
use Rattle.std.proofs.Common.{◌≡◌, ℕ, ◌<◌, Bool, true, false, cond, List, [], ◌∷◌, length, get_or, map, refl, sym, ap, ◌∙◌, arith, inl, inr}
use Rattle.std.specs.Prelude.{◌≢◌, ℤ, pos, neg_ℤ, ◌+ℤ◌, All}
use Rattle.std.specs.Str.{bytes_eq}
use Rattle.std.proofs.Math.IntN.{+ℤ_idr, +ℤ_comm, +ℤ_invr, -ℤ-+ℤ_cancel}
use Rattle.std.proofs.lemmas.Bool.{cases_lt, false_from_ne_true}
use Rattle.std.proofs.lemmas.Slice.Eq.{bytes_eq-Decides}
use Rattle.hh_share.specs.Totals.{total}
use Rattle.hh_share.proofs.TotalLaws.{total-append, total-filter, total-map, total-plus, total-same, total-zero}
use Rattle.hh_names.specs.declared.account.Account.{Account}
use Rattle.hh_share.specs.Shares.{SumsTo}
use Rattle.hh_share.proofs.DepartureLaws.{shares_depart_least}
use Rattle.hh_share.proofs.QuotaLaws.{quotas_rounded}
use Rattle.hh_share.proofs.SumLaws.{shares_sum}
use Rattle.hh_calc.specs.declared.data.Subsidiary.{Subsidiary}
use Rattle.hh_calc.specs.declared.result.AccountRow.{AccountRow}
use Rattle.hh_calc.specs.declared.result.CreditRow.{CreditRow}
use Rattle.hh_calc.specs.declared.result.Figures.{Figures}
use Rattle.hh_calc.specs.Formulas.{credits_of, figures, lead_credit, loss_adjusted, period_sums, residual, subsidiary_credit, unit_credits, weights}
use Rattle.hh_calc.specs.Ready.{AreInOrder, AreListed, AreUnitsDistinct}
use Rattle.hh_calc.specs.Settled.{figures_of, paid_by, shares_shown, AddsUp, IsSettled, IsUnitCredited, SharesDepartLeast}
use Rattle.hh_calc.specs.Terms.{PeriodDataView, Settled, UnitDataView}
use Rattle.hh_calc.proofs.NetLaws.{contracts_sum}
use Rattle.hh_calc.proofs.SpreadLaws.{counted, counts_once, total-IsPermutation, total-flat_map}

-- The credits from a unit sum to its loss-adjusted volume, or to zero if they do not count.
unit_credits_sum : (u : UnitDataView) (do_count : Bool)
    → total (λ s. cond do_count (subsidiary_credit u s) (pos 0)) u.subsidiaries +ℤ cond do_count (lead_credit u) (pos 0) ≡ cond do_count (loss_adjusted u) (pos 0)
unit_credits_sum u true =
    +ℤ_comm (total (subsidiary_credit u) u.subsidiaries) (lead_credit u)
    ∙ -ℤ-+ℤ_cancel (loss_adjusted u) (total (subsidiary_credit u) u.subsidiaries)
unit_credits_sum u false = +ℤ_idr (total (λ (s : Subsidiary). pos 0) u.subsidiaries) ∙ total-zero u.subsidiaries

-- a credit, if it is from the unit of this name
abbrev credited_under : List ℕ → CreditRow → ℤ
credited_under name = counted (λ c. bytes_eq c.unit name) (λ c. c.credited)

-- the credits under a unit's name are all those of the unit, and no others
credits_under : (name : List ℕ) (u : UnitDataView) → total (credited_under name) (unit_credits u) ≡ counted (λ v. bytes_eq v.unit name) loss_adjusted u
credits_under name u =
    let given : Subsidiary → CreditRow = λ s. record { unit = u.unit; account = s.account; credited = subsidiary_credit u s } in
    let kept : CreditRow = record { unit = u.unit; account = u.lead; credited = lead_credit u } in
    total-append (credited_under name) (map given u.subsidiaries) (kept ∷ [])
    ∙ (λ i. total-map (credited_under name) given u.subsidiaries i +ℤ +ℤ_idr (credited_under name kept) i)
    ∙ unit_credits_sum u (bytes_eq u.unit name)

-- no other unit has a unit's name, so the credits under it sum to its loss-adjusted volume
credits_sum : (p : PeriodDataView) (s : Settled) → AreUnitsDistinct p → IsSettled p s
    → All (IsUnitCredited s.credits) p.units
credits_sum p s distinct settled k d inside =
    let u : UnitDataView = get_or p.units k d in
    total-filter (λ c. c.credited) (λ c. bytes_eq c.unit u.unit) s.credits
    ∙ total-IsPermutation (credited_under u.unit) (credits_of p.units) s.credits settled.credits
    ∙ total-flat_map (credited_under u.unit) unit_credits p.units
    ∙ total-same (λ v. total (credited_under u.unit) (unit_credits v)) (counted (λ v. bytes_eq v.unit u.unit) loss_adjusted) p.units (credits_under u.unit)
    ∙ counts_once (λ v. bytes_eq v.unit u.unit) loss_adjusted p.units d k inside ((bytes_eq-Decides u.unit u.unit).1 refl) others
  where
    others : (j : ℕ) → j < length p.units → j ≢ k → bytes_eq (get_or p.units j d).unit (get_or p.units k d).unit ≡ false
    others j among ne = false_from_ne_true _ (λ e.
        let same = (bytes_eq-Decides (get_or p.units j d).unit (get_or p.units k d).unit).0 e in
        elim (cases_lt k j) [
          | inl lt ↦ distinct k j d lt among (sym same)
          | inr le ↦ distinct j k d (omega arith) inside same
        ])

module _ (p : PeriodDataView) (s : Settled) (settled : IsSettled p s) where
  -- sums over the rows are sums over the figures
  rows_sum : (f : Figures → ℤ) → total (λ r. f (figures_of r)) s.accounts ≡ total (λ a. f (figures p a)) p.accounts
  rows_sum f = sym (total-map f figures_of s.accounts) ∙ ap (total f) settled.rows ∙ total-map f (figures p) p.accounts

  -- charges and shares together sum to zero, if the shares sum to the residual
  cash_sum : SumsTo (residual p) (shares_shown s.accounts) → total paid_by s.accounts ≡ pos 0
  cash_sum shares =
      total-plus (λ (r : AccountRow). r.charge) (λ r. r.share) s.accounts
      ∙ (λ i. rows_sum (λ f. f.charge) i +ℤ (sym (total-map (λ x. x) (λ r. r.share) s.accounts) ∙ shares) i)
      ∙ +ℤ_invr (total (λ a. (figures p a).charge) p.accounts)

-- a residual other than zero is shared by at least one account
some_account : (accounts : List Account) (f : Account → ℤ) (g : Account → ℕ) → neg_ℤ (total f accounts) ≢ pos 0 → 0 < length (map g accounts)
some_account [] f g differs = absurd (differs refl)
some_account (a ∷ accounts) f g differs = omega arith

-- What a settled period adds up to: contracts sum to zero, the credits from each unit to its loss-adjusted volume, and cash
-- to zero. Its shares are quotas, rounded.
pub adds_up : (p : PeriodDataView) (s : Settled) → AreInOrder p → AreListed p → IsSettled p s → AddsUp p s
adds_up p s up named settled = record {
  contracts = rows_sum p s settled (λ f. f.contracts) ∙ contracts_sum p.accounts up p.contracts named.1;
  credits = λ distinct. credits_sum p s distinct settled;
  cash = cash_sum p s settled (rw settled.shared (shares_sum (residual p) (weights p) (some_account p.accounts (λ a. (figures p a).charge) (λ a. (period_sums p a).weight))));
  quota = rw settled.shared (quotas_rounded (residual p) (weights p));
}

-- The shares of a settled period depart least from the quotas.
pub shares_least : (p : PeriodDataView) (s : Settled) → IsSettled p s → SharesDepartLeast p s
shares_least p s settled = rw settled.shared (shares_depart_least (residual p) (weights p))
