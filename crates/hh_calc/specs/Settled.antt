-- What a settled period contains, and what it adds up to.
use Rattle.std.specs.Prelude.{◌≡◌, ℤ, pos, ◌+ℤ◌, List, map, filter, All, IsPermutation, IsSorted}
use Rattle.std.specs.declared.cmp.Ordering.{Ordering}
use Rattle.std.specs.Ordering.{on, then_cmp}
use Rattle.std.specs.Str.{bytes_eq}
use Rattle.hh_names.specs.declared.account.Account.{Account}
use Rattle.hh_names.specs.Accounts.{account_cmp, bytes_cmp}
use Rattle.hh_share.specs.Shares.{counted_weights}
use Rattle.hh_share.specs.Departure.{DepartsLeast}
use Rattle.hh_share.specs.Totals.{total}
use Rattle.hh_calc.specs.declared.result.AccountRow.{AccountRow}
use Rattle.hh_calc.specs.declared.result.CreditRow.{CreditRow}
use Rattle.hh_calc.specs.declared.result.Figures.{Figures}
use Rattle.hh_calc.specs.Formulas.{all_figures, credits_of, loss_adjusted, if_same_account, residual, residual_shares, weights, AreSharesRounded}
use Rattle.hh_calc.specs.Ready.{AreUnitsDistinct}
use Rattle.hh_calc.specs.Terms.{UnitDataView, PeriodDataView, Settled}

-- credits in the order of their units' bytes, then of their accounts
abbrev pub credit_cmp : CreditRow → CreditRow → Ordering
credit_cmp = then_cmp (on (λ c. c.unit) bytes_cmp) (on (λ c. c.account) account_cmp)

-- the figures that an account's row shows
abbrev pub figures_of : AccountRow → Figures
figures_of row = record { account = row.account; credited = row.credited; balancing = row.balancing; contracts = row.contracts; imbalance = row.imbalance; charge = row.charge }

-- what an account pays by its row, negative if it is paid: its charge and its share
abbrev pub paid_by : AccountRow → ℤ
paid_by row = row.charge +ℤ row.share

-- what a row moves for an account: the pence paid by the row, if the row is the account's
abbrev pub moved_by_row : Account → AccountRow → ℤ
moved_by_row a row = if_same_account a row.account (paid_by row)

-- the shares that rows show
abbrev pub shares_shown : List AccountRow → List ℤ
shares_shown rows = map (λ r. r.share) rows

-- the rows have the figures and the shares of the accounts in order, the credits are those of the units and are sorted, and the
-- residual is the period's
pub record IsSettled (p : PeriodDataView) (s : Settled) : Type 0 where
  pub rows : map figures_of s.accounts ≡ all_figures p
  pub shared : shares_shown s.accounts ≡ residual_shares p
  pub credits : IsPermutation (credits_of p.units) s.credits
  pub ordered : IsSorted credit_cmp s.credits
  pub remainder : s.residual ≡ residual p

-- no other split of the residual over the accounts departs less from their quotas by weight than the shares do
abbrev pub SharesDepartLeast : PeriodDataView → Settled → Type 0
SharesDepartLeast p s = DepartsLeast (residual p) (counted_weights (weights p)) (shares_shown s.accounts)

-- among these credits, those from a unit add up to its loss-adjusted volume
abbrev pub IsUnitCredited : List CreditRow → UnitDataView → Type 0
IsUnitCredited credits u = total (λ c. c.credited) (filter (λ c. bytes_eq c.unit u.unit) credits) ≡ loss_adjusted u

-- What a settled period adds up to: contracts sum to zero over the accounts, the credits from each unit to its loss-adjusted
-- volume (if no unit occurs twice), and charges and shares together to zero. Each share is its account's quota, rounded.
pub record AddsUp (p : PeriodDataView) (s : Settled) : Type 0 where
  pub contracts : total (λ r. r.contracts) s.accounts ≡ pos 0
  pub credits : AreUnitsDistinct p → All (IsUnitCredited s.credits) p.units
  pub cash : total paid_by s.accounts ≡ pos 0
  pub quota : AreSharesRounded p (shares_shown s.accounts)
