-- The settlement of one period, in the shape of the Balancing and Settlement Code's Section T (credited energy, imbalance, residual cashflow); the
-- formulas and numbers are this office's own. Energy is in ticks, 10^10 to the MWh, cash in pence, positive if the account pays.
use Rattle.std.specs.Prelude.{ℕ, ◌^◌, unsigned_abs, ℤ, pos, neg_ℤ, ◌+ℤ◌, ◌-ℤ◌, ◌*ℤ◌, List, [], ◌∷◌, ◌++◌, map, filter, not, sum_by, if◌then◌else◌}
use Rattle.std.specs.List.{flat_map, zip}
use Rattle.hh_share.specs.Quantities.{hundred_percent}
use Rattle.hh_share.specs.Rounding.{near}
use Rattle.hh_share.specs.Totals.{total}
use Rattle.hh_names.specs.declared.account.Account.{Account}
use Rattle.hh_names.specs.declared.values.Contract.{Contract}
use Rattle.hh_names.specs.Accounts.{is_same_account}
use Rattle.hh_share.specs.Shares.{counted_weights, shares, AreQuotasRounded}
use Rattle.hh_calc.specs.declared.data.Subsidiary.{Subsidiary}
use Rattle.hh_calc.specs.declared.result.CreditRow.{CreditRow}
use Rattle.hh_calc.specs.declared.result.Figures.{Figures}
use Rattle.hh_calc.specs.declared.sums.AccountSums.{AccountSums}
use Rattle.hh_calc.specs.Terms.{UnitDataView, ContractTerms, Net, PeriodDataView, Rows}

-- ticks to the kWh
abbrev pub ticks_per_kwh : ℤ
ticks_per_kwh = pos (10 ^ 7)

-- ticks times units of the price to the penny
abbrev pub price_units_per_penny : ℤ
price_units_per_penny = pos (10 ^ 13)

-- loss-adjusted volume: metered energy times the loss multiplier, not rounded
abbrev pub loss_adjusted : UnitDataView → ℤ
loss_adjusted u = u.reading.metered *ℤ u.reading.tlm

-- the balancing volume of a unit, in ticks
abbrev pub balancing_ticks : UnitDataView → ℤ
balancing_ticks u = u.reading.balancing *ℤ u.reading.tlm

-- the volume that is reallocated to a subsidiary, in kWh times units of a percentage: its percentage of the metered volume less
-- the balancing volume, and its fixed volume
abbrev pub reallocated : UnitDataView → Subsidiary → ℤ
reallocated u s =
    ((u.reading.metered -ℤ u.reading.balancing) *ℤ s.reallocation.percent) +ℤ (s.reallocation.fixed *ℤ hundred_percent)

-- the energy that a subsidiary is credited with: that volume, loss-adjusted and rounded
abbrev pub subsidiary_credit : UnitDataView → Subsidiary → ℤ
subsidiary_credit u s = near (reallocated u s *ℤ u.reading.tlm) hundred_percent

-- the energy that the lead account is credited with: the exact rest of the loss-adjusted volume
abbrev pub lead_credit : UnitDataView → ℤ
lead_credit u = loss_adjusted u -ℤ total (subsidiary_credit u) u.subsidiaries

-- the credits from a unit: to each subsidiary, and to the lead account
abbrev pub unit_credits : UnitDataView → List CreditRow
unit_credits u =
    map (λ s. record { unit = u.unit; account = s.account; credited = subsidiary_credit u s }) u.subsidiaries
    ++ record { unit = u.unit; account = u.lead; credited = lead_credit u } ∷ []

-- the credits from all these units
abbrev pub credits_of : List UnitDataView → List CreditRow
credits_of units = flat_map unit_credits units

-- the units whose credits weigh: those that are no interconnector units
abbrev pub weighing : List UnitDataView → List UnitDataView
weighing units = filter (λ u. not u.interconnector) units

-- the volume of a contract, in ticks
abbrev pub contracted : Contract → ℤ
contracted c = c.volume *ℤ ticks_per_kwh

module _ (a : Account) where
  -- an amount, if it is for this account, or 0
  abbrev pub if_same_account : Account → ℤ → ℤ
  if_same_account other amount = if is_same_account other a then amount else pos 0

  -- a credit, if it is to the account
  abbrev pub credited_of : CreditRow → ℤ
  credited_of c = if_same_account c.account c.credited

  -- the size of a credit, if it is to the account
  abbrev pub weight_of : CreditRow → ℕ
  weight_of c = if is_same_account c.account a then unsigned_abs c.credited else 0

  -- the balancing volume of a unit, if the account leads the unit
  abbrev pub balancing_of : UnitDataView → ℤ
  balancing_of u = if_same_account u.lead (balancing_ticks u)

  -- a contract's volume, for its seller and against its buyer
  abbrev pub net_of : Contract → ℤ
  net_of c = if_same_account c.counterparties.seller (contracted c) -ℤ if_same_account c.counterparties.buyer (contracted c)

  -- a net volume, if it is the account's
  abbrev pub net_entry_of : Account × ℤ → ℤ
  net_entry_of e = if_same_account e.0 (e.1 *ℤ ticks_per_kwh)

-- what an account sells by a period's contracts less what it buys, in ticks
abbrev pub net_by : List Account → ContractTerms → Account → ℤ
net_by accounts (Rows rows) a = total (net_of a) rows
net_by accounts (Net nets) a = total (net_entry_of a) (zip accounts nets)

-- What an account has from these units alone. Its credited energy is a sum over the credits, its balancing volume a sum over the
-- units, and its weight a sum over the sizes of the credits that weigh.
abbrev pub unit_sums : List UnitDataView → Account → AccountSums
unit_sums units a = record {
  credited = total (credited_of a) (credits_of units);
  balancing = total (balancing_of a) units;
  contracts = pos 0;
  weight = sum_by (weight_of a) (credits_of (weighing units));
}

-- the imbalance: the credited energy of an account less its balancing volume and its net contracts
abbrev pub imbalance_of : AccountSums → ℤ
imbalance_of sums = (sums.credited -ℤ sums.balancing) -ℤ sums.contracts

-- the charge for an imbalance: positive if the account pays, negative if it is paid
abbrev pub charge_for : ℤ → ℤ → ℤ
charge_for imbalance price = near (neg_ℤ (imbalance *ℤ price)) price_units_per_penny

-- the figures of an account from its sums and the price
abbrev pub figures_from : Account → AccountSums → ℤ → Figures
figures_from account sums price = record {
  account = account;
  credited = sums.credited;
  balancing = sums.balancing;
  contracts = sums.contracts;
  imbalance = imbalance_of sums;
  charge = charge_for (imbalance_of sums) price;
}

module _ (p : PeriodDataView) where
  -- the net contracts of an account in the period, in ticks: what it sells less what it buys
  abbrev pub net_contracts : Account → ℤ
  net_contracts a = net_by p.accounts p.contracts a

  -- the sums of an account over the period: those from the units, and its net contracts
  abbrev pub period_sums : Account → AccountSums
  period_sums a = record (unit_sums p.units a) { contracts = net_contracts a }

  -- the figures of an account over the period
  abbrev pub figures : Account → Figures
  figures a = figures_from a (period_sums a) p.price

  -- the figures of all accounts, in their order
  abbrev pub all_figures : List Figures
  all_figures = map figures p.accounts

  -- the weights of the accounts, in their order
  abbrev pub weights : List ℕ
  weights = map (λ a. (period_sums a).weight) p.accounts

  -- the residual cashflow: minus the sum of the charges
  abbrev pub residual : ℤ
  residual = neg_ℤ (total (λ a. (figures a).charge) p.accounts)

  -- the residual shared out by the accounts' weights
  abbrev pub residual_shares : List ℤ
  residual_shares = shares residual weights

  -- these shares of the residual are the accounts' quotas by weight, rounded down or up
  abbrev pub AreSharesRounded : List ℤ → Type 0
  AreSharesRounded = AreQuotasRounded residual (counted_weights weights)

-- ---- net volumes instead of rows

-- what an account sells by a contract less what it buys, in kWh
abbrev pub net_kwh_of : Account → Contract → ℤ
net_kwh_of a c =
    (if is_same_account c.counterparties.seller a then c.volume else pos 0)
    -ℤ (if is_same_account c.counterparties.buyer a then c.volume else pos 0)

-- what an account sells by these contracts less what it buys, in kWh
abbrev pub net_kwh : List Contract → Account → ℤ
net_kwh rows a = total (net_kwh_of a) rows

-- the contracts as net volumes of the accounts
abbrev pub netted_contracts : List Account → ContractTerms → ContractTerms
netted_contracts accounts (Rows rows) = Net (map (net_kwh rows) accounts)
netted_contracts accounts (Net nets) = Net nets

-- a period with its contracts as net volumes of the accounts
abbrev pub netted : PeriodDataView → PeriodDataView
netted p = record p { contracts = netted_contracts p.accounts p.contracts }
