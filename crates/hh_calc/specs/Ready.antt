-- When a period may be settled.
use Rattle.std.specs.Prelude.{◌≡◌, ℕ, ◌≢◌, ◌≤◌, ℤ, pos, List, length, All, AllPairs, Contains}
use Rattle.std.specs.List.Sorted.{IsStrictlySortedBy}
use Rattle.hh_share.specs.Quantities.{net_volumes}
use Rattle.hh_share.specs.Ranges.{IsBetween}
use Rattle.hh_share.specs.Totals.{total}
use Rattle.hh_names.specs.declared.account.Account.{Account}
use Rattle.hh_names.specs.declared.values.Contract.{Contract}
use Rattle.hh_names.specs.Accounts.{account_cmp}
use Rattle.hh_calc.specs.declared.data.Subsidiary.{Subsidiary}
use Rattle.hh_calc.specs.Terms.{UnitDataView, ContractTerms, Net, PeriodDataView, Rows}

-- the most subsidiaries that a unit may have
abbrev pub most_subsidiaries : ℕ
most_subsidiaries = 799

-- a unit has at most 799 subsidiaries: all accounts of the market except its lead account
abbrev pub HasFewSubsidiaries : UnitDataView → Type 0
HasFewSubsidiaries u = length u.subsidiaries ≤ most_subsidiaries

-- a net volume is at most 100,000,000 MWh in size
abbrev pub IsNetVolume : ℤ → Type 0
IsNetVolume kwh = IsBetween net_volumes.least net_volumes.most kwh

-- there is a net volume for each account, and they sum to zero
pub record AreNetsReady (accounts : List Account) (nets : List ℤ) : Type 0 where
  pub each : length nets ≡ length accounts
  pub even : total (λ kwh. kwh) nets ≡ pos 0
  pub sizes : All IsNetVolume nets

-- each net volume is at most 100,000,000 MWh in size
abbrev pub HasNetVolumes : ContractTerms → Type 0
HasNetVolumes (Rows rows) = Unit {0}
HasNetVolumes (Net nets) = All IsNetVolume nets

module _ (accounts : List Account) where
  -- the accounts rise in account order, so none occurs twice
  abbrev pub AreAccountsInOrder : Type 0
  AreAccountsInOrder = IsStrictlySortedBy account_cmp accounts

  -- an account is one of these
  abbrev pub IsListed : Account → Type 0
  IsListed a = Contains accounts a

  -- the accounts of these subsidiaries are some of these
  abbrev pub AreSubsidiariesListed : List Subsidiary → Type 0
  AreSubsidiariesListed = All (λ s. IsListed s.account)

  -- the lead account and the subsidiaries of a unit are some of these
  abbrev pub IsUnitListed : UnitDataView → Type 0
  IsUnitListed u = IsListed u.lead × AreSubsidiariesListed u.subsidiaries

  -- the seller and the buyer of a contract are some of these
  abbrev pub IsContractListed : Contract → Type 0
  IsContractListed c = IsListed c.counterparties.seller × IsListed c.counterparties.buyer

  -- the seller and the buyer of each row are among these accounts; or there is a net volume for each account, and they sum to zero
  abbrev pub AreContractsReady : ContractTerms → Type 0
  AreContractsReady (Rows rows) = All IsContractListed rows
  AreContractsReady (Net nets) = AreNetsReady accounts nets

module _ (p : PeriodDataView) where
  abbrev pub AreInOrder : Type 0
  AreInOrder = AreAccountsInOrder p.accounts

  -- each lead, subsidiary, seller and buyer is among the accounts; net volumes are one for each account, and sum to zero
  abbrev pub AreListed : Type 0
  AreListed = All (IsUnitListed p.accounts) p.units × AreContractsReady p.accounts p.contracts

  -- no unit occurs twice
  abbrev pub AreUnitsDistinct : Type 0
  AreUnitsDistinct = AllPairs (λ u v. u.unit ≢ v.unit) p.units

  -- no unit has more than 799 subsidiaries
  abbrev pub AreSubsidiariesFew : Type 0
  AreSubsidiariesFew = All HasFewSubsidiaries p.units

  -- a period may be settled
  abbrev pub IsReady : Type 0
  IsReady = AreInOrder × AreListed × AreSubsidiariesFew
