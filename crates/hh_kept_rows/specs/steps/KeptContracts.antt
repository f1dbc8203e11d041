-- Contracts in force, found by going through the table: those of an account on a date, and those of each Settlement Period.
use Rattle.std.specs.Prelude.{◌≡◌, ℕ, ◌+◌, ◌<◌, ◌==◌, ℤ, Bool, ◌||◌, List, filter, get_or, length, map, Option, Some, None, if◌then◌else◌}
use Rattle.std.specs.Global.{Vec}
use Rattle.std.specs.FinMap.{find}
use Rattle.hh_names.specs.declared.account.Account.{Account}
use Rattle.hh_names.specs.declared.values.Contract.{Contract}
use Rattle.hh_names.specs.declared.values.Counterparties.{Counterparties}
use Rattle.hh_names.specs.Accounts.{bytes_cmp, is_same_account}
use Rattle.hh_rows.specs.declared.keys.ContractKey.{ContractKey}
use Rattle.hh_rows.specs.declared.rows.ContractRow.{ContractRow}
use Rattle.hh_rules.specs.History.{Registered}

-- whether the seller or the buyer is this account
abbrev pub names : Account → Counterparties → Bool
names a c = is_same_account c.seller a || is_same_account c.buyer a

-- the row of a contract, if it has counterparties that name this account
abbrev pub row_that_names : Account → ContractKey × ℤ → Option Counterparties → Option ContractRow
row_that_names a e None = None
row_that_names a e (Some c) =
    if names a c then Some (record { key = e.0; contract = record { counterparties = c; volume = e.1 } }) else None

-- the row in force of a contract, if it is of this date and names this account
abbrev pub contract_on : Registered → Account → ℕ → ContractKey × ℤ → Option ContractRow
contract_on tables a date e =
    if e.0.at.date == date then row_that_names a e (find bytes_cmp e.0.reference tables.references) else None

-- whether a row is of the Settlement Period with this number
abbrev pub is_in_period : ℕ → ContractRow → Bool
is_in_period period r = r.key.at.period == period

-- the contracts of those rows that are of a Settlement Period
abbrev pub period_contracts : List ContractRow → ℕ → List Contract
period_contracts rows period = map (λ r. r.contract) (filter (is_in_period period) rows)

-- these are the contracts of rows in the Settlement Periods 1 to 50, each period's at its place
pub record AreByPeriod (rows : List ContractRow) (periods : List (Vec Contract)) : Type 0 where
  pub count : length periods ≡ 50
  pub each : (place : ℕ) (d : Vec Contract) → place < 50 → (get_or periods place d).items ≡ period_contracts rows (place + 1)
