-- What contracts see of replies.
use Rattle.std.specs.Prelude.{ℕ, ℤ, List}
use Rattle.hh_rows.specs.account.Account.{Account}
use Rattle.hh_rows.specs.declared.rows.ContractRow.{ContractRow}
use Rattle.hh_calc.specs.declared.result.AccountRow.{AccountRow}
use Rattle.hh_runs.specs.declared.run_key.RunKey.{RunKey}
use Rattle.hh_runs.specs.declared.run_kind.RunKind.{RunKind}

-- the contracts in force of an account on a date
pub record ContractsView : Type 0 where
  pub account : Account
  pub date : ℕ
  pub contracts : List ContractRow

-- the rows of an account in a run, each with the number of its Settlement Period, and their net
pub record AccountView : Type 0 where
  pub account : Account
  pub run : RunKey
  pub net : ℤ
  pub rows : List (ℕ × AccountRow)

-- the kinds of the runs of a date
pub record RunsView : Type 0 where
  pub date : ℕ
  pub kinds : List RunKind
