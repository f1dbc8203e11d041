-- The rows of a database as the writers of reports take them.
use Rattle.std.specs.Prelude.{ℕ, ℤ}
use Rattle.hh_names.specs.declared.account.Account.{Account}
use Rattle.hh_reports.specs.result.AccountRow.{AccountRow}
use Rattle.hh_keyed_rows.specs.run_keys.PostingKey.{PostingKey}
use Rattle.hh_keyed_rows.specs.run_keys.ResultKey.{ResultKey}
use Rattle.hh_keyed_rows.specs.declared.amounts.AccountAmounts.{AccountAmounts}
use Rattle.hh_keyed_rows.specs.Values.{account_row_of}

-- an account's row of a run with its key, from the amounts that are stored under the key
abbrev pub result_of : ResultKey × AccountAmounts → ResultKey × AccountRow
result_of e = (e.0, account_row_of e.0.account e.1)

-- an account's row of a run with its Settlement Period
abbrev pub period_row : ResultKey × AccountAmounts → ℕ × AccountRow
period_row e = (e.0.period, (result_of e).1)

-- a posting's amount under its account
abbrev pub posted_amount : PostingKey × ℤ → Account × ℤ
posted_amount e = (e.0.account, e.1)
