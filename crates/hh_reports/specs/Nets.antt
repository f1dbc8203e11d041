-- The sums of amounts for accounts.
use Rattle.std.specs.Prelude.{ℕ, ℤ, List, map}
use Rattle.hh_num.specs.Totals.{total}
use Rattle.hh_tables.specs.Tables.{Table, table_of_last}
use Rattle.hh_names.specs.declared.account.Account.{Account}
use Rattle.hh_names.specs.Accounts.{account_cmp}
use Rattle.hh_calc.specs.declared.result.AccountRow.{AccountRow}
use Rattle.hh_calc.specs.Formulas.{if_same_account}
use Rattle.hh_calc.specs.Settled.{paid_by}

-- amounts, each with its account, in the order in which they came
abbrev pub Amounts : Type 0
Amounts = List (Account × ℤ)

-- the sum of the amounts for an account
abbrev pub sum_for : Account → Amounts → ℤ
sum_for a amounts = total (λ e. if_same_account a e.0 e.1) amounts

-- each account that has an amount, once and in account order, with the sum of its amounts
abbrev pub sums_of : Amounts → Table Account ℤ
sums_of amounts = map (λ e. (e.0, sum_for e.0 amounts)) (table_of_last account_cmp amounts)

-- what a row moves for its account
abbrev pub cash_moved : ℕ × AccountRow → Account × ℤ
cash_moved e = (e.1.account, paid_by e.1)

-- the day net of each account of these rows, in account order: the sum of its charges and shares
abbrev pub nets_from_rows : List (ℕ × AccountRow) → Table Account ℤ
nets_from_rows rows = sums_of (map cash_moved rows)
