-- The sums of accounts while amounts are added to them.
use Rattle.std.specs.Prelude.{ℕ, ◌*◌, ◌^◌, ◌≤◌, ℤ, pos, unsigned_abs, unwrap_or}
use Rattle.std.specs.FinMap.{find}
use Rattle.hh_tables.specs.Tables.{Table}
use Rattle.hh_names.specs.declared.account.Account.{Account}
use Rattle.hh_names.specs.Accounts.{account_cmp}

-- the greatest size of an amount, which is two amounts of pence at most
abbrev pub greatest_amount : ℕ
greatest_amount = 2 ^ 64

-- the sum that a table has for an account, or 0 if it has none
abbrev pub sum_in : Table Account ℤ → Account → ℤ
sum_in sums a = unwrap_or (find account_cmp a sums) (pos 0)

-- the sums are at most as great in size as so many amounts together
abbrev pub AreSmall : ℕ → Table Account ℤ → Type 0
AreSmall given sums = (a : Account) → unsigned_abs (sum_in sums a) ≤ given * greatest_amount
