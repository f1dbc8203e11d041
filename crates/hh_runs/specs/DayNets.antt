-- What accounts pay over a Settlement Day, and the differences between two settlements of one day.
use Rattle.std.specs.Prelude.{ℤ, pos, ◌-ℤ◌, Bool, not, ◌++◌, map, filter, unwrap_or}
use Rattle.std.specs.FinMap.{find}
use Rattle.std.specs.Ordering.{int_eq}
use Rattle.hh_tables.specs.Tables.{Table, in_key_order}
use Rattle.hh_names.specs.declared.account.Account.{Account}
use Rattle.hh_names.specs.Accounts.{account_cmp}
use Rattle.hh_names.specs.Quantities.{Measure, either_sign}

-- cash over a day: whole pence, at most 10^14 in size
abbrev pub day_cash : Measure
day_cash = either_sign 0 100_000_000_000_000

-- the pence that each account pays over a day, negative if it is paid
abbrev pub DayNets : Type 0
DayNets = Table Account ℤ

-- the day net of an account, 0 if the account has none
abbrev pub day_net_of : DayNets → Account → ℤ
day_net_of nets a = unwrap_or (find account_cmp a nets) (pos 0)

-- the new net of an account less its old one
abbrev pub net_change : DayNets → DayNets → Account → ℤ
net_change old new a = day_net_of new a -ℤ day_net_of old a

-- an account's entry as the account with its new net less its old
abbrev pub with_change : DayNets → DayNets → Account × ℤ → Account × ℤ
with_change old new e = (e.0, net_change old new e.0)

-- whether a change is not 0
abbrev pub is_difference : Account × ℤ → Bool
is_difference e = not (int_eq e.1 (pos 0))

-- the accounts of either settlement in account order, each with its new net less its old, if that is not 0
abbrev pub differences : DayNets → DayNets → DayNets
differences old new = filter is_difference (in_key_order account_cmp (map (with_change old new) (new ++ old)))
