-- What the code of a period assumes of the credits that it adds.
use Rattle.std.specs.Prelude.{List}
use Rattle.hh_names.specs.declared.account.Account.{Account}
use Rattle.hh_calc.specs.declared.result.CreditRow.{CreditRow}
use Rattle.hh_calc.specs.Ready.{IsListed}

-- the account of a credit is one of these
abbrev pub IsCreditListed : List Account → CreditRow → Type 0
IsCreditListed accounts c = IsListed accounts c.account
