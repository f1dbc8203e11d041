-- The accounts of a file while they are gathered from its rows.
use Rattle.std.specs.Prelude.{◌≡◌, ◌+◌, List, ◌++◌}
use Rattle.hh_names.specs.declared.account.Account.{Account}
use Rattle.hh_period.specs.Rows.{in_account_order}

-- a list of accounts has the accounts that another list has, and those of more names
abbrev pub NamesMore : List Account → List Account → List Account → Type 0
NamesMore old new more = (names : List Account) → old ≡ in_account_order names → new ≡ in_account_order (names ++ more)
