use Rattle.hh_names.proofs.AccountLaws.{account_total, exact_accounts}
use Rattle.hh_calc.proofs.OrderLaws.{searchable, found}
use Rattle.hh_calc.proofs.places.place_of.Goals as goal

pub returns-in-Ok-clause-place : goal.returns-in-Ok-clause-place
returns-in-Ok-clause-place c d = exact_accounts _ _ (c.in-Ok.ensures.position d)

pub returns-in-Err-clause-none : goal.returns-in-Err-clause-none
returns-in-Err-clause-none c none named =
    found account_total c.args.accounts.now c.args.account.now _ named
    (c.in-Err.ensures.position (searchable account_total c.args.accounts.now c.requires c.args.account.now))
