use Rattle.hh_sqlchanges.proofs.AccountLaws.{of_their_accounts}
use Rattle.hh_sqlchanges.proofs.own_accounts.rows_of_their_accounts.Goals as goal

pub returns : goal.returns
returns c = of_their_accounts
