use Rattle.std.proofs.Common.{◌∙◌}
use Rattle.hh_sqlstore.proofs.parts.contracts_of_account.Goals as goal

pub returns-clause-value : goal.returns-clause-value
returns-clause-value g c stands office settled =
    c.in_ok-contracts.ensures ∙ c.contracts_by_their_rows.ensures c.args.date _ _ (c.in_ok-part.ensures.value stands office settled) c.args.account.now
