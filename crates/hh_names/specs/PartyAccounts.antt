-- The accounts of a party.
use Rattle.std.specs.Prelude.{ℕ, List, [], ◌∷◌}
use Rattle.hh_names.specs.declared.account.Account.{Account}
use Rattle.hh_names.specs.declared.account.Side.TheVariants.{Consumption, Production}

-- both accounts of a party, in their order
abbrev pub both_accounts : List ℕ → List Account
both_accounts party = record { party = party; side = Production } ∷ record { party = party; side = Consumption } ∷ []
