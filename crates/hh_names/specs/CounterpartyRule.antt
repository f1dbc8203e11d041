-- Why a contract's row is refused for its seller and buyer: refusals 35 and 36.
use Rattle.std.specs.Prelude.{List, [], ◌∷◌, Bool, false, not, ◌&&◌, Option, Some, None}
use Rattle.hh_names.specs.declared.fault.Refusal.{Refusal}
use Rattle.hh_names.specs.declared.fault.Refusal.TheVariants.{ReferenceMoved, SameAccount}
use Rattle.hh_names.specs.declared.values.Counterparties.{Counterparties}
use Rattle.hh_names.specs.Accounts.{is_same_account}

-- whether two contracts have the same seller and the same buyer
abbrev pub are_same_counterparties : Counterparties → Counterparties → Bool
are_same_counterparties a b = is_same_account a.seller b.seller && is_same_account a.buyer b.buyer

-- whether a reference, if it is known, has another seller or buyer than this
abbrev pub is_moved : Option Counterparties → Counterparties → Bool
is_moved None counterparties = false
is_moved (Some known) counterparties = not (are_same_counterparties known counterparties)

-- the refusals for a seller and a buyer, with their conditions, in the order of their numbers; the reference may be known
abbrev pub counterparty_refusals : Option Counterparties → Counterparties → List (Refusal × Bool)
counterparty_refusals known counterparties =
    (SameAccount, is_same_account counterparties.seller counterparties.buyer)
    ∷ (ReferenceMoved, is_moved known counterparties)
    ∷ []
