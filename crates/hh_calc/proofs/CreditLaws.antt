-- The credits of units are to named accounts.
use Rattle.std.proofs.Common.{List, [], ◌∷◌, map}
use Rattle.std.specs.Prelude.{All}
use Rattle.std.proofs.lemmas.List.Elements.{All-append, All-cons, All-map, All-nil}
use Rattle.hh_names.specs.declared.account.Account.{Account}
use Rattle.hh_calc.specs.declared.data.Subsidiary.{Subsidiary}
use Rattle.hh_calc.specs.declared.result.CreditRow.{CreditRow}
use Rattle.hh_calc.specs.Formulas.{lead_credit, subsidiary_credit, unit_credits}
use Rattle.hh_calc.specs.Ready.{IsUnitListed}
use Rattle.hh_calc.specs.steps.Ready.{IsCreditListed}
use Rattle.hh_calc.specs.Terms.{UnitDataView}

module _ (accounts : List Account) where
  -- if a unit's accounts are named, so are those of its credits
  pub unit_named : (u : UnitDataView) → IsUnitListed accounts u → All (IsCreditListed accounts) (unit_credits u)
  unit_named u h =
      let to_subsidiary : Subsidiary → CreditRow = λ s. record { unit = u.unit; account = s.account; credited = subsidiary_credit u s } in
      let to_lead : CreditRow = record { unit = u.unit; account = u.lead; credited = lead_credit u } in
      All-append (IsCreditListed accounts) (map to_subsidiary u.subsidiaries) (to_lead ∷ []) (All-map (IsCreditListed accounts) to_subsidiary u.subsidiaries h.1)
      (All-cons (IsCreditListed accounts) to_lead [] h.0 (All-nil (IsCreditListed accounts)))
