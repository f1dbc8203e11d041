-- Small reallocations, computed examples.
use Rattle.std.proofs.Common.{◌≡◌, [], ◌∷◌, refl}
use Rattle.std.specs.Prelude.{ℤ, pos, negsuc, false}
use Rattle.hh_names.specs.declared.account.Account.{Account}
use Rattle.hh_calc.specs.declared.data.Subsidiary.{Subsidiary}
use Rattle.hh_calc.specs.Formulas.{lead_credit, subsidiary_credit}
use Rattle.hh_calc.specs.Terms.{UnitDataView}

module _ (lead account : Account) where
  abbrev reallocation : ℤ → ℤ → Subsidiary
  reallocation percent fixed = record { account = account; reallocation = record { percent = percent; fixed = fixed } }

  abbrev unit : ℤ → ℤ → ℤ → Subsidiary → UnitDataView
  unit metered tlm balancing subsidiary =
      record { unit = []; lead = lead; interconnector = false; reading = record { metered = metered; tlm = tlm; balancing = balancing }; subsidiaries = subsidiary ∷ [] }

  -- 33.33333 percent of 9 MWh, and 0.5 MWh
  abbrev third : Subsidiary
  third = reallocation (pos 3_333_333) (pos 500)

  third_to_subsidiary : subsidiary_credit (unit (pos 10_000) (pos 10_123_457) (pos 1_000) third) third ≡ pos 35_432_096_463
  third_to_subsidiary = refl

  third_to_lead : lead_credit (unit (pos 10_000) (pos 10_123_457) (pos 1_000) third) ≡ pos 65_802_473_537
  third_to_lead = refl

  -- half of 1 kWh: the half tick is rounded away from zero, and the lead account has the rest
  abbrev half : Subsidiary
  half = reallocation (pos 5_000_000) (pos 0)

  half_to_subsidiary : subsidiary_credit (unit (pos 1) (pos 10_000_001) (pos 0) half) half ≡ pos 5_000_001
  half_to_subsidiary = refl

  half_to_lead : lead_credit (unit (pos 1) (pos 10_000_001) (pos 0) half) ≡ pos 5_000_000
  half_to_lead = refl

  minus_half_to_subsidiary : subsidiary_credit (unit (negsuc 0) (pos 10_000_001) (pos 0) half) half ≡ negsuc 5_000_000
  minus_half_to_subsidiary = refl

  minus_half_to_lead : lead_credit (unit (negsuc 0) (pos 10_000_001) (pos 0) half) ≡ negsuc 4_999_999
  minus_half_to_lead = refl
