-- The entry that a row puts into each of the seven tables; a row of another kind puts none.
use Rattle.std.specs.Prelude.{ℕ, ℤ, List, Option, Some, None}
use Rattle.hh_rows.specs.declared.keys.UnitPeriod.{UnitPeriod}
use Rattle.hh_rows.specs.declared.keys.ContractKey.{ContractKey}
use Rattle.hh_rows.specs.declared.keys.ReallocationKey.{ReallocationKey}
use Rattle.hh_rows.specs.declared.settlement_period.SettlementPeriod.{SettlementPeriod}
use Rattle.hh_rows.specs.declared.rows.Row.{Row}
use Rattle.hh_rows.specs.declared.rows.Row.TheVariants as row
use Rattle.hh_rows.specs.declared.rows.PartyRegistration.{PartyRegistration}
use Rattle.hh_rows.specs.declared.rows.UnitRegistration.{UnitRegistration}
use Rattle.hh_names.specs.declared.values.Reading.{Reading}
use Rattle.hh_names.specs.declared.values.Counterparties.{Counterparties}
use Rattle.hh_names.specs.declared.values.Reallocation.{Reallocation}

abbrev pub party_entry : Row → Option (List ℕ × PartyRegistration)
party_entry (row.Party r) = Some (r.party, r.registration)
party_entry _ = None

abbrev pub unit_entry : Row → Option (List ℕ × UnitRegistration)
unit_entry (row.Unit r) = Some (r.unit, r.registration)
unit_entry _ = None

abbrev pub reference_entry : Row → Option (List ℕ × Counterparties)
reference_entry (row.Contract r) = Some (r.key.reference, r.contract.counterparties)
reference_entry _ = None

abbrev pub meter_entry : Row → Option (UnitPeriod × Reading)
meter_entry (row.Meter r) = Some (r.key, r.reading)
meter_entry _ = None

abbrev pub price_entry : Row → Option (SettlementPeriod × ℤ)
price_entry (row.Price r) = Some (r.at, r.price)
price_entry _ = None

abbrev pub contract_entry : Row → Option (ContractKey × ℤ)
contract_entry (row.Contract r) = Some (r.key, r.contract.volume)
contract_entry _ = None

abbrev pub reallocation_entry : Row → Option (ReallocationKey × Reallocation)
reallocation_entry (row.Reallocation r) = Some (r.key, r.reallocation)
reallocation_entry _ = None
