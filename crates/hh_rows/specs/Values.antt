-- The values that fields of rows and settings can have: each is in the grammar and range of its text.
use Rattle.std.specs.Prelude.{◌≤◌, ℤ, IsTrue}
use Rattle.hh_names.specs.Quantities.{Measure, multipliers, percentages, volumes}
use Rattle.hh_names.specs.Ranges.{IsBetween}
use Rattle.hh_time.specs.Days.{is_accepted}
use Rattle.hh_names.specs.declared.account.Account.{Account}
use Rattle.hh_names.specs.declared.values.Counterparties.{Counterparties}
use Rattle.hh_names.specs.declared.values.Reading.{Reading}
use Rattle.hh_names.specs.declared.values.Reallocation.{Reallocation}
use Rattle.hh_names.specs.Words.{is_access_key, is_operator_key, is_party_id, is_reference, is_unit_id}
use Rattle.hh_rows.specs.DateRanges.{Range}
use Rattle.hh_rows.specs.declared.keys.ContractKey.{ContractKey}
use Rattle.hh_rows.specs.declared.keys.ReallocationKey.{ReallocationKey}
use Rattle.hh_rows.specs.declared.keys.UnitPeriod.{UnitPeriod}
use Rattle.hh_rows.specs.declared.rows.PartyRegistration.{PartyRegistration}
use Rattle.hh_rows.specs.declared.rows.UnitRegistration.{UnitRegistration}
use Rattle.hh_rows.specs.declared.settings.Settings.{Settings}
use Rattle.hh_rows.specs.declared.settlement_period.SettlementPeriod.{SettlementPeriod}

-- so many units of a quantity lie within its range
abbrev pub IsQuantity : Measure → ℤ → Type 0
IsQuantity measure units = IsBetween measure.least measure.most units

-- a Settlement Period has an accepted date and a number from 1 to 50
pub record IsPeriod (at : SettlementPeriod) : Type 0 where
  pub date : IsTrue (is_accepted at.date)
  pub first : 1 ≤ at.period
  pub last : at.period ≤ 50

-- a range goes from one accepted date to another, which is not before it
pub record IsRange (range : Range) : Type 0 where
  pub from : IsTrue (is_accepted range.from)
  pub to : IsTrue (is_accepted range.to)
  pub rising : range.from ≤ range.to

-- an account is one of a party whose id is in its grammar
abbrev pub IsAccount : Account → Type 0
IsAccount a = IsTrue (is_party_id a.party)

-- what is registered of a party
pub record IsPartyRegistration (p : PartyRegistration) : Type 0 where
  pub range : IsRange p.range
  pub key : IsTrue (is_access_key p.key)

-- what is registered of a unit
pub record IsUnitRegistration (u : UnitRegistration) : Type 0 where
  pub lead : IsAccount u.lead
  pub range : IsRange u.range

-- the seller and the buyer of a reference
pub record AreCounterparties (c : Counterparties) : Type 0 where
  pub seller : IsAccount c.seller
  pub buyer : IsAccount c.buyer

-- what a unit has in a Settlement Period
pub record IsMeterReading (r : Reading) : Type 0 where
  pub metered : IsQuantity volumes r.metered
  pub tlm : IsQuantity multipliers r.tlm
  pub balancing : IsQuantity volumes r.balancing

-- what a reallocation moves
pub record IsReallocation (r : Reallocation) : Type 0 where
  pub percent : IsQuantity percentages r.percent
  pub fixed : IsQuantity volumes r.fixed

-- the keys of rows of meter volumes, of contracts and of reallocations
pub record IsUnitPeriod (key : UnitPeriod) : Type 0 where
  pub unit : IsTrue (is_unit_id key.unit)
  pub at : IsPeriod key.at

pub record IsContractKey (key : ContractKey) : Type 0 where
  pub reference : IsTrue (is_reference key.reference)
  pub at : IsPeriod key.at

pub record IsReallocationKey (key : ReallocationKey) : Type 0 where
  pub unit_period : IsUnitPeriod key.unit_period
  pub account : IsAccount key.account

-- notifications close at most 1,440 minutes before their Settlement Period, and the operator's key is in its grammar
pub record AreSettings (settings : Settings) : Type 0 where
  pub lead_minutes : settings.lead_minutes ≤ 1440
  pub operator_key : IsTrue (is_operator_key settings.operator_key)
