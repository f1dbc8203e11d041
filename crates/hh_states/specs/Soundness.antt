-- Properties of all that is registered and in force, however the files came.
use Rattle.std.specs.Prelude.{◌≡◌, ◌≢◌, ℕ, ◌≤◌, ◌≤ℤ◌, List, length, Some, IsSome, IsTrue}
use Rattle.std.specs.FinMap.{find}
use Rattle.hh_rules.specs.Quantities.{hundred_percent}
use Rattle.hh_rules.specs.Tables.{IsTable}
use Rattle.hh_rules.specs.Days.{Midnights}
use Rattle.hh_rules.specs.values.Counterparties.{Counterparties}
use Rattle.hh_rules.specs.account.Account.{Account}
use Rattle.hh_rules.specs.Accounts.{bytes_cmp}
use Rattle.hh_rules.specs.DateRanges.{holds}
use Rattle.hh_rules.specs.Keys.{contract_key_cmp, reallocation_key_cmp, settlement_period_cmp, unit_period_cmp}
use Rattle.hh_rules.specs.keys.ContractKey.{ContractKey}
use Rattle.hh_rules.specs.keys.ReallocationKey.{ReallocationKey}
use Rattle.hh_rules.specs.keys.UnitPeriod.{UnitPeriod}
use Rattle.hh_rules.specs.rows.PartyRegistration.{PartyRegistration}
use Rattle.hh_rules.specs.rows.UnitRegistration.{UnitRegistration}
use Rattle.hh_rules.specs.History.{Registered}
use Rattle.hh_rules.specs.Leads.{lead_on, registered_units}
use Rattle.hh_rules.specs.Percents.{percent_at}
use Rattle.hh_rules.specs.Registrations.{registered_lead_on}
use Rattle.hh_rules.specs.Refusals.{most_parties, most_units}
use Rattle.hh_states.specs.States.{State}
use Rattle.hh_states.specs.Steps.{IsReached, registered_at}

-- no more parties and units are registered than there may be, the reference of each contract in force is fixed, and at most 100
-- percent of a unit is in force in a Settlement Period
pub record AreSound (tables : Registered) : Type 0 where
  pub parties : length tables.parties ≤ most_parties
  pub units : length tables.units ≤ most_units
  pub fixed : (key : ContractKey) → IsSome (find contract_key_cmp key tables.contracts)
      → IsSome (find bytes_cmp key.reference tables.references)
  pub percents : (at : UnitPeriod) → percent_at tables.reallocations at ≤ℤ hundred_percent

-- a party is registered, and its range has a date
pub record IsPartyEffective (tables : Registered) (party : List ℕ) (date : ℕ) : Type 0 where
  pub registration : PartyRegistration
  pub registered : find bytes_cmp party tables.parties ≡ Some registration
  pub holding : IsTrue (holds registration.range date)

-- a unit is registered, and its range has a date
pub record IsUnitEffective (tables : Registered) (unit : List ℕ) (date : ℕ) : Type 0 where
  pub registration : UnitRegistration
  pub registered : find bytes_cmp unit tables.units ≡ Some registration
  pub holding : IsTrue (holds registration.range date)

-- an account leads a unit on a date, and its party is effective on the date
pub record IsLed (tables : Registered) (unit : List ℕ) (date : ℕ) : Type 0 where
  pub lead : Account
  pub leads : registered_lead_on (registered_units tables) unit date ≡ Some lead
  pub party : IsPartyEffective tables lead.party date

-- a contract's reference is fixed: its seller is another account than its buyer, and both parties are effective on its date
pub record HasCounterparties (tables : Registered) (key : ContractKey) : Type 0 where
  pub counterparties : Counterparties
  pub fixed : find bytes_cmp key.reference tables.references ≡ Some counterparties
  pub different : counterparties.seller ≢ counterparties.buyer
  pub seller : IsPartyEffective tables counterparties.seller.party key.at.date
  pub buyer : IsPartyEffective tables counterparties.buyer.party key.at.date

-- a reallocation's unit and its account's party are effective on its date, and the account isn't the one that leads the unit there
pub record IsToSubsidiary (tables : Registered) (key : ReallocationKey) : Type 0 where
  pub unit : IsUnitEffective tables key.unit_period.unit key.unit_period.at.date
  pub party : IsPartyEffective tables key.account.party key.unit_period.at.date
  pub not_lead : lead_on tables key.unit_period.unit unit.registration key.unit_period.at.date ≢ key.account

-- the keys of each of the seven tables rise, so none occurs twice
pub record AreTables (tables : Registered) : Type 0 where
  pub parties : IsTable bytes_cmp tables.parties
  pub units : IsTable bytes_cmp tables.units
  pub references : IsTable bytes_cmp tables.references
  pub meters : IsTable unit_period_cmp tables.meters
  pub prices : IsTable settlement_period_cmp tables.prices
  pub contracts : IsTable contract_key_cmp tables.contracts
  pub reallocations : IsTable reallocation_key_cmp tables.reallocations

-- What is registered and in force fits together: there are no more parties and units than there may be, each unit is led on each of
-- its dates by an account whose party is effective there, each contract has its counterparties, each reallocation is to a subsidiary,
-- at most 100 percent of each unit is in force in a Settlement Period, and each reading is of a unit that is effective on the date.
pub record AreConsistent (tables : Registered) : Type 0 where
  pub rising : AreTables tables
  pub parties : length tables.parties ≤ most_parties
  pub units : length tables.units ≤ most_units
  pub leads : (unit : List ℕ) (date : ℕ) → IsUnitEffective tables unit date → IsLed tables unit date
  pub contracts : (key : ContractKey) → IsSome (find contract_key_cmp key tables.contracts) → HasCounterparties tables key
  pub reallocations : (key : ReallocationKey) → IsSome (find reallocation_key_cmp key tables.reallocations)
      → IsToSubsidiary tables key
  pub percents : (at : UnitPeriod) → percent_at tables.reallocations at ≤ℤ hundred_percent
  pub meters : (key : UnitPeriod) → IsSome (find unit_period_cmp key tables.meters)
      → IsUnitEffective tables key.unit key.at.date

-- in each state that the machine reaches, what is registered and in force is consistent
abbrev pub ConsistentStates : Type 0
ConsistentStates = (midnight : Midnights) (s : State) → IsReached midnight s → AreConsistent (registered_at midnight s)

-- and it is sound
abbrev pub SoundStates : Type 0
SoundStates = (midnight : Midnights) (s : State) → IsReached midnight s → AreSound (registered_at midnight s)
