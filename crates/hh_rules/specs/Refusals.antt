-- Why a row is refused: the refusals of each kind of row with their conditions, in the order of their numbers.
use Rattle.std.specs.Prelude.{ℕ, ◌+◌, ◌+ℤ◌, nat_le, nat_lt, int_lt, List, [], ◌∷◌, length, Bool, true, false, not, ◌&&◌, ◌||◌, Option, Some, None, is_none, unwrap_or, if◌then◌else◌}
use Rattle.std.specs.FinMap.{find}
use Rattle.std.specs.List.{list_any}
use Rattle.std.specs.Ordering.{eq_by_cmp}
use Rattle.hh_names.specs.declared.fault.Refusal.{Refusal}
use Rattle.hh_names.specs.declared.fault.Refusal.TheVariants as refusal
use Rattle.hh_names.specs.Accounts.{bytes_cmp, is_same_account}
use Rattle.hh_names.specs.CounterpartyRule.{counterparty_refusals}
use Rattle.hh_rows.specs.DateRanges.{holds, is_inside}
use Rattle.hh_rows.specs.declared.keys.ReallocationKey.{ReallocationKey}
use Rattle.hh_rows.specs.declared.rows.Row.{Row}
use Rattle.hh_rows.specs.declared.rows.Row.TheVariants as row
use Rattle.hh_rows.specs.declared.rows.PartyRow.{PartyRow}
use Rattle.hh_rows.specs.declared.rows.UnitRow.{UnitRow}
use Rattle.hh_rows.specs.declared.rows.MeterRow.{MeterRow}
use Rattle.hh_rows.specs.declared.rows.ContractRow.{ContractRow}
use Rattle.hh_rows.specs.declared.rows.ReallocationRow.{ReallocationRow}
use Rattle.hh_rows.specs.declared.rows.PartyRegistration.{PartyRegistration}
use Rattle.hh_rows.specs.declared.rows.UnitRegistration.{UnitRegistration}
use Rattle.hh_rows.specs.Quantities.{hundred_percent}
use Rattle.hh_registrations.specs.Registrations.{Lead, Leads, is_succession, is_widening, last_registration, lead_of, registration_on}
use Rattle.hh_rules.specs.declared.timing.Timing.{Timing}
use Rattle.hh_rules.specs.History.{Registered}
use Rattle.hh_rules.specs.Lateness.{comes_in_time, lacks_period}
use Rattle.hh_rules.specs.Percents.{percent_of_others}

-- what a row is judged by: what is registered and in force, and how many parties and units there are in all
pub record Standing : Type 0 where
  pub tables : Registered
  pub party_count : ℕ
  pub unit_count : ℕ

-- what rows are judged by, if the tables have all parties and units
abbrev pub whole_standing : Registered → Standing
whole_standing tables = record { tables = tables; party_count = length tables.parties; unit_count = length tables.units }

-- how many parties there may be
abbrev pub most_parties : ℕ
most_parties = 400

-- how many units there may be
abbrev pub most_units : ℕ
most_units = 2000

-- there is a value, and it passes the test
abbrev pub is_some_that : {X : Type 0} → (X → Bool) → Option X → Bool
is_some_that test None = false
is_some_that test (Some x) = test x

-- whether two marks are the same
abbrev pub is_same_mark : Bool → Bool → Bool
is_same_mark true mark = mark
is_same_mark false mark = not mark

-- the last registration of a known unit
abbrev pub last_lead : Leads → List ℕ → UnitRegistration → Lead
last_lead leads unit known = unwrap_or (last_registration leads unit) (lead_of unit known)

-- of a known unit with this last registration
module _ (known : UnitRegistration) (last : Lead) (new : UnitRegistration) where
  -- the unit has more registrations than the last
  abbrev pub has_several : Bool
  has_several = nat_lt known.range.from last.0.from

  -- 39: the row ends before the unit's range does; or it is a widening that begins later than the last registration
  abbrev pub is_shrunk : Bool
  is_shrunk = nat_lt new.range.to known.range.to || (is_widening last new && nat_lt last.0.from new.range.from)

  -- 40: the mark differs; or it is a widening that begins earlier than the last of several registrations; or it is a succession that
  -- doesn't begin later than the last registration, or begins later than the day after the unit's range
  abbrev pub is_unit_moved : Bool
  is_unit_moved =
      not (is_same_mark known.interconnector new.interconnector)
      || (if is_widening last new then nat_lt new.range.from last.0.from && has_several
      else nat_le new.range.from last.0.from || nat_lt (known.range.to + 1) new.range.from)

-- a reallocation of the unit on one of the row's dates is to the row's lead account
abbrev pub is_to_lead_of : UnitRow → ReallocationKey → Bool
is_to_lead_of r key =
    eq_by_cmp bytes_cmp key.unit_period.unit r.unit && holds r.registration.range key.unit_period.at.date
    && is_same_account key.account r.registration.lead

-- a row of prices needs only its period
abbrev pub price_refusals : Timing → List (Refusal × Bool)
price_refusals timing = (refusal.NoSuchPeriod, lacks_period timing) ∷ []

module _ (standing : Standing) where
  -- what is registered of a party, if it is registered
  abbrev pub registered_party : List ℕ → Option PartyRegistration
  registered_party party = find bytes_cmp party standing.tables.parties

  -- what is registered of a unit, if it is registered
  abbrev pub registered_unit : List ℕ → Option UnitRegistration
  registered_unit unit = find bytes_cmp unit standing.tables.units

  -- the party is registered, but not for the date
  abbrev pub is_party_off : List ℕ → ℕ → Bool
  is_party_off party date = is_some_that (λ p. not (holds p.range date)) (registered_party party)

  -- the unit is registered, but not for the date
  abbrev pub is_unit_off : List ℕ → ℕ → Bool
  is_unit_off unit date = is_some_that (λ u. not (holds u.range date)) (registered_unit unit)

  -- the refusals of each kind of row
  abbrev pub party_refusals : PartyRow → List (Refusal × Bool)
  party_refusals r =
      let known = registered_party r.party in
      (refusal.ShrinksRange, is_some_that (λ p. not (is_inside p.range r.registration.range)) known)
      ∷ (refusal.TooMany, is_none known && nat_le most_parties standing.party_count)
      ∷ []

  -- 41: the row is a succession, and a reallocation in force on one of its dates is to its lead account
  abbrev pub is_subsidiary_put_first : UnitRow → Lead → Bool
  is_subsidiary_put_first r last =
      is_succession last r.registration && list_any (λ e. is_to_lead_of r e.0) standing.tables.reallocations

  -- 30, 33 and 42 are asked of any unit, 39 to 41 of a known one
  abbrev pub unit_refusals : UnitRow → List (Refusal × Bool)
  unit_refusals r =
      let new = r.registration in
      let lead_party = registered_party new.lead.party in
      let known = registered_unit r.unit in
      let last = last_lead standing.tables.leads r.unit in
      (refusal.UnknownParty, is_none lead_party)
      ∷ (refusal.NotEffective, is_some_that (λ p. not (is_inside new.range p.range)) lead_party)
      ∷ (refusal.ShrinksRange, is_some_that (λ u. is_shrunk u (last u) new) known)
      ∷ (refusal.UnitMoved, is_some_that (λ u. is_unit_moved u (last u) new) known)
      ∷ (refusal.LeadIsSubsidiary, is_some_that (λ u. is_subsidiary_put_first r (last u)) known)
      ∷ (refusal.TooMany, is_none known && nat_le most_units standing.unit_count)
      ∷ []

  abbrev pub meter_refusals : Timing → MeterRow → List (Refusal × Bool)
  meter_refusals timing r =
      (refusal.UnknownUnit, is_none (registered_unit r.key.unit))
      ∷ (refusal.NotEffective, is_unit_off r.key.unit r.key.at.date)
      ∷ (refusal.NoSuchPeriod, lacks_period timing)
      ∷ []

  abbrev pub contract_refusals : Timing → ContractRow → List (Refusal × Bool)
  contract_refusals timing r =
      let seller = r.contract.counterparties.seller.party in
      let buyer = r.contract.counterparties.buyer.party in
      (refusal.UnknownParty, is_none (registered_party seller) || is_none (registered_party buyer))
      ∷ (refusal.NotEffective, is_party_off seller r.key.at.date || is_party_off buyer r.key.at.date)
      ∷ (refusal.NoSuchPeriod, lacks_period timing)
      ∷ counterparty_refusals (find bytes_cmp r.key.reference standing.tables.references) r.contract.counterparties

  -- with the row, more than 100 percent of the unit would be in force
  abbrev pub passes_hundred : ReallocationRow → Bool
  passes_hundred r =
      int_lt hundred_percent (percent_of_others r.key standing.tables.reallocations +ℤ r.reallocation.percent)

  -- 37 means the lead account of the row's date. A late row is never in force, so it can't take the unit above 100 percent.
  abbrev pub reallocation_refusals : Timing → ReallocationRow → List (Refusal × Bool)
  reallocation_refusals timing r =
      let party = r.key.account.party in
      let unit = r.key.unit_period.unit in
      let date = r.key.unit_period.at.date in
      (refusal.UnknownParty, is_none (registered_party party))
      ∷ (refusal.UnknownUnit, is_none (registered_unit unit))
      ∷ (refusal.NotEffective, is_unit_off unit date || is_party_off party date)
      ∷ (refusal.NoSuchPeriod, lacks_period timing)
      ∷ (refusal.OwnLead, is_some_that (λ e. is_same_account e.1.lead r.key.account) (registration_on standing.tables.leads unit date))
      ∷ (refusal.OverHundred, comes_in_time timing && passes_hundred r)
      ∷ []

  -- the refusals of a row of any kind
  abbrev pub refusals_of : Timing → Row → List (Refusal × Bool)
  refusals_of timing (row.Party r) = party_refusals r
  refusals_of timing (row.Unit r) = unit_refusals r
  refusals_of timing (row.Meter r) = meter_refusals timing r
  refusals_of timing (row.Price r) = price_refusals timing
  refusals_of timing (row.Contract r) = contract_refusals timing r
  refusals_of timing (row.Reallocation r) = reallocation_refusals timing r
