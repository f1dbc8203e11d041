-- What is registered of units by the rows of a history, and who led a unit on a date by looking back over all rows.
use Rattle.std.specs.Prelude.{◌≡◌, ℕ, List, [], ◌∷◌, ◌++◌, filter, Bool, true, false, not, ◌&&◌, Option, Some, None, is_some, option_map}
use Rattle.std.specs.FinMap.{find}
use Rattle.std.specs.List.{AllByRecursion}
use Rattle.std.specs.Ordering.{eq_by_cmp}
use Rattle.hh_tables.specs.Ends.{last_of}
use Rattle.hh_names.specs.declared.account.Account.{Account}
use Rattle.hh_names.specs.declared.fault.Refusal.{Refusal}
use Rattle.hh_names.specs.declared.values.Reallocation.{Reallocation}
use Rattle.hh_names.specs.Accounts.{bytes_cmp, is_same_account}
use Rattle.hh_names.specs.Faults.{first_met}
use Rattle.hh_rows.specs.DateRanges.{holds}
use Rattle.hh_rows.specs.Keys.{reallocation_key_cmp}
use Rattle.hh_rows.specs.declared.keys.ReallocationKey.{ReallocationKey}
use Rattle.hh_rows.specs.declared.rows.Row.{Row}
use Rattle.hh_rows.specs.declared.rows.Row.TheVariants as row
use Rattle.hh_rows.specs.declared.rows.UnitRegistration.{UnitRegistration}
pub use Rattle.hh_registrations.specs.Registrations.{registrations_with}
use Rattle.hh_registrations.specs.Registrations.{RegistrationsView, is_succession, last_registration, registered_lead_on}
use Rattle.hh_rules.specs.Entries.{unit_entry}
use Rattle.hh_rules.specs.History.{History, entries_of, leads_from, registered_in, units_from}
use Rattle.hh_rules.specs.Lateness.{Timetable, Accepted, timing_of}
use Rattle.hh_rules.specs.Refusals.{is_some_that}
use Rattle.hh_successions.specs.RowRules.{RowRule}

-- ---- what rows make of units, one after the other

-- what the rows of a history make of units
abbrev pub registrations_in : History → RegistrationsView
registrations_in history = record { units = units_from [] history; leads = leads_from [] history }

-- ---- histories of accepted rows

module _ (rule : RowRule) (timetable : Timetable) where
  -- why a row is refused after a history by a rule, if it is
  abbrev pub refusal_by : History → Accepted → Option Refusal
  refusal_by history a =
      first_met (rule (registered_in timetable history) (timing_of timetable a) a.row)

  -- the rows of a history came one after the other, and the rule refused none
  pub data IsAcceptedBy : History → Type 0 where
    no_rows : IsAcceptedBy []
    one_more : (history : History) (a : Accepted) → IsAcceptedBy history → refusal_by history a ≡ None → IsAcceptedBy (history ++ a ∷ [])

-- ---- the same by looking back over all rows

-- the last row of a unit whose range holds a date
abbrev pub last_row_holding : History → List ℕ → ℕ → Option (List ℕ × UnitRegistration)
last_row_holding history unit date =
    last_of (filter (λ e. eq_by_cmp bytes_cmp unit e.0 && holds e.1.range date) (entries_of unit_entry history))

-- A unit belongs to a date if a row of it has a range that holds the date. The account that leads it on the date is that of the last such
-- row.
abbrev pub lead_looking_back : History → List ℕ → ℕ → Option Account
lead_looking_back history unit date = option_map (λ e. e.1.lead) (last_row_holding history unit date)

-- the row is one of the unit, and its range holds the date
abbrev pub is_row_on : Row → List ℕ → ℕ → Bool
is_row_on (row.Unit r) unit date = eq_by_cmp bytes_cmp unit r.unit && holds r.registration.range date
is_row_on _ unit date = false

-- the row is a succession of the unit, and its range holds the date
abbrev pub is_succession_on : RegistrationsView → Row → List ℕ → ℕ → Bool
is_succession_on registered (row.Unit r) unit date =
    is_row_on (row.Unit r) unit date
    && is_some_that (λ last. is_succession last r.registration) (last_registration registered.leads r.unit)
is_succession_on registered _ unit date = false

-- ---- what holds after each history of rows that a rule accepts

module _ (rule : RowRule) (timetable : Timetable) where
  -- registrations give each unit on each date the lead account that looking back finds
  abbrev pub LeadsLookBack : Type 0
  LeadsLookBack =
      (history : History) → IsAcceptedBy rule timetable history → (unit : List ℕ) (date : ℕ)
      → registered_lead_on (registrations_in history) unit date ≡ lead_looking_back history unit date

  -- a unit's range holds the dates that the unit belongs to
  abbrev pub UnitsLookBack : Type 0
  UnitsLookBack =
      (history : History) → IsAcceptedBy rule timetable history → (unit : List ℕ) (date : ℕ)
      → is_some_that (λ u. holds u.range date) (find bytes_cmp unit (registrations_in history).units)
      ≡ is_some (last_row_holding history unit date)

  -- the mark of a known unit is that of each of its rows
  abbrev pub MarksAlike : Type 0
  MarksAlike =
      (history : History) → IsAcceptedBy rule timetable history → (unit : List ℕ) (known : UnitRegistration)
      → find bytes_cmp unit (registrations_in history).units ≡ Some known
      → AllByRecursion (λ e. eq_by_cmp bytes_cmp unit e.0 ≡ true → e.1.interconnector ≡ known.interconnector) (entries_of unit_entry history)

  -- a known unit keeps its mark
  abbrev pub MarksStay : Type 0
  MarksStay =
      (history : History) (a : Accepted) → IsAcceptedBy rule timetable history → refusal_by rule timetable history a ≡ None
      → (unit : List ℕ) (known : UnitRegistration) → find bytes_cmp unit (registrations_in history).units ≡ Some known
      → option_map (λ u. u.interconnector) (find bytes_cmp unit (registrations_in (history ++ a ∷ [])).units)
      ≡ Some known.interconnector

  -- a further row changes who leads a unit on none but its own dates
  abbrev pub LeadsStay : Type 0
  LeadsStay =
      (history : History) (a : Accepted) → IsAcceptedBy rule timetable history → refusal_by rule timetable history a ≡ None
      → (unit : List ℕ) (date : ℕ) → is_row_on a.row unit date ≡ false
      → registered_lead_on (registrations_in (history ++ a ∷ [])) unit date ≡ registered_lead_on (registrations_in history) unit date

  -- a unit that is led on a date has the same lead account there after a further row, unless the row is a succession that holds the date
  abbrev pub SuccessionsAloneMoveLeads : Type 0
  SuccessionsAloneMoveLeads =
      (history : History) (a : Accepted) → IsAcceptedBy rule timetable history → refusal_by rule timetable history a ≡ None
      → (unit : List ℕ) (date : ℕ) → is_succession_on (registrations_in history) a.row unit date ≡ false
      → is_some (registered_lead_on (registrations_in history) unit date) ≡ true
      → registered_lead_on (registrations_in (history ++ a ∷ [])) unit date ≡ registered_lead_on (registrations_in history) unit date

  -- each reallocation in force is of a unit that another account leads on the date than the one that the reallocation is to
  abbrev pub LedByAnother : Type 0
  LedByAnother =
      (history : History) → IsAcceptedBy rule timetable history → (key : ReallocationKey) (r : Reallocation)
      → find reallocation_key_cmp key (registered_in timetable history).reallocations ≡ Some r
      → is_some_that (λ lead. not (is_same_account lead key.account))
      (registered_lead_on (registrations_in history) key.unit_period.unit key.unit_period.at.date)
      ≡ true

-- to accept one more row is to change what is registered by that row alone
abbrev pub RegistersRowByRow : Type 0
RegistersRowByRow =
    (history : History) (a : Accepted) → registrations_in (history ++ a ∷ []) ≡ registrations_with a.row (registrations_in history)
