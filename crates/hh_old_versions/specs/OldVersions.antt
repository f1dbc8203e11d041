-- What older versions of the office did otherwise. In version 1 a unit had one lead account on all its dates: a row that gave a known
-- unit another lead account or mark was refused with 40, and one whose range wasn't as wide with 39.
use Rattle.std.specs.Prelude.{◌≡◌, nat_le, List, [], ◌∷◌, Bool, true, false, not, ◌&&◌, ◌||◌, ℕ, Some, is_none}
use Rattle.std.specs.FinMap.{find}
use Rattle.hh_tables.specs.Tables.{table_of_last}
use Rattle.hh_names.specs.declared.fault.Refusal.{Refusal}
use Rattle.hh_names.specs.declared.fault.Refusal.TheVariants as refusal
use Rattle.hh_names.specs.Accounts.{bytes_cmp, is_same_account}
use Rattle.hh_rows.specs.DateRanges.{holds, is_inside}
use Rattle.hh_rows.specs.declared.rows.ReallocationRow.{ReallocationRow}
use Rattle.hh_rows.specs.declared.rows.Row.TheVariants as row
use Rattle.hh_rows.specs.declared.rows.UnitRegistration.{UnitRegistration}
use Rattle.hh_rows.specs.declared.rows.UnitRow.{UnitRow}
use Rattle.hh_registrations.specs.Registrations.{one_lead_each, registered_lead_on}
use Rattle.hh_rules.specs.declared.timing.Timing.{Timing}
use Rattle.hh_rules.specs.Entries.{unit_entry}
use Rattle.hh_rules.specs.History.{History, entries_of}
use Rattle.hh_rules.specs.Lateness.{Timetable, Accepted, comes_in_time, lacks_period}
use Rattle.hh_rules.specs.Refusals.{Standing, contract_refusals, is_party_off, is_same_mark, is_some_that, is_unit_off, meter_refusals, most_units, party_refusals, passes_hundred, price_refusals, registered_party, registered_unit, whole_standing}
use Rattle.hh_successions.specs.RegistrationHistory.{IsAcceptedBy, refusal_by, registrations_in}
use Rattle.hh_successions.specs.RowRules.{RowRule, office_rule}

-- ---- why version 1 refused a row

-- a known unit's new registration has another lead account or interconnector mark
abbrev pub is_moved_in_version_one : UnitRegistration → UnitRegistration → Bool
is_moved_in_version_one known new =
    not (is_same_account known.lead new.lead && is_same_mark known.interconnector new.interconnector)

module _ (standing : Standing) where
  abbrev pub unit_refusals_of_version_one : UnitRow → List (Refusal × Bool)
  unit_refusals_of_version_one r =
      let new = r.registration in
      let lead_party = registered_party standing new.lead.party in
      let known = registered_unit standing r.unit in
      (refusal.UnknownParty, is_none lead_party)
      ∷ (refusal.NotEffective, is_some_that (λ p. not (is_inside new.range p.range)) lead_party)
      ∷ (refusal.ShrinksRange, is_some_that (λ u. not (is_inside u.range new.range)) known)
      ∷ (refusal.UnitMoved, is_some_that (λ u. is_moved_in_version_one u new) known)
      ∷ (refusal.TooMany, is_none known && nat_le most_units standing.unit_count)
      ∷ []

  -- 37 meant the lead account of the unit's row
  abbrev pub reallocation_refusals_of_version_one : Timing → ReallocationRow → List (Refusal × Bool)
  reallocation_refusals_of_version_one timing r =
      let party = r.key.account.party in
      let unit = r.key.unit_period.unit in
      let date = r.key.unit_period.at.date in
      (refusal.UnknownParty, is_none (registered_party standing party))
      ∷ (refusal.UnknownUnit, is_none (registered_unit standing unit))
      ∷ (refusal.NotEffective, is_unit_off standing unit date || is_party_off standing party date)
      ∷ (refusal.NoSuchPeriod, lacks_period timing)
      ∷ (refusal.OwnLead, is_some_that (λ u. is_same_account u.lead r.key.account) (registered_unit standing unit))
      ∷ (refusal.OverHundred, comes_in_time timing && passes_hundred standing r)
      ∷ []

-- rows of the other kinds are judged as they are now
abbrev pub rule_of_version_one : RowRule
rule_of_version_one tables timing (row.Party r) = party_refusals (whole_standing tables) r
rule_of_version_one tables timing (row.Unit r) = unit_refusals_of_version_one (whole_standing tables) r
rule_of_version_one tables timing (row.Meter r) = meter_refusals (whole_standing tables) timing r
rule_of_version_one tables timing (row.Price r) = price_refusals timing
rule_of_version_one tables timing (row.Contract r) = contract_refusals (whole_standing tables) timing r
rule_of_version_one tables timing (row.Reallocation r) = reallocation_refusals_of_version_one (whole_standing tables) timing r

-- ---- what version 1 kept of units

-- What version 1 kept, in its own words: what is registered of a unit is the unit's last row; each unit has one registration; and the
-- account of the row leads the unit on each of its dates.
pub record IsOfVersionOne (history : History) : Type 0 where
  pub units : (registrations_in history).units ≡ table_of_last bytes_cmp (entries_of unit_entry history)
  pub leads : (registrations_in history).leads ≡ one_lead_each (registrations_in history).units
  pub lead : (unit : List ℕ) (u : UnitRegistration) → find bytes_cmp unit (registrations_in history).units ≡ Some u
      → (date : ℕ) → holds u.range date ≡ true → registered_lead_on (registrations_in history) unit date ≡ Some u.lead

-- so it is of each history that version 1 accepted
abbrev pub KeptByVersionOne : Type 0
KeptByVersionOne = (timetable : Timetable) (history : History) → IsAcceptedBy rule_of_version_one timetable history → IsOfVersionOne history

-- ---- what comes after it

-- version 1 refused with 39 or 40
abbrev pub is_lead_refusal : Refusal → Bool
is_lead_refusal refusal.ShrinksRange = true
is_lead_refusal refusal.UnitMoved = true
is_lead_refusal _ = false

-- After a history that version 1 accepted, the office accepts or refuses a row as version 1 did, unless that was with 39 or 40.
abbrev pub SameRefusals : Type 0
SameRefusals = (timetable : Timetable) (history : History) (a : Accepted) → IsAcceptedBy rule_of_version_one timetable history
    → is_some_that is_lead_refusal (refusal_by rule_of_version_one timetable history a) ≡ false
    → refusal_by office_rule timetable history a ≡ refusal_by rule_of_version_one timetable history a

-- and each history that version 1 accepted is accepted
abbrev pub HistoriesOfVersionOne : Type 0
HistoriesOfVersionOne = (timetable : Timetable) (history : History) → IsAcceptedBy rule_of_version_one timetable history
    → IsAcceptedBy office_rule timetable history
