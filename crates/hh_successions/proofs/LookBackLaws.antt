-- After each history of accepted rows the registrations of units are those that looking back finds.
use Rattle.std.proofs.Common.{◌≡◌, ◌≤◌, ◌<◌, ◌+◌, ℕ, List, [], ◌∷◌, ◌++◌, Bool, true, false, cond, refl, sym, ap, subst, ◌∙◌, Option, Some, None, arith}
use Rattle.std.specs.Prelude.{nat_le, is_some, option_map, option_to_list, unwrap_or, IsSome, T}
use Rattle.std.specs.Cmp.{Equal-is}
use Rattle.std.specs.FinMap.{find, is_sorted}
use Rattle.std.specs.FinMap.Entries.{find-put}
use Rattle.std.specs.Ordering.{eq_by_cmp}
use Rattle.std.proofs.lemmas.Bool.{and_parts, leb-false, leb-true, le-leb}
use Rattle.std.proofs.lemmas.List.{append-nil}
use Rattle.std.proofs.lemmas.Map.Lookups.{exact_bytes}
use Rattle.hh_tables.specs.Ends.{last_of}
use Rattle.hh_tables.proofs.LastLaws.{none_pass}
use Rattle.hh_names.specs.declared.account.Account.{Account}
use Rattle.hh_names.specs.declared.fault.Refusal.{Refusal}
use Rattle.hh_names.specs.Accounts.{account_cmp, bytes_cmp, is_same_account}
use Rattle.hh_names.specs.Faults.{first_met}
use Rattle.hh_names.proofs.AccountLaws.{bytes_total, exact_accounts}
use Rattle.hh_rows.specs.DateRanges.{holds}
use Rattle.hh_rows.specs.Keys.{lead_key_cmp}
use Rattle.hh_rows.specs.declared.keys.LeadKey.{LeadKey}
use Rattle.hh_rows.specs.declared.rows.Row.{Row}
use Rattle.hh_rows.specs.declared.rows.Row.TheVariants as row
use Rattle.hh_rows.specs.declared.rows.UnitRegistration.{UnitRegistration}
use Rattle.hh_rows.specs.declared.rows.UnitRow.{UnitRow}
use Rattle.hh_rows.proofs.KeyLaws.{exact_lead_keys, lead_key_total}
use Rattle.hh_registrations.specs.Registrations.{Lead, Leads, RegistrationsView, is_begun, is_of_unit, last_begun, lead_of, no_registrations, registration_on, unless_ended, widened, with_unit_row}
use Rattle.hh_registrations.proofs.KeyLaws.{at}
use Rattle.hh_registrations.proofs.UpToLaws.{one_unit}
use Rattle.hh_rules.specs.Entries.{unit_entry}
use Rattle.hh_rules.specs.History.{History, Registered, entries_of, registered_in}
use Rattle.hh_rules.specs.Lateness.{Timetable, Accepted, timing_of}
use Rattle.hh_rules.specs.Leads.{registered_units}
use Rattle.hh_rules.specs.Refusals.{is_shrunk, is_some_that, is_unit_moved, last_lead, unit_refusals, whole_standing}
use Rattle.hh_rules.proofs.HistoryLaws.{entries_of-append, leads-append, units-append}
use Rattle.hh_successions.specs.RegistrationHistory.{IsAcceptedBy, LeadsLookBack, LeadsStay, RegistersRowByRow, UnitsLookBack, is_row_on, no_rows, one_more, refusal_by, registrations_in, registrations_with}
use Rattle.hh_successions.specs.RowRules.{office_rule}
use Rattle.hh_successions.proofs.LeadLaws.{AreOf, IsKept, SameElsewhere, UnitRows, first_elsewhere, first_is, first_kept, last_holds, last_known, others_kept, row_on, row_on-append, succeeded_elsewhere, succeeded_is, succession_kept, widened_elsewhere, widened_is, widening_kept, with_registration}
use Rattle.hh_successions.proofs.RowFacts.{holds_from, last_at, succeeds, widens}

-- ---- one more row

-- to accept a row and look back over the history is to change what is registered of units by the row
pub row_by_row : RegistersRowByRow
row_by_row history a = λ i. record { units = units-append [] history a i; leads = leads-append [] history a i }

-- ---- what accepted rows keep

-- none of the conditions of a list is met
abbrev pub NoneMet : List (Refusal × Bool) → Type 0
NoneMet [] = Unit {0}
NoneMet (r ∷ rs) = (r.1 ≡ false) × NoneMet rs

pub none_met : (rs : List (Refusal × Bool)) → first_met rs ≡ None → NoneMet rs
none_met [] none = tt
none_met (r ∷ rs) none = elim r.1 as (λ b. cond b (Some r.0) (first_met rs) ≡ None → (b ≡ false) × NoneMet rs) [
  | true ↦ λ e. cc
  | false ↦ λ e. (refl, none_met rs e)
] none

pub not_passed : {X : Type 0} (test : X → Bool) (o : Option X) (x : X) → is_some_that test o ≡ false → o ≡ Some x → test x ≡ false
not_passed test o x none found = sym (ap (is_some_that test) found) ∙ none

-- what is kept of each unit
pub record AreKept (rows : UnitRows) (registered : RegistrationsView) : Type 0 where
  pub rising : T (is_sorted lead_key_cmp registered.leads)
  pub kept : (unit : List ℕ) → IsKept rows registered.leads unit (find bytes_cmp unit registered.units)

-- a row of units
module _ (tables : Registered) (rows : UnitRows) (was : AreKept rows (registered_units tables)) (r : UnitRow)
    (accepted : first_met (unit_refusals (whole_standing tables) r) ≡ None) where
  abbrev registered : RegistrationsView
  registered = registered_units tables

  abbrev new : UnitRegistration
  new = r.registration

  abbrev leads_then : Leads
  leads_then = with_registration r.unit new registered.leads

  pub unmet : NoneMet (unit_refusals (whole_standing tables) r)
  unmet = none_met (unit_refusals (whole_standing tables) r) accepted

  abbrev rows_then : UnitRows
  rows_then = rows ++ (r.unit, new) ∷ []

  -- the row leaves what is kept of its own unit, and no other registrations
  abbrev Stepped : Option UnitRegistration → Type 0
  Stepped known = IsKept rows_then leads_then r.unit (Some (widened known new)) × SameElsewhere r.unit registered.leads leads_then

  first_step : IsKept rows registered.leads r.unit None → Stepped None
  first_step before =
      subst (λ ls. IsKept rows_then ls r.unit (Some new) × SameElsewhere r.unit registered.leads ls) (sym (first_is rows registered.leads was.rising r.unit new before))
      (first_kept rows registered.leads was.rising r.unit new before, first_elsewhere rows registered.leads was.rising r.unit new before)

  -- of a known unit
  module _ (known : UnitRegistration) (is : find bytes_cmp r.unit registered.units ≡ Some known) (before : IsKept rows registered.leads r.unit (Some known)) where
    pub last_is_at : last_lead registered.leads r.unit known ≡ last_at r.unit before.0.start known
    last_is_at = ap (λ (o : Option Lead). unwrap_or o (lead_of r.unit known)) (last_known rows registered.leads was.rising r.unit known new before)

    pub in_range : is_shrunk known (last_at r.unit before.0.start known) new ≡ false
    in_range = subst (λ last. is_shrunk known last new ≡ false) last_is_at
        (not_passed (λ (u : UnitRegistration). is_shrunk u (last_lead registered.leads r.unit u) new) (find bytes_cmp r.unit tables.units) known unmet.1.1.0 is)

    pub in_place : is_unit_moved known (last_at r.unit before.0.start known) new ≡ false
    in_place = subst (λ last. is_unit_moved known last new ≡ false) last_is_at
        (not_passed (λ (u : UnitRegistration). is_unit_moved u (last_lead registered.leads r.unit u) new) (find bytes_cmp r.unit tables.units) known unmet.1.1.1.0 is)

    further_step : Stepped (Some known)
    further_step = elim (is_same_account known.lead new.lead) as (λ b. is_same_account known.lead new.lead ≡ b → Stepped (Some known)) [
      | true ↦ λ alike.
          let w = widens r.unit known before.0.start new in_range in_place alike in
          let one : known.lead ≡ new.lead = exact_accounts known.lead new.lead ((Equal-is (account_cmp known.lead new.lead)).0 alike) in
          subst (λ ls. IsKept rows_then ls r.unit (Some (widened (Some known) new)) × SameElsewhere r.unit registered.leads ls) (sym (widened_is rows registered.leads was.rising r.unit known new before w one alike))
          (widening_kept rows registered.leads was.rising r.unit known new before w one, widened_elsewhere rows registered.leads was.rising r.unit known new before w one)
      | false ↦ λ other.
          let w = succeeds r.unit known before.0.start new in_range in_place other in
          subst (λ ls. IsKept rows_then ls r.unit (Some (widened (Some known) new)) × SameElsewhere r.unit registered.leads ls) (sym (succeeded_is rows registered.leads was.rising r.unit known new before w other))
          (succession_kept rows registered.leads was.rising r.unit known new before w, succeeded_elsewhere rows registered.leads was.rising r.unit known new before w)
    ] refl

  own_step : (known : Option UnitRegistration) → find bytes_cmp r.unit registered.units ≡ known → Stepped known
  own_step None is = first_step (subst (IsKept rows registered.leads r.unit) is (was.kept r.unit))
  own_step (Some known) is = further_step known is (subst (IsKept rows registered.leads r.unit) is (was.kept r.unit))

  -- what is kept of each unit
  pub unit_row_kept : AreKept rows_then (with_unit_row r registered)
  unit_row_kept =
      let known : Option UnitRegistration = find bytes_cmp r.unit registered.units in
      let step = own_step known refl in
      record {
        rising = step.1.rising;
        kept = λ unit.
            elim (eq_by_cmp bytes_cmp unit r.unit) as (λ b. eq_by_cmp bytes_cmp unit r.unit ≡ b
            → find bytes_cmp unit (with_unit_row r registered).units ≡ cond b (Some (widened known new)) (find bytes_cmp unit registered.units)
            → IsKept rows_then leads_then unit (find bytes_cmp unit (with_unit_row r registered).units)) [
              | true ↦ λ tied is.
                  subst (IsKept rows_then leads_then unit) (sym is)
                  (subst (λ u. IsKept rows_then leads_then u (Some (widened known new))) (sym (exact_bytes unit r.unit ((Equal-is (bytes_cmp unit r.unit)).0 tied))) step.0)
              | false ↦ λ apart is.
                  subst (IsKept rows_then leads_then unit) (sym is)
                  (others_kept rows registered.leads leads_then r.unit new step.1 unit apart (find bytes_cmp unit registered.units) (was.kept unit))
            ] refl (find-put bytes_cmp bytes_total unit r.unit (widened known new) registered.units);
      }

-- ---- histories

abbrev pub AreKeptIn : History → Type 0
AreKeptIn history = AreKept (entries_of unit_entry history) (registrations_in history)

-- a row of another kind changes nothing of units
no_unit : (history : History) → AreKeptIn history → AreKept (entries_of unit_entry history ++ []) (registrations_in history)
no_unit history was = subst (λ rows. AreKept rows (registrations_in history)) (sym (append-nil (entries_of unit_entry history))) was

row_kept : (timetable : Timetable) (history : History) (a : Accepted) → AreKeptIn history → refusal_by office_rule timetable history a ≡ None
    → AreKept (entries_of unit_entry history ++ option_to_list (unit_entry a.row)) (registrations_with a.row (registrations_in history))
row_kept timetable history a was accepted =
    elim a.row as (λ x. first_met (office_rule (registered_in timetable history) (timing_of timetable a) x) ≡ None
    → AreKept (entries_of unit_entry history ++ option_to_list (unit_entry x)) (registrations_with x (registrations_in history))) [
      | row.Unit r ↦ λ e. unit_row_kept (registered_in timetable history) (entries_of unit_entry history) was r e
      | _ ↦ λ e. no_unit history was
    ] accepted

pub one_more_kept : (timetable : Timetable) (history : History) (a : Accepted) → AreKeptIn history → refusal_by office_rule timetable history a ≡ None → AreKeptIn (history ++ a ∷ [])
one_more_kept timetable history a was accepted =
    subst (λ rows. AreKept rows (registrations_in (history ++ a ∷ []))) (sym (entries_of-append unit_entry history a))
    (subst (AreKept (entries_of unit_entry history ++ option_to_list (unit_entry a.row))) (sym (row_by_row history a)) (row_kept timetable history a was accepted))

-- so after each history of accepted rows
pub accepted_kept : (timetable : Timetable) (history : History) → IsAcceptedBy office_rule timetable history → AreKeptIn history
accepted_kept timetable history no_rows = record { rising = tt; kept = λ unit. (λ from. refl, λ date. refl) }
accepted_kept timetable _ (one_more history a before accepted) = one_more_kept timetable history a (accepted_kept timetable history before) accepted

-- ---- who leads a unit on a date

-- no registration of a unit that begins later than a date has begun on it
module _ (leads : Leads) (unit : List ℕ) (date : ℕ) where
  none_begun : ((from : ℕ) → IsSome (find lead_key_cmp (at unit from) leads) → from ≤ date → ⊥) → last_begun leads unit date ≡ None
  none_begun later = ap last_of (none_pass lead_key_total exact_lead_keys (is_begun unit date) leads (λ q begun. none_at q begun (find lead_key_cmp q leads) refl))
    where
      none_at : (q : LeadKey) → is_begun unit date q ≡ true → (o : Option _) → find lead_key_cmp q leads ≡ o → o ≡ None
      none_at q begun None found = refl
      none_at q begun (Some t) found =
          let parts = and_parts (is_of_unit unit q) (nat_le q.from date) begun in
          let own : q.unit ≡ unit = one_unit q.unit unit parts.0 in
          absurd (later q.from (ap is_some (ap (λ u. find lead_key_cmp (at u q.from) leads) (sym own) ∙ found)) (leb-true q.from date parts.1))

-- on a date that a known unit hasn't, no registration has begun, or the last has ended
off_ended : (leads : Leads) (unit : List ℕ) (known : UnitRegistration) → T (is_sorted lead_key_cmp leads) → AreOf leads unit known → (date : ℕ) → holds known.range date ≡ false → registration_on leads unit date ≡ None
off_ended leads unit known rising own date off =
    elim (nat_le own.start date) as (λ b. nat_le own.start date ≡ b → registration_on leads unit date ≡ None) [
      | true ↦ λ is.
          let begun : own.start ≤ date = leb-true own.start date is in
          let low : known.range.from ≤ own.start = own.begins in
          ap (unless_ended date) (last_holds leads rising unit own.start (record { lead = known.lead; to = known.range.to }) own.last (λ from there. (own.within from there).1) date begun)
          ∙ elim (nat_le date known.range.to) as (λ c. nat_le date known.range.to ≡ c → cond c (Some (last_at unit own.start known)) None ≡ None) [
            | true ↦ λ high. absurd (off_range_at (omega arith) (leb-true date known.range.to high))
            | false ↦ λ ended. refl
          ] refl
      | false ↦ λ is.
          let late : date < own.start = leb-false own.start date is in
          elim (nat_le known.range.from date) as (λ c. nat_le known.range.from date ≡ c → registration_on leads unit date ≡ None) [
            | true ↦ λ low.
                let from_low : known.range.from ≤ date = leb-true known.range.from date low in
                let reach : own.start ≤ known.range.to + 1 = own.ends (omega arith) in
                absurd (off_range_at from_low (omega arith))
            | false ↦ λ early.
                let before : date < known.range.from = leb-false known.range.from date early in
                ap (unless_ended date) (none_begun leads unit date (λ from there begun. (let low : known.range.from ≤ from = (own.within from there).0 in omega arith)))
          ] refl
    ] refl
  where
    off_range_at : known.range.from ≤ date → date ≤ known.range.to → ⊥
    off_range_at low high = false_is_not (sym off ∙ holds_from known.range date low high)
      where
        false_is_not : false ≡ true → ⊥
        false_is_not e = cc

-- what is kept of a unit says who leads it on a date
led_as_kept : (leads : Leads) (rows : UnitRows) (rising : T (is_sorted lead_key_cmp leads)) (unit : List ℕ) (date : ℕ) (o : Option UnitRegistration) → IsKept rows leads unit o
    → option_map (λ e. e.1.lead) (registration_on leads unit date) ≡ option_map (λ e. e.1.lead) (row_on rows unit date)
led_as_kept leads rows rising unit date None kept =
    ap (λ o. option_map (λ e. e.1.lead) (unless_ended date o)) (none_begun leads unit date (λ from there begun. nothing_there from there))
    ∙ sym (ap (option_map (λ e. e.1.lead)) (kept.1 date))
  where
    nothing_there : (from : ℕ) → IsSome (find lead_key_cmp (at unit from) leads) → ⊥
    nothing_there from there = false_is_not (sym (ap is_some (kept.0 from)) ∙ there)
      where
        false_is_not : false ≡ true → ⊥
        false_is_not e = cc
led_as_kept leads rows rising unit date (Some u) kept =
    elim (holds u.range date) as (λ b. holds u.range date ≡ b → option_map (λ e. e.1.lead) (registration_on leads unit date) ≡ option_map (λ e. e.1.lead) (row_on rows unit date)) [
      | true ↦ λ held.
          let on = kept.1.held date held in
          ap (λ o. option_map (λ e. e.1.lead) (unless_ended date o)) on.on
          ∙ ap (λ c. option_map (λ (e : Lead). e.1.lead) (cond c (Some on.lead) None)) (le-leb date on.lead.1.to on.until)
          ∙ sym on.by
      | false ↦ λ off.
          ap (option_map (λ e. e.1.lead)) (off_ended leads unit u rising kept.0 date off)
          ∙ sym (ap (option_map (λ e. e.1.lead)) (kept.1.off date off))
    ] refl

-- The lead account of a unit on a date is that of its last row that holds the date. There is none if no row of it holds the date.
pub leads_look_back : (timetable : Timetable) → LeadsLookBack office_rule timetable
leads_look_back timetable history accepted unit date =
    let kept = accepted_kept timetable history accepted in
    led_as_kept (registrations_in history).leads (entries_of unit_entry history) kept.rising unit date (find bytes_cmp unit (registrations_in history).units) (kept.kept unit)

-- a unit's range holds the dates that some row of it holds
held_as_kept : (leads : Leads) (rows : UnitRows) (unit : List ℕ) (date : ℕ) (o : Option UnitRegistration) → IsKept rows leads unit o
    → is_some_that (λ u. holds u.range date) o ≡ is_some (row_on rows unit date)
held_as_kept leads rows unit date None kept = sym (ap is_some (kept.1 date))
held_as_kept leads rows unit date (Some u) kept =
    elim (holds u.range date) as (λ b. holds u.range date ≡ b → b ≡ is_some (row_on rows unit date)) [
      | true ↦ λ held. sym (some_mapped (row_on rows unit date) (kept.1.held date held).lead.1.lead (kept.1.held date held).by)
      | false ↦ λ off. sym (ap is_some (kept.1.off date off))
    ] refl
  where
    some_mapped : (p : Option (List ℕ × UnitRegistration)) (lead : Account) → option_map (λ e. e.1.lead) p ≡ Some lead → is_some p ≡ true
    some_mapped None lead is = cc
    some_mapped (Some e) lead is = refl

pub units_look_back : (timetable : Timetable) → UnitsLookBack office_rule timetable
units_look_back timetable history accepted unit date =
    held_as_kept (registrations_in history).leads (entries_of unit_entry history) unit date (find bytes_cmp unit (registrations_in history).units) ((accepted_kept timetable history accepted).kept unit)

-- a row that doesn't hold a date leaves the last row that does
same_last : (x : Row) (rows : UnitRows) (unit : List ℕ) (date : ℕ) → is_row_on x unit date ≡ false → row_on (rows ++ option_to_list (unit_entry x)) unit date ≡ row_on rows unit date
same_last (row.Unit r) rows unit date off = row_on-append rows unit date (r.unit, r.registration) ∙ ap (λ b. cond b (Some (r.unit, r.registration)) (row_on rows unit date)) off
same_last (row.Party r) rows unit date off = ap (λ xs. row_on xs unit date) (append-nil rows)
same_last (row.Meter r) rows unit date off = ap (λ xs. row_on xs unit date) (append-nil rows)
same_last (row.Price r) rows unit date off = ap (λ xs. row_on xs unit date) (append-nil rows)
same_last (row.Contract r) rows unit date off = ap (λ xs. row_on xs unit date) (append-nil rows)
same_last (row.Reallocation r) rows unit date off = ap (λ xs. row_on xs unit date) (append-nil rows)

-- so it leaves who leads a unit on the date
pub leads_stay : (timetable : Timetable) → LeadsStay office_rule timetable
leads_stay timetable history a before accepted unit date off =
    leads_look_back timetable (history ++ a ∷ []) (one_more history a before accepted) unit date
    ∙ ap (option_map (λ e. e.1.lead))
    (ap (λ rows. row_on rows unit date) (entries_of-append unit_entry history a) ∙ same_last a.row (entries_of unit_entry history) unit date off)
    ∙ sym (leads_look_back timetable history before unit date)
