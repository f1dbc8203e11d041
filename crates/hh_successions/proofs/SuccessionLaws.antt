-- On a date on which a unit was led, its lead account changes by a succession that holds the date, and by no other row.
use Rattle.std.proofs.Common.{◌≡◌, ℕ, List, [], ◌∷◌, ◌++◌, true, false, cond, refl, sym, ap, ◌∙◌, Option, Some, None}
use Rattle.std.specs.Prelude.{is_some, option_map, option_to_list, ◌&&◌}
use Rattle.std.specs.Cmp.{Equal-is}
use Rattle.std.specs.FinMap.{find}
use Rattle.std.specs.Ordering.{eq_by_cmp}
use Rattle.std.proofs.lemmas.Bool.{and_parts, not-false}
use Rattle.std.proofs.lemmas.Map.Lookups.{exact_bytes}
use Rattle.hh_tables.proofs.TableLaws.{false_is_not_true}
use Rattle.hh_names.specs.Accounts.{account_cmp, bytes_cmp, is_same_account}
use Rattle.hh_names.specs.Faults.{first_met}
use Rattle.hh_names.proofs.AccountLaws.{exact_accounts}
use Rattle.hh_rows.specs.DateRanges.{holds}
use Rattle.hh_rows.specs.declared.rows.Row.{Row}
use Rattle.hh_rows.specs.declared.rows.Row.TheVariants as row
use Rattle.hh_rows.specs.declared.rows.UnitRegistration.{UnitRegistration}
use Rattle.hh_rows.specs.declared.rows.UnitRow.{UnitRow}
use Rattle.hh_registrations.specs.Registrations.{Lead, RegistrationsView, is_succession, last_registration, registered_lead_on}
use Rattle.hh_rules.specs.Entries.{unit_entry}
use Rattle.hh_rules.specs.History.{History, entries_of, registered_in}
use Rattle.hh_rules.specs.Lateness.{Timetable, Accepted, timing_of}
use Rattle.hh_rules.specs.Refusals.{is_some_that, unit_refusals, whole_standing}
use Rattle.hh_rules.proofs.HistoryLaws.{entries_of-append}
use Rattle.hh_successions.specs.RegistrationHistory.{IsAcceptedBy, SuccessionsAloneMoveLeads, is_row_on, is_succession_on, one_more, registrations_in}
use Rattle.hh_successions.specs.RowRules.{office_rule}
use Rattle.hh_successions.proofs.LeadLaws.{IsKept, UnitRows, last_known, row_on, row_on-append}
use Rattle.hh_successions.proofs.LookBackLaws.{AreKept, accepted_kept, in_place, in_range, leads_look_back, leads_stay, not_passed}
use Rattle.hh_successions.proofs.RowFacts.{last_at, widens}
use Rattle.hh_successions.proofs.SubsidiaryLaws.{lead_by, widening_keeps}

module _ (timetable : Timetable) (history : History) (a : Accepted) (before : IsAcceptedBy office_rule timetable history)
    (unit : List ℕ) (date : ℕ) where
  abbrev rows : UnitRows
  rows = entries_of unit_entry history

  abbrev registered : RegistrationsView
  registered = registrations_in history

  kept_here : AreKept rows registered
  kept_here = accepted_kept timetable history before

  -- a row of the unit that holds the date has the lead account of before, unless it is a succession
  module _ (r : UnitRow) (accepted : first_met (unit_refusals (whole_standing (registered_in timetable history)) r) ≡ None)
      (held_new : holds r.registration.range date ≡ true)
      (none : is_some_that (λ last. is_succession last r.registration) (last_registration registered.leads r.unit) ≡ false) where
    abbrev new : UnitRegistration
    new = r.registration

    known_unit : (known : UnitRegistration) → find bytes_cmp r.unit registered.units ≡ Some known → (kept : IsKept rows registered.leads r.unit (Some known))
        → holds known.range date ≡ true → Some new.lead ≡ lead_by rows r.unit date
    known_unit known is kept held =
        let last = last_known rows registered.leads kept_here.rising r.unit known new kept in
        let alike : is_same_account known.lead new.lead ≡ true = not-false (is_same_account known.lead new.lead)
        (not_passed (λ (e : Lead). is_succession e new) (last_registration registered.leads r.unit) (last_at r.unit kept.0.start known) none last) in
        let one : known.lead ≡ new.lead = exact_accounts known.lead new.lead ((Equal-is (account_cmp known.lead new.lead)).0 alike) in
        let w = widens r.unit known kept.0.start new
        (in_range (registered_in timetable history) rows kept_here r accepted known is kept)
        (in_place (registered_in timetable history) rows kept_here r accepted known is kept) alike in
        ap Some (sym one) ∙ sym (widening_keeps rows registered.leads r.unit known new kept_here.rising kept w date held held_new)

    same_lead : (o : Option UnitRegistration) → find bytes_cmp r.unit registered.units ≡ o → IsKept rows registered.leads r.unit o
        → is_some (lead_by rows r.unit date) ≡ true → Some new.lead ≡ lead_by rows r.unit date
    same_lead None is kept led = absurd (false_is_not_true (sym (ap (λ e. is_some (option_map (λ x. x.1.lead) e)) (kept.1 date)) ∙ led))
    same_lead (Some known) is kept led =
        elim (holds known.range date) as (λ b. holds known.range date ≡ b → Some new.lead ≡ lead_by rows r.unit date) [
          | true ↦ λ held. known_unit known is kept held
          | false ↦ λ off. absurd (false_is_not_true (sym (ap (λ e. is_some (option_map (λ x. x.1.lead) e)) (kept.1.off date off)) ∙ led))
        ] refl

  on_its_date : (x : Row) → first_met (office_rule (registered_in timetable history) (timing_of timetable a) x) ≡ None
      → is_row_on x unit date ≡ true → is_succession_on registered x unit date ≡ false → is_some (lead_by rows unit date) ≡ true
      → lead_by (rows ++ option_to_list (unit_entry x)) unit date ≡ lead_by rows unit date
  on_its_date (row.Unit r) accepted on none led =
      let parts = and_parts (eq_by_cmp bytes_cmp unit r.unit) (holds r.registration.range date) on in
      let of_unit : unit ≡ r.unit = exact_bytes unit r.unit ((Equal-is (bytes_cmp unit r.unit)).0 parts.0) in
      let off : is_some_that (λ last. is_succession last r.registration) (last_registration registered.leads r.unit) ≡ false =
      sym (ap (λ b. b && is_some_that (λ last. is_succession last r.registration) (last_registration registered.leads r.unit)) on) ∙ none in
      ap (option_map (λ e. e.1.lead)) (row_on-append rows unit date (r.unit, r.registration) ∙ ap (λ b. cond b (Some (r.unit, r.registration)) (row_on rows unit date)) on)
      ∙ same_lead r accepted parts.1 off (find bytes_cmp r.unit registered.units) refl (kept_here.kept r.unit) (sym (ap (λ u. is_some (lead_by rows u date)) of_unit) ∙ led)
      ∙ ap (λ u. lead_by rows u date) (sym of_unit)
  on_its_date (row.Party r) accepted on none led = absurd (false_is_not_true on)
  on_its_date (row.Meter r) accepted on none led = absurd (false_is_not_true on)
  on_its_date (row.Price r) accepted on none led = absurd (false_is_not_true on)
  on_its_date (row.Contract r) accepted on none led = absurd (false_is_not_true on)
  on_its_date (row.Reallocation r) accepted on none led = absurd (false_is_not_true on)

pub successions_alone_move_leads : (timetable : Timetable) → SuccessionsAloneMoveLeads office_rule timetable
successions_alone_move_leads timetable history a before accepted unit date none led =
    let was : registered_lead_on (registrations_in history) unit date ≡ lead_by (entries_of unit_entry history) unit date = leads_look_back timetable history before unit date in
    elim (is_row_on a.row unit date) as (λ b. is_row_on a.row unit date ≡ b
    → registered_lead_on (registrations_in (history ++ a ∷ [])) unit date ≡ registered_lead_on (registrations_in history) unit date) [
      | false ↦ λ off. leads_stay timetable history a before accepted unit date off
      | true ↦ λ on.
          leads_look_back timetable (history ++ a ∷ []) (one_more history a before accepted) unit date
          ∙ ap (λ xs. lead_by xs unit date) (entries_of-append unit_entry history a)
          ∙ on_its_date timetable history a before unit date a.row accepted on none (sym (ap is_some was) ∙ led)
          ∙ sym was
    ] refl
