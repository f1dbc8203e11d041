-- A reallocation in force is to another account than the one that leads its unit on the date, after each row that is accepted.
use Rattle.std.proofs.Common.{◌≡◌, ◌<◌, ◌≤◌, ℕ, List, [], ◌∷◌, ◌++◌, Bool, true, false, cond, refl, sym, ap, subst, ◌∙◌, Option, Some, None, Ordering, arith}
use Rattle.std.specs.Prelude.{is_none, nat_le, option_map, option_to_list, not, ◌&&◌, T}
use Rattle.std.specs.Cmp.{Equal-is, eq_by_cmp_equiv}
use Rattle.std.specs.FinMap.{find, is_sorted}
use Rattle.std.specs.FinMap.Entries.{find-put}
use Rattle.std.specs.List.{list_any}
use Rattle.std.specs.Ordering.{eq_by_cmp}
use Rattle.std.specs.declared.cmp.Ordering.TheVariants.{Equal}
use Rattle.std.proofs.lemmas.Bool.{and_from, and_parts, le-leb, leb-false, leb-true, or_parts}
use Rattle.std.proofs.lemmas.List.{append-nil}
use Rattle.std.proofs.lemmas.Map.Lookups.{exact_bytes}
use Rattle.std.proofs.lemmas.Option.{same_Some}
use Rattle.hh_tables.specs.Tables.{Table}
use Rattle.hh_tables.proofs.TableLaws.{false_is_not_true}
use Rattle.hh_names.specs.declared.account.Account.{Account}
use Rattle.hh_names.specs.declared.values.Reallocation.{Reallocation}
use Rattle.hh_names.specs.Accounts.{account_cmp, bytes_cmp, is_same_account}
use Rattle.hh_names.specs.Faults.{first_met}
use Rattle.hh_names.proofs.AccountLaws.{account_total, bytes_total, exact_accounts}
use Rattle.hh_rows.specs.DateRanges.{holds}
use Rattle.hh_rows.specs.Keys.{lead_key_cmp, reallocation_key_cmp}
use Rattle.hh_rows.specs.declared.keys.ReallocationKey.{ReallocationKey}
use Rattle.hh_rows.specs.declared.rows.ReallocationRow.{ReallocationRow}
use Rattle.hh_rows.specs.declared.rows.Row.TheVariants as row
use Rattle.hh_rows.specs.declared.rows.UnitRegistration.{UnitRegistration}
use Rattle.hh_rows.specs.declared.rows.UnitRow.{UnitRow}
use Rattle.hh_rows.proofs.KeyLaws.{exact_reallocation_keys, reallocation_key_total}
use Rattle.hh_registrations.specs.Registrations.{Lead, Leads, RegistrationsView, registration_on, unless_ended}
use Rattle.hh_registrations.proofs.KeyLaws.{at}
use Rattle.hh_rules.specs.Effects.{put_in_time}
use Rattle.hh_rules.specs.Entries.{reallocation_entry, unit_entry}
use Rattle.hh_rules.specs.History.{History, Registered, entries_of, registered_in}
use Rattle.hh_rules.specs.Lateness.{Timetable, Accepted, is_in_time, timing_of}
use Rattle.hh_rules.specs.Leads.{registered_units}
use Rattle.hh_rules.specs.Refusals.{is_some_that, is_subsidiary_put_first, is_to_lead_of, last_lead, reallocation_refusals, unit_refusals, whole_standing}
use Rattle.hh_rules.proofs.HistoryLaws.{entries_of-append, looks_back}
use Rattle.hh_successions.specs.RegistrationHistory.{IsAcceptedBy, LedByAnother, no_rows, one_more, refusal_by, registrations_in}
use Rattle.hh_successions.specs.RowRules.{office_rule}
use Rattle.hh_successions.proofs.LeadLaws.{IsKept, UnitRows, last_holds, row_on, row_on-append}
use Rattle.hh_successions.proofs.LookBackLaws.{AreKept, NoneMet, accepted_kept, in_place, in_range, last_is_at, leads_look_back, none_met, not_passed}
use Rattle.hh_successions.proofs.RowFacts.{Widens, holds_parts, widens}

-- the lead account of the last row of a unit that holds a date
abbrev pub lead_by : UnitRows → List ℕ → ℕ → Option Account
lead_by rows unit date = option_map (λ e. e.1.lead) (row_on rows unit date)

-- a key under which something is found doesn't pass a test that none passes
not_any : {K V : Type 0} (R : K → K → Ordering) → ((x y : K) → R x y ≡ Equal → x ≡ y) → (test : K → Bool) (es : Table K V) (key : K) (v : V)
    → list_any (λ e. test e.0) es ≡ false → find R key es ≡ Some v → test key ≡ false
not_any R exact test [] key v none found = cc
not_any R exact test (e ∷ es) key v none found =
    let parts = or_parts (test e.0) (list_any (λ x. test x.0) es) none in
    elim (eq_by_cmp R key e.0) as (λ b. eq_by_cmp R key e.0 ≡ b → cond b (Some e.1) (find R key es) ≡ Some v → test key ≡ false) [
      | true ↦ λ tied is. ap test (exact key e.0 ((Equal-is (R key e.0)).0 tied)) ∙ parts.0
      | false ↦ λ apart is. not_any R exact test es key v parts.1 is
    ] refl found

-- on its dates that the unit had, a widening's unit was led as by the widening
pub widening_keeps : (rows : UnitRows) (leads : Leads) (unit : List ℕ) (known new : UnitRegistration) (rising : T (is_sorted lead_key_cmp leads)) (own : IsKept rows leads unit (Some known))
    → Widens known own.0.start new → (date : ℕ) → holds known.range date ≡ true → holds new.range date ≡ true → lead_by rows unit date ≡ Some known.lead
widening_keeps rows leads unit known new rising own w date held held_new =
    let old_range = holds_parts known.range date held in
    let new_range = holds_parts new.range date held_new in
    let low_old : known.range.from ≤ date = old_range.0 in
    let low_new : new.range.from ≤ date = new_range.0 in
    let begun : own.0.start ≤ date = elim (nat_le own.0.start date) as (λ b. nat_le own.0.start date ≡ b → own.0.start ≤ date) [
      | true ↦ λ is. leb-true own.0.start date is
      | false ↦ λ is. (let late : date < own.0.start = leb-false own.0.start date is in let high : own.0.start ≤ new.range.from = w.keeps (omega arith) in absurd (omega arith))
    ] refl in
    let on = own.1.held date held in
    let one : on.lead ≡ (at unit own.0.start, record { lead = known.lead; to = known.range.to }) =
    same_Some _ _ (sym on.on ∙ last_holds leads rising unit own.0.start (record { lead = known.lead; to = known.range.to }) own.0.last (λ from there. (own.0.within from there).1) date begun) in
    on.by ∙ ap (λ (l : Lead). Some l.1.lead) one

-- a reallocation of this key is of a unit that another account leads on the date
abbrev led_by_another : UnitRows → ReallocationKey → Bool
led_by_another rows key = is_some_that (λ lead. not (is_same_account lead key.account)) (lead_by rows key.unit_period.unit key.unit_period.at.date)

-- so it is of each reallocation in force
abbrev AreLedByOthers : UnitRows → Table ReallocationKey Reallocation → Type 0
AreLedByOthers rows reallocations = (key : ReallocationKey) (v : Reallocation) → find reallocation_key_cmp key reallocations ≡ Some v → led_by_another rows key ≡ true

not_same : (a b : Bool) → not a ≡ true → a ≡ b → b ≡ false
not_same true b other same = cc
not_same false b other same = sym same

-- ---- a row of units

module _ (tables : Registered) (rows : UnitRows) (was : AreKept rows (registered_units tables)) (r : UnitRow)
    (accepted : first_met (unit_refusals (whole_standing tables) r) ≡ None) where
  abbrev registered : RegistrationsView
  registered = registered_units tables

  abbrev new : UnitRegistration
  new = r.registration

  unmet : NoneMet (unit_refusals (whole_standing tables) r)
  unmet = none_met (unit_refusals (whole_standing tables) r) accepted

  -- of a known unit
  module _ (known : UnitRegistration) (is : find bytes_cmp r.unit registered.units ≡ Some known) (before : IsKept rows registered.leads r.unit (Some known)) where
    widening : is_same_account known.lead new.lead ≡ true → Widens known before.0.start new
    widening alike = widens r.unit known before.0.start new (in_range tables rows was r accepted known is before) (in_place tables rows was r accepted known is before) alike

    -- 41: no reallocation in force on a date of a succession is to its lead account
    not_put_first : is_same_account known.lead new.lead ≡ false → (key : ReallocationKey) (v : Reallocation) → find reallocation_key_cmp key tables.reallocations ≡ Some v → is_to_lead_of r key ≡ false
    not_put_first other key v found =
        not_any reallocation_key_cmp exact_reallocation_keys (is_to_lead_of r) tables.reallocations key v
        (sym (ap (λ b. not b && list_any (λ e. is_to_lead_of r e.0) tables.reallocations) other)
        ∙ subst (λ last. is_subsidiary_put_first (whole_standing tables) r last ≡ false) (last_is_at tables rows was r accepted known is before)
        (not_passed (λ (u : UnitRegistration). is_subsidiary_put_first (whole_standing tables) r (last_lead registered.leads r.unit u)) (find bytes_cmp r.unit tables.units) known unmet.1.1.1.1.0 is))
        found

    -- the row's own account leads the unit on a date that the unit had only if it did, or no reallocation is to it
    new_is_another : (key : ReallocationKey) (v : Reallocation) → find reallocation_key_cmp key tables.reallocations ≡ Some v → key.unit_period.unit ≡ r.unit
        → holds known.range key.unit_period.at.date ≡ true → holds new.range key.unit_period.at.date ≡ true
        → is_some_that (λ lead. not (is_same_account lead key.account)) (lead_by rows r.unit key.unit_period.at.date) ≡ true → is_same_account new.lead key.account ≡ false
    new_is_another key v found of_unit held on another =
        elim (is_same_account known.lead new.lead) as (λ c. is_same_account known.lead new.lead ≡ c → is_same_account new.lead key.account ≡ false) [
          | true ↦ λ alike.
              not_same (is_same_account known.lead key.account) (is_same_account new.lead key.account)
              (sym (ap (is_some_that (λ lead. not (is_same_account lead key.account))) (widening_keeps rows registered.leads r.unit known new was.rising before (widening alike) key.unit_period.at.date held on)) ∙ another)
              (ap (λ a. is_same_account a key.account) (exact_accounts known.lead new.lead ((Equal-is (account_cmp known.lead new.lead)).0 alike)))
          | false ↦ λ other. not_to_lead (not_put_first other key v found)
        ] refl
      where
        of_it : (eq_by_cmp bytes_cmp key.unit_period.unit r.unit && holds new.range key.unit_period.at.date) ≡ true
        of_it = and_from (eq_by_cmp bytes_cmp key.unit_period.unit r.unit) (holds new.range key.unit_period.at.date)
            (ap (λ u. eq_by_cmp bytes_cmp u r.unit) of_unit ∙ (eq_by_cmp_equiv bytes_total).refl r.unit) on

        not_to_lead : is_to_lead_of r key ≡ false → is_same_account new.lead key.account ≡ false
        not_to_lead none = (eq_by_cmp_equiv account_total).symm new.lead key.account ∙ sym (ap (λ b. b && is_same_account key.account new.lead) of_it) ∙ none

  -- the row leaves each reallocation in force to another account than the one that leads
  own_unit : (key : ReallocationKey) (v : Reallocation) → find reallocation_key_cmp key tables.reallocations ≡ Some v → key.unit_period.unit ≡ r.unit
      → is_some_that (λ lead. not (is_same_account lead key.account)) (lead_by rows r.unit key.unit_period.at.date) ≡ true
      → (o : Option UnitRegistration) → find bytes_cmp r.unit registered.units ≡ o
      → holds new.range key.unit_period.at.date ≡ true → is_same_account new.lead key.account ≡ false
  own_unit key v found of_unit another None is on =
      let before : IsKept rows registered.leads r.unit None = subst (IsKept rows registered.leads r.unit) is (was.kept r.unit) in
      absurd (false_is_not_true (sym (ap (λ o. is_some_that (λ lead. not (is_same_account lead key.account)) (option_map (λ e. e.1.lead) o)) (before.1 key.unit_period.at.date)) ∙ another))
  own_unit key v found of_unit another (Some known) is on =
      let before : IsKept rows registered.leads r.unit (Some known) = subst (IsKept rows registered.leads r.unit) is (was.kept r.unit) in
      elim (holds known.range key.unit_period.at.date) as (λ b. holds known.range key.unit_period.at.date ≡ b → is_same_account new.lead key.account ≡ false) [
        | true ↦ λ held. new_is_another known is before key v found of_unit held on another
        | false ↦ λ off. absurd (false_is_not_true (sym (ap (λ o. is_some_that (λ lead. not (is_same_account lead key.account)) (option_map (λ e. e.1.lead) o)) (before.1.off key.unit_period.at.date off)) ∙ another))
      ] refl

  pub unit_row_leaves : AreLedByOthers rows tables.reallocations → AreLedByOthers (rows ++ (r.unit, new) ∷ []) tables.reallocations
  unit_row_leaves others key v found =
      let unit : List ℕ = key.unit_period.unit in
      let date : ℕ = key.unit_period.at.date in
      ap (λ o. is_some_that (λ lead. not (is_same_account lead key.account)) (option_map (λ e. e.1.lead) o)) (row_on-append rows unit date (r.unit, new))
      ∙ elim (eq_by_cmp bytes_cmp unit r.unit && holds new.range date) as (λ b. (eq_by_cmp bytes_cmp unit r.unit && holds new.range date) ≡ b
      → is_some_that (λ lead. not (is_same_account lead key.account)) (option_map (λ e. e.1.lead) (cond b (Some (r.unit, new)) (row_on rows unit date))) ≡ true) [
        | false ↦ λ off. others key v found
        | true ↦ λ on.
            let parts = and_parts (eq_by_cmp bytes_cmp unit r.unit) (holds new.range date) on in
            let of_unit : unit ≡ r.unit = exact_bytes unit r.unit ((Equal-is (bytes_cmp unit r.unit)).0 parts.0) in
            ap not (own_unit key v found of_unit
            (subst (λ u. is_some_that (λ lead. not (is_same_account lead key.account)) (lead_by rows u date) ≡ true) of_unit (others key v found))
            (find bytes_cmp r.unit registered.units) refl parts.1)
      ] refl

-- ---- a row of reallocations

-- 33 and 37: the row is of a unit that another account leads on the date
module _ (timetable : Timetable) (history : History) (a : Accepted) (before : IsAcceptedBy office_rule timetable history) (r : ReallocationRow) where
  abbrev tables : Registered
  tables = registered_in timetable history

  abbrev leads : Leads
  leads = (registrations_in history).leads

  abbrev unit_on : List ℕ
  unit_on = r.key.unit_period.unit

  abbrev date_on : ℕ
  date_on = r.key.unit_period.at.date

  own_kept : IsKept (entries_of unit_entry history) leads unit_on (find bytes_cmp unit_on (registrations_in history).units)
  own_kept = (accepted_kept timetable history before).kept unit_on

  led_here : (o : Option UnitRegistration) → find bytes_cmp unit_on (registrations_in history).units ≡ o → IsKept (entries_of unit_entry history) leads unit_on o
      → NoneMet (reallocation_refusals (whole_standing tables) (timing_of timetable a) r) → led_by_another (entries_of unit_entry history) r.key ≡ true
  led_here None is kept unmet = absurd (false_is_not_true (sym unmet.1.0 ∙ ap is_none is))
  led_here (Some u) is kept unmet =
      let off : is_some_that (λ (x : UnitRegistration). not (holds x.range date_on)) (find bytes_cmp unit_on (registrations_in history).units) ≡ false = (or_parts _ _ unmet.1.1.0).0 in
      elim (holds u.range date_on) as (λ b. holds u.range date_on ≡ b → led_by_another (entries_of unit_entry history) r.key ≡ true) [
        | false ↦ λ not_held. absurd (false_is_not_true (sym (not_passed (λ (x : UnitRegistration). not (holds x.range date_on)) (find bytes_cmp unit_on (registrations_in history).units) u off is) ∙ ap not not_held))
        | true ↦ λ held.
            let on = kept.1.held date_on held in
            let own : registration_on leads unit_on date_on ≡ Some on.lead = ap (unless_ended date_on) on.on ∙ ap (λ c. cond c (Some on.lead) None) (le-leb date_on on.lead.1.to on.until) in
            ap (is_some_that (λ lead. not (is_same_account lead r.key.account))) on.by
            ∙ ap not (not_passed (λ (e : Lead). is_same_account e.1.lead r.key.account) (registration_on leads unit_on date_on) on.lead unmet.1.1.1.1.0 own)
      ] refl

  pub reallocation_row_leaves : first_met (reallocation_refusals (whole_standing tables) (timing_of timetable a) r) ≡ None
      → AreLedByOthers (entries_of unit_entry history) tables.reallocations → (in_time : Bool)
      → AreLedByOthers (entries_of unit_entry history) (put_in_time reallocation_key_cmp in_time (Some (r.key, r.reallocation)) tables.reallocations)
  reallocation_row_leaves accepted others false key v found = others key v found
  reallocation_row_leaves accepted others true key v found =
      elim (eq_by_cmp reallocation_key_cmp key r.key) as (λ b. eq_by_cmp reallocation_key_cmp key r.key ≡ b → cond b (Some r.reallocation) (find reallocation_key_cmp key tables.reallocations) ≡ Some v
      → led_by_another (entries_of unit_entry history) key ≡ true) [
        | false ↦ λ apart found. others key v found
        | true ↦ λ tied found.
            subst (λ k. led_by_another (entries_of unit_entry history) k ≡ true) (sym (exact_reallocation_keys key r.key ((Equal-is (reallocation_key_cmp key r.key)).0 tied)))
            (led_here (find bytes_cmp unit_on (registrations_in history).units) refl own_kept (none_met (reallocation_refusals (whole_standing tables) (timing_of timetable a) r) accepted))
      ] refl (sym (find-put reallocation_key_cmp reallocation_key_total key r.key r.reallocation tables.reallocations) ∙ found)

-- ---- histories

abbrev AreLedByOthersIn : Timetable → History → Type 0
AreLedByOthersIn timetable history = AreLedByOthers (entries_of unit_entry history) (registered_in timetable history).reallocations

row_leaves : (timetable : Timetable) (history : History) (a : Accepted) → IsAcceptedBy office_rule timetable history → refusal_by office_rule timetable history a ≡ None → AreLedByOthersIn timetable history
    → AreLedByOthers (entries_of unit_entry history ++ option_to_list (unit_entry a.row)) (put_in_time reallocation_key_cmp (is_in_time timetable a) (reallocation_entry a.row) (registered_in timetable history).reallocations)
row_leaves timetable history a before accepted others =
    elim a.row as (λ x. first_met (office_rule (registered_in timetable history) (timing_of timetable a) x) ≡ None
    → AreLedByOthers (entries_of unit_entry history ++ option_to_list (unit_entry x)) (put_in_time reallocation_key_cmp (is_in_time timetable a) (reallocation_entry x) (registered_in timetable history).reallocations)) [
      | row.Unit r ↦ λ e. unit_row_leaves (registered_in timetable history) (entries_of unit_entry history) (accepted_kept timetable history before) r e others
      | row.Reallocation r ↦ λ e. subst (λ rows. AreLedByOthers rows (put_in_time reallocation_key_cmp (is_in_time timetable a) (Some (r.key, r.reallocation)) (registered_in timetable history).reallocations)) (sym (append-nil (entries_of unit_entry history)))
          (reallocation_row_leaves timetable history a before r e others (is_in_time timetable a))
      | _ ↦ λ e. subst (λ rows. AreLedByOthers rows (registered_in timetable history).reallocations) (sym (append-nil (entries_of unit_entry history))) others
    ] accepted

led_by_others : (timetable : Timetable) (history : History) → IsAcceptedBy office_rule timetable history → AreLedByOthersIn timetable history
led_by_others timetable history no_rows = λ key v found. cc
led_by_others timetable _ (one_more history a before accepted) =
    subst (λ rows. AreLedByOthers rows (registered_in timetable (history ++ a ∷ [])).reallocations) (sym (entries_of-append unit_entry history a))
    (subst (λ (tables : Registered). AreLedByOthers (entries_of unit_entry history ++ option_to_list (unit_entry a.row)) tables.reallocations) (sym (looks_back timetable history a))
    (row_leaves timetable history a before accepted (led_by_others timetable history before)))

-- each reallocation in force is to another account than the one that leads its unit on the date
pub led_by_another_account : (timetable : Timetable) → LedByAnother office_rule timetable
led_by_another_account timetable history accepted key r found =
    ap (is_some_that (λ lead. not (is_same_account lead key.account))) (leads_look_back timetable history accepted key.unit_period.unit key.unit_period.at.date)
    ∙ led_by_others timetable history accepted key r found
