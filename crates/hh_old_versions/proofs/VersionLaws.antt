-- What version 1 accepted is accepted by the office, and leaves one registration for each unit.
use Rattle.std.proofs.Common.{◌≡◌, ◌+◌, ◌<◌, ◌≤◌, ℕ, List, [], ◌∷◌, ◌++◌, Bool, true, false, cond, refl, sym, ap, subst, ◌∙◌, Option, Some, None, Ordering, arith, inl, inr}
use Rattle.std.specs.Prelude.{◌⊎◌, ◌-◌, ℤ, nat_le, nat_lt, is_none, is_some, option_map, option_to_list, not, ◌&&◌, ◌||◌, unwrap_or, T}
use Rattle.std.specs.List.{list_any}
use Rattle.std.specs.Cmp.{Equal-is, eq_by_cmp_equiv, nat_cmp_total}
use Rattle.std.specs.FinMap.{find, put, is_sorted}
use Rattle.std.specs.FinMap.Entries.{below_all, by_order, is_sorted-put}
use Rattle.std.specs.Ordering.{is_eq, nat_cmp, ordering_then}
use Rattle.std.specs.declared.cmp.Ordering.TheVariants.{Less, Equal, Greater}
use Rattle.std.proofs.lemmas.Bool.{and_parts, and_right, le-leb, le-ltb, leb-true, not-false, or_from, or_parts}
use Rattle.std.proofs.lemmas.List.{append-nil}
use Rattle.std.proofs.lemmas.Option.{same_Some}
use Rattle.std.proofs.lemmas.Map.Lookups.{exact_bytes, exact_unsigned}
use Rattle.hh_tables.specs.Tables.{Table, table_of_last, without}
use Rattle.hh_tables.proofs.RowLaws.{below_less, first, less, second}
use Rattle.hh_tables.proofs.TableLaws.{false_is_not_true, table_of_last-append}
use Rattle.hh_names.specs.declared.fault.Refusal.{Refusal}
use Rattle.hh_names.specs.declared.fault.Refusal.TheVariants as refusal
use Rattle.hh_names.specs.Accounts.{bytes_cmp, is_same_account}
use Rattle.hh_names.specs.Faults.{first_met}
use Rattle.hh_names.proofs.AccountLaws.{bytes_total}
use Rattle.hh_rows.specs.DateRanges.{earlier, holds, is_inside}
use Rattle.hh_rows.specs.Keys.{lead_key_cmp}
use Rattle.hh_rows.specs.declared.rows.LeadTerm.{LeadTerm}
use Rattle.hh_rows.specs.declared.rows.ReallocationRow.{ReallocationRow}
use Rattle.hh_rows.specs.declared.rows.Row.{Row}
use Rattle.hh_rows.specs.declared.rows.Row.TheVariants as row
use Rattle.hh_rows.specs.declared.rows.UnitRegistration.{UnitRegistration}
use Rattle.hh_rows.specs.declared.rows.UnitRow.{UnitRow}
use Rattle.hh_registrations.specs.declared.changes.FormerLead.TheVariants as former
use Rattle.hh_registrations.specs.Registrations.{Lead, Leads, RegistrationsView, beside_former, former_lead, last_registration, lead_of, one_lead_each, registration_on, unless_ended, widened, with_unit_row}
use Rattle.hh_registrations.proofs.KeyLaws.{at}
use Rattle.hh_rules.specs.declared.timing.Timing.{Timing}
use Rattle.hh_rules.specs.Entries.{unit_entry}
use Rattle.hh_rules.specs.History.{History, Registered, entries_of, registered_in}
use Rattle.hh_rules.specs.Lateness.{Timetable, Accepted, accepted_at, comes_in_time, lacks_period, timing_of}
use Rattle.hh_rules.specs.Refusals.{is_party_off, is_same_mark, is_shrunk, is_some_that, is_subsidiary_put_first, is_to_lead_of, is_unit_moved, is_unit_off, last_lead, most_units, passes_hundred, reallocation_refusals, registered_party, unit_refusals, whole_standing}
use Rattle.hh_rules.proofs.HistoryLaws.{entries_of-append}
use Rattle.hh_successions.specs.RegistrationHistory.{IsAcceptedBy, no_rows, one_more, refusal_by, registrations_in, registrations_with}
use Rattle.hh_successions.specs.RowRules.{office_rule}
use Rattle.hh_successions.proofs.LeadLaws.{IsKept, first_is, last_holds, last_known, lead_key, lead_term, with_registration}
use Rattle.hh_successions.proofs.LookBackLaws.{AreKeptIn, NoneMet, accepted_kept, none_met, not_passed, row_by_row}
use Rattle.hh_successions.proofs.RowFacts.{earlier_is, holds_parts}
use Rattle.hh_old_versions.specs.OldVersions.{HistoriesOfVersionOne, KeptByVersionOne, SameRefusals, is_lead_refusal, is_moved_in_version_one, reallocation_refusals_of_version_one, rule_of_version_one, unit_refusals_of_version_one}

-- ---- one registration for each unit, as units are put

apart_less : (a b : Ordering) → a ≡ Less → is_eq (ordering_then a b) ≡ false
apart_less a b is = ap (λ r. is_eq (ordering_then r b)) is

-- a unit below all others
module _ (unit : List ℕ) where
  put_below : (from : ℕ) (term : LeadTerm) (es : Table (List ℕ) UnitRegistration) → T (below_all bytes_cmp unit es)
      → put lead_key_cmp (at unit from) term (one_lead_each es) ≡ (at unit from, term) ∷ one_lead_each es
  put_below from term [] below = refl
  put_below from term (e ∷ es) below =
      ap (λ r. by_order (ordering_then r (nat_cmp from e.1.range.from)) ((at unit from, term) ∷ one_lead_each (e ∷ es)) (((lead_of e.0 e.1).0, term) ∷ one_lead_each es) (lead_of e.0 e.1 ∷ put lead_key_cmp (at unit from) term (one_lead_each es)))
      (less (bytes_cmp unit e.0) (first _ _ below))

  without_below : (from : ℕ) (es : Table (List ℕ) UnitRegistration) → T (below_all bytes_cmp unit es) → without lead_key_cmp (at unit from) (one_lead_each es) ≡ one_lead_each es
  without_below from [] below = refl
  without_below from (e ∷ es) below =
      ap (λ b. cond (not b) (lead_of e.0 e.1 ∷ without lead_key_cmp (at unit from) (one_lead_each es)) (without lead_key_cmp (at unit from) (one_lead_each es)))
      (apart_less (bytes_cmp unit e.0) (nat_cmp from e.1.range.from) (less (bytes_cmp unit e.0) (first _ _ below)))
      ∙ ap (λ xs. lead_of e.0 e.1 ∷ xs) (without_below from es (second _ _ below))

  find_below : (es : Table (List ℕ) UnitRegistration) → T (below_all bytes_cmp unit es) → find bytes_cmp unit es ≡ None
  find_below [] below = refl
  find_below (e ∷ es) below = ap (λ r. cond (is_eq r) (Some e.1) (find bytes_cmp unit es)) (less (bytes_cmp unit e.0) (first _ _ below)) ∙ find_below es (second _ _ below)

module _ (unit : List ℕ) (new : UnitRegistration) where
  abbrev put_new : Leads → Leads
  put_new leads = put lead_key_cmp (lead_key unit new) (lead_term new) leads

  -- of a new unit
  one_more_unit : (es : Table (List ℕ) UnitRegistration) → find bytes_cmp unit es ≡ None → put_new (one_lead_each es) ≡ one_lead_each (put bytes_cmp unit new es)
  one_more_unit [] none = refl
  one_more_unit (e ∷ es) none =
      elim (bytes_cmp unit e.0) as (λ r. cond (is_eq r) (Some e.1) (find bytes_cmp unit es) ≡ None
      → by_order (ordering_then r (nat_cmp new.range.from e.1.range.from)) ((lead_key unit new, lead_term new) ∷ one_lead_each (e ∷ es)) (((lead_of e.0 e.1).0, lead_term new) ∷ one_lead_each es) (lead_of e.0 e.1 ∷ put_new (one_lead_each es))
      ≡ one_lead_each (by_order r ((unit, new) ∷ e ∷ es) ((e.0, new) ∷ es) (e ∷ put bytes_cmp unit new es))) [
        | Less ↦ λ none. refl
        | Equal ↦ λ none. cc
        | Greater ↦ λ none. ap (λ xs. lead_of e.0 e.1 ∷ xs) (one_more_unit es none)
      ] none

  -- of a known unit, whose registration is taken out
  unit_again : (known : UnitRegistration) (es : Table (List ℕ) UnitRegistration) → T (is_sorted bytes_cmp es) → find bytes_cmp unit es ≡ Some known
      → put_new (without lead_key_cmp (lead_key unit known) (one_lead_each es)) ≡ one_lead_each (put bytes_cmp unit new es)
  unit_again known [] rising found = cc
  unit_again known (e ∷ es) rising found =
      let left : Leads = without lead_key_cmp (lead_key unit known) (one_lead_each es) in
      elim (bytes_cmp unit e.0) as (λ r. bytes_cmp unit e.0 ≡ r → cond (is_eq r) (Some e.1) (find bytes_cmp unit es) ≡ Some known
      → put_new (cond (not (is_eq (ordering_then r (nat_cmp known.range.from e.1.range.from)))) (lead_of e.0 e.1 ∷ left) left)
      ≡ one_lead_each (by_order r ((unit, new) ∷ e ∷ es) ((e.0, new) ∷ es) (e ∷ put bytes_cmp unit new es))) [
        | Less ↦ λ below found. absurd (none_is_not_some known (sym (find_below unit es (below_less bytes_total unit e.0 es below (first _ _ rising))) ∙ found))
        | Equal ↦ λ tied found.
            let same : unit ≡ e.0 = exact_bytes unit e.0 tied in
            let own : e.1 ≡ known = same_Some e.1 known found in
            let above : T (below_all bytes_cmp unit es) = subst (λ u. T (below_all bytes_cmp u es)) (sym same) (first _ _ rising) in
            ap (λ b. put_new (cond (not b) (lead_of e.0 e.1 ∷ left) left))
            (ap (λ (k : UnitRegistration). is_eq (nat_cmp known.range.from k.range.from)) own ∙ (eq_by_cmp_equiv nat_cmp_total).refl known.range.from)
            ∙ ap put_new (without_below unit known.range.from es above)
            ∙ put_below unit new.range.from (lead_term new) es above
            ∙ (λ i. lead_of (same i) new ∷ one_lead_each es)
        | Greater ↦ λ above found. put_behind e (ordering_then_greater (bytes_cmp unit e.0) (nat_cmp new.range.from e.1.range.from) above) left
            ∙ ap (λ xs. lead_of e.0 e.1 ∷ xs) (unit_again known es (second _ _ rising) found)
      ] refl found
    where
      none_is_not_some : (k : UnitRegistration) → None ≡ Some k → ⊥
      none_is_not_some k is = cc

      ordering_then_greater : (a b : Ordering) → a ≡ Greater → ordering_then a b ≡ Greater
      ordering_then_greater a b is = ap (λ r. ordering_then r b) is

      put_behind : (e : List ℕ × UnitRegistration) → lead_key_cmp (lead_key unit new) (lead_of e.0 e.1).0 ≡ Greater → (xs : Leads) → put_new (lead_of e.0 e.1 ∷ xs) ≡ lead_of e.0 e.1 ∷ put_new xs
      put_behind e above xs = ap (λ r. by_order r ((lead_key unit new, lead_term new) ∷ lead_of e.0 e.1 ∷ xs) (((lead_of e.0 e.1).0, lead_term new) ∷ xs) (lead_of e.0 e.1 ∷ put_new xs)) above

-- none is found of a unit below all others
none_below : (unit : List ℕ) (from : ℕ) (es : Table (List ℕ) UnitRegistration) → T (below_all bytes_cmp unit es) → find lead_key_cmp (at unit from) (one_lead_each es) ≡ None
none_below unit from [] below = refl
none_below unit from (e ∷ es) below =
    ap (λ b. cond b (Some (lead_term e.1)) (find lead_key_cmp (at unit from) (one_lead_each es))) (apart_less (bytes_cmp unit e.0) (nat_cmp from e.1.range.from) (less (bytes_cmp unit e.0) (first _ _ below)))
    ∙ none_below unit from es (second _ _ below)

-- what is found among one registration for each unit begins with its unit
found_one : (unit : List ℕ) (from : ℕ) (known : UnitRegistration) (es : Table (List ℕ) UnitRegistration) → T (is_sorted bytes_cmp es) → find bytes_cmp unit es ≡ Some known
    → is_some (find lead_key_cmp (at unit from) (one_lead_each es)) ≡ true → from ≡ known.range.from
found_one unit from known [] rising found there = cc
found_one unit from known (e ∷ es) rising found there =
    elim (bytes_cmp unit e.0) as (λ r. bytes_cmp unit e.0 ≡ r → cond (is_eq r) (Some e.1) (find bytes_cmp unit es) ≡ Some known
    → is_some (cond (is_eq (ordering_then r (nat_cmp from e.1.range.from))) (Some (lead_term e.1)) (find lead_key_cmp (at unit from) (one_lead_each es))) ≡ true → from ≡ known.range.from) [
      | Less ↦ λ below found there. found_one unit from known es (second _ _ rising) found there
      | Equal ↦ λ tied found there.
          let own : e.1 ≡ known = same_Some e.1 known found in
          let above : T (below_all bytes_cmp unit es) = subst (λ u. T (below_all bytes_cmp u es)) (sym (exact_bytes unit e.0 tied)) (first _ _ rising) in
          elim (is_eq (nat_cmp from e.1.range.from)) as (λ b. is_eq (nat_cmp from e.1.range.from) ≡ b → is_some (cond b (Some (lead_term e.1)) (find lead_key_cmp (at unit from) (one_lead_each es))) ≡ true → from ≡ known.range.from) [
            | true ↦ λ same there. exact_unsigned from e.1.range.from ((Equal-is (nat_cmp from e.1.range.from)).0 same) ∙ ap (λ (k : UnitRegistration). k.range.from) own
            | false ↦ λ apart there. absurd (false_is_not_true (sym (ap is_some (none_below unit from es above)) ∙ there))
          ] refl there
      | Greater ↦ λ above found there. found_one unit from known es (second _ _ rising) found there
    ] refl found there

-- ---- a row of units that version 1 accepted

-- a unit that is known, and a row that version 1 accepted
module _ (unit : List ℕ) (known new : UnitRegistration) (inside : is_inside known.range new.range ≡ true) (unmoved : is_moved_in_version_one known new ≡ false) where
  low : new.range.from ≤ known.range.from
  low = leb-true _ _ (and_parts _ _ inside).0

  high : known.range.to ≤ new.range.to
  high = leb-true _ _ (and_parts _ _ inside).1

  both_same : (is_same_account known.lead new.lead && is_same_mark known.interconnector new.interconnector) ≡ true
  both_same = not-false _ unmoved

  pub same_lead : is_same_account known.lead new.lead ≡ true
  same_lead = (and_parts _ _ both_same).0

  same_mark : is_same_mark known.interconnector new.interconnector ≡ true
  same_mark = (and_parts _ _ both_same).1

  -- it isn't refused here
  pub not_shrunk : is_shrunk known (lead_of unit known) new ≡ false
  not_shrunk = or_from _ _ (le-ltb new.range.to known.range.to high) (and_right (is_same_account known.lead new.lead) _ (le-ltb known.range.from new.range.from low))

  pub not_moved : is_unit_moved known (lead_of unit known) new ≡ false
  not_moved = or_from _ _ (ap not same_mark)
      (ap (λ b. cond b (nat_lt new.range.from known.range.from && nat_lt known.range.from known.range.from) (nat_le new.range.from known.range.from || nat_lt (known.range.to + 1) new.range.from)) same_lead
      ∙ and_right (nat_lt new.range.from known.range.from) _ (le-ltb known.range.from known.range.from (omega arith)))

  pub same_row : widened (Some known) new ≡ new
  same_row = λ i. record new { range = record { from = first_day i; to = new.range.to } }
    where
      by_cases : ((earlier known.range.from new.range.from ≡ known.range.from) × (known.range.from ≤ new.range.from)) ⊎ ((earlier known.range.from new.range.from ≡ new.range.from) × (new.range.from < known.range.from))
          → earlier known.range.from new.range.from ≡ new.range.from
      by_cases (inl h) = let least = low in h.0 ∙ (let same : known.range.from ≡ new.range.from = omega arith in same)
      by_cases (inr h) = h.0

      first_day : earlier known.range.from new.range.from ≡ new.range.from
      first_day = by_cases (earlier_is known.range.from new.range.from)

-- ---- what version 1 kept

-- what the rows of units of a history made in version 1
pub record AreOfVersionOne (history : History) : Type 0 where
  pub units : (registrations_in history).units ≡ table_of_last bytes_cmp (entries_of unit_entry history)
  pub rising : T (is_sorted bytes_cmp (registrations_in history).units)
  pub leads : (registrations_in history).leads ≡ one_lead_each (registrations_in history).units

module _ (history : History) (kept : AreKeptIn history) (one : AreOfVersionOne history) (unit : List ℕ) (known : UnitRegistration) (is : find bytes_cmp unit (registrations_in history).units ≡ Some known) where
  abbrev leads_now : Leads
  leads_now = (registrations_in history).leads

  pub own_kept : IsKept (entries_of unit_entry history) leads_now unit (Some known)
  own_kept = subst (IsKept (entries_of unit_entry history) leads_now unit) is (kept.kept unit)

  -- its one registration begins with it
  pub start_is : own_kept.0.start ≡ known.range.from
  start_is = found_one unit own_kept.0.start known (registrations_in history).units one.rising is
      (ap is_some (sym (ap (find lead_key_cmp (at unit own_kept.0.start)) one.leads) ∙ own_kept.0.last))

  abbrev pub one_term : LeadTerm
  one_term = record { lead = known.lead; to = known.range.to }

  pub last_one : last_registration leads_now unit ≡ Some (lead_of unit known)
  last_one = last_known (entries_of unit_entry history) leads_now kept.rising unit known known own_kept ∙ ap (λ n. Some (at unit n, one_term)) start_is

  -- it is the one on each date of the unit
  pub one_on : (date : ℕ) → holds known.range date ≡ true → registration_on leads_now unit date ≡ Some (lead_of unit known)
  one_on date held =
      let range = holds_parts known.range date held in
      ap (unless_ended date) (last_holds leads_now kept.rising unit known.range.from one_term
      (subst (λ n. find lead_key_cmp (at unit n) leads_now ≡ Some one_term) start_is own_kept.0.last)
      (λ from there. subst (λ n. from ≤ n) start_is (own_kept.0.within from there).1) date range.0)
      ∙ ap (λ c. cond c (Some (lead_of unit known)) None) (le-leb date known.range.to range.1)

-- where the conditions of 39 and 40 in version 1 leave those of 39 to 41 unmet, a row that isn't refused with 39 or 40 there is refused alike
by_first : (a b c d shrunk moved put_first : Bool) (last : Option Refusal) → (c ≡ false → d ≡ false → (shrunk ≡ false) × (moved ≡ false) × (put_first ≡ false)) → (why : Option Refusal)
    → cond a (Some refusal.UnknownParty) (cond b (Some refusal.NotEffective) (cond c (Some refusal.ShrinksRange) (cond d (Some refusal.UnitMoved) last))) ≡ why
    → is_some_that is_lead_refusal why ≡ false
    → cond a (Some refusal.UnknownParty) (cond b (Some refusal.NotEffective) (cond shrunk (Some refusal.ShrinksRange) (cond moved (Some refusal.UnitMoved) (cond put_first (Some refusal.LeadIsSubsidiary) last)))) ≡ why
by_first true b c d shrunk moved put_first last here why is other = is
by_first false true c d shrunk moved put_first last here why is other = is
by_first false false true d shrunk moved put_first last here why is other = absurd (false_is_not_true (sym other ∙ sym (ap (is_some_that is_lead_refusal) is)))
by_first false false false true shrunk moved put_first last here why is other = absurd (false_is_not_true (sym other ∙ sym (ap (is_some_that is_lead_refusal) is)))
by_first false false false false shrunk moved put_first last here why is other =
    let none = here refl refl in
    ap (λ x. cond x (Some refusal.ShrinksRange) (cond moved (Some refusal.UnitMoved) (cond put_first (Some refusal.LeadIsSubsidiary) last))) none.0
    ∙ ap (λ x. cond x (Some refusal.UnitMoved) (cond put_first (Some refusal.LeadIsSubsidiary) last)) none.1
    ∙ ap (λ x. cond x (Some refusal.LeadIsSubsidiary) last) none.2
    ∙ is

-- ---- a row of units after such a history

module _ (timetable : Timetable) (history : History) (kept : AreKeptIn history) (one : AreOfVersionOne history) (r : UnitRow) where
  abbrev tables : Registered
  tables = registered_in timetable history

  abbrev leads : Leads
  leads = (registrations_in history).leads

  abbrev units : Table (List ℕ) UnitRegistration
  units = (registrations_in history).units

  abbrev new_row : UnitRegistration
  new_row = r.registration

  abbrev known_row : Option UnitRegistration
  known_row = find bytes_cmp r.unit units

  -- if version 1's conditions of 39 and 40 aren't met, none of 39 to 41 is
  none_here : (o : Option UnitRegistration) → known_row ≡ o → is_some_that (λ u. not (is_inside u.range new_row.range)) o ≡ false → is_some_that (λ u. is_moved_in_version_one u new_row) o ≡ false
      → (is_some_that (λ u. is_shrunk u (last_lead leads r.unit u) new_row) o ≡ false) × (is_some_that (λ u. is_unit_moved u (last_lead leads r.unit u) new_row) o ≡ false)
      × (is_some_that (λ u. is_subsidiary_put_first (whole_standing tables) r (last_lead leads r.unit u)) o ≡ false)
  none_here None is wide unmoved = (refl, refl, refl)
  none_here (Some u) is wide unmoved =
      let inside : is_inside u.range new_row.range ≡ true = not-false (is_inside u.range new_row.range) wide in
      let last : last_lead leads r.unit u ≡ lead_of r.unit u = ap (λ (o : Option Lead). unwrap_or o (lead_of r.unit u)) (last_one history kept one r.unit u is) in (
        ap (λ l. is_shrunk u l new_row) last ∙ not_shrunk r.unit u new_row inside unmoved,
        ap (λ l. is_unit_moved u l new_row) last ∙ not_moved r.unit u new_row inside unmoved,
        ap (λ l. is_subsidiary_put_first (whole_standing tables) r l) last
            ∙ ap (λ b. not b && list_any (λ e. is_to_lead_of r e.0) tables.reallocations) (same_lead r.unit u new_row inside unmoved),
      )

  -- the row is refused for version 1's reason, unless that is 39 or 40
  pub same_refusal : (why : Option Refusal) → first_met (unit_refusals_of_version_one (whole_standing tables) r) ≡ why → is_some_that is_lead_refusal why ≡ false → first_met (unit_refusals (whole_standing tables) r) ≡ why
  same_refusal why is other =
      by_first (is_none (registered_party (whole_standing tables) new_row.lead.party))
      (is_some_that (λ p. not (is_inside new_row.range p.range)) (registered_party (whole_standing tables) new_row.lead.party))
      (is_some_that (λ u. not (is_inside u.range new_row.range)) known_row) (is_some_that (λ u. is_moved_in_version_one u new_row) known_row)
      (is_some_that (λ u. is_shrunk u (last_lead leads r.unit u) new_row) known_row) (is_some_that (λ u. is_unit_moved u (last_lead leads r.unit u) new_row) known_row)
      (is_some_that (λ u. is_subsidiary_put_first (whole_standing tables) r (last_lead leads r.unit u)) known_row)
      (first_met ((refusal.TooMany, is_none known_row && nat_le most_units (whole_standing tables).unit_count) ∷ []))
      (λ wide unmoved. none_here known_row refl wide unmoved) why is other

  -- a row that version 1 accepted leaves what version 1 kept
  module _ (accepted : first_met (unit_refusals_of_version_one (whole_standing tables) r) ≡ None) where
    unmet_before : NoneMet (unit_refusals_of_version_one (whole_standing tables) r)
    unmet_before = none_met (unit_refusals_of_version_one (whole_standing tables) r) accepted

    -- the row's range is as wide as the unit's, and the row doesn't move the unit
    wide_row : (u : UnitRegistration) → known_row ≡ Some u → is_inside u.range new_row.range ≡ true
    wide_row u is = not-false _ (not_passed (λ (x : UnitRegistration). not (is_inside x.range new_row.range)) known_row u unmet_before.1.1.0 is)

    unmoved_row : (u : UnitRegistration) → known_row ≡ Some u → is_moved_in_version_one u new_row ≡ false
    unmoved_row u is = not_passed (λ (x : UnitRegistration). is_moved_in_version_one x new_row) known_row u unmet_before.1.1.1.0 is

    -- what is registered of the unit is the row itself
    row_is : (o : Option UnitRegistration) → known_row ≡ o → widened o new_row ≡ new_row
    row_is None is = refl
    row_is (Some u) is = same_row r.unit u new_row (wide_row u is) (unmoved_row u is)

    -- its registration is the unit's one
    leads_are : (o : Option UnitRegistration) → known_row ≡ o → with_registration r.unit new_row leads ≡ one_lead_each (put bytes_cmp r.unit new_row units)
    leads_are None is =
        first_is (entries_of unit_entry history) leads kept.rising r.unit new_row (subst (IsKept (entries_of unit_entry history) leads r.unit) is (kept.kept r.unit))
        ∙ ap (put_new r.unit new_row) one.leads ∙ one_more_unit r.unit new_row units is
    leads_are (Some u) is =
        ap (λ (o : Option Lead). put_new r.unit new_row (beside_former (former_lead o new_row) leads)) (last_one history kept one r.unit u is)
        ∙ ap (λ b. put_new r.unit new_row (beside_former (cond (not b && nat_lt u.range.from new_row.range.from) (former.Ended (at r.unit u.range.from) (record { lead = u.lead; to = new_row.range.from - 1 })) (former.Replaced (at r.unit u.range.from))) leads)) (same_lead r.unit u new_row (wide_row u is) (unmoved_row u is))
        ∙ ap (λ ls. put_new r.unit new_row (without lead_key_cmp (at r.unit u.range.from) ls)) one.leads
        ∙ unit_again r.unit new_row u units one.rising is

-- ---- a row of reallocations after such a history

-- if 33 isn't met, 37 is met alike
by_own_lead : (a b c d own other last : Bool) → (b ≡ false → c ≡ false → other ≡ own)
    → first_met ((refusal.UnknownParty, a) ∷ (refusal.UnknownUnit, b) ∷ (refusal.NotEffective, c) ∷ (refusal.NoSuchPeriod, d) ∷ (refusal.OwnLead, other) ∷ (refusal.OverHundred, last) ∷ [])
    ≡ first_met ((refusal.UnknownParty, a) ∷ (refusal.UnknownUnit, b) ∷ (refusal.NotEffective, c) ∷ (refusal.NoSuchPeriod, d) ∷ (refusal.OwnLead, own) ∷ (refusal.OverHundred, last) ∷ [])
by_own_lead true b c d own other last alike = refl
by_own_lead false true c d own other last alike = refl
by_own_lead false false true d own other last alike = refl
by_own_lead false false false true own other last alike = refl
by_own_lead false false false false own other last alike = ap (λ x. first_met ((refusal.OwnLead, x) ∷ (refusal.OverHundred, last) ∷ [])) (alike refl refl)

module _ (timetable : Timetable) (history : History) (kept : AreKeptIn history) (one : AreOfVersionOne history) (timing : Timing) (r : ReallocationRow) where
  abbrev tables_now : Registered
  tables_now = registered_in timetable history

  abbrev unit : List ℕ
  unit = r.key.unit_period.unit

  abbrev date : ℕ
  date = r.key.unit_period.at.date

  own_alike : (o : Option UnitRegistration) → find bytes_cmp unit (registrations_in history).units ≡ o → is_none o ≡ false → is_some_that (λ (u : UnitRegistration). not (holds u.range date)) o ≡ false
      → is_some_that (λ (e : Lead). is_same_account e.1.lead r.key.account) (registration_on (registrations_in history).leads unit date) ≡ is_some_that (λ (u : UnitRegistration). is_same_account u.lead r.key.account) o
  own_alike None is known held = cc
  own_alike (Some u) is known held = ap (is_some_that (λ (e : Lead). is_same_account e.1.lead r.key.account)) (one_on history kept one unit u is date (not-false (holds u.range date) held))

  pub same_reallocation : first_met (reallocation_refusals (whole_standing tables_now) timing r) ≡ first_met (reallocation_refusals_of_version_one (whole_standing tables_now) timing r)
  same_reallocation =
      by_own_lead (is_none (registered_party (whole_standing tables_now) r.key.account.party)) (is_none (find bytes_cmp unit (registrations_in history).units))
      (is_unit_off (whole_standing tables_now) unit date || is_party_off (whole_standing tables_now) r.key.account.party date) (lacks_period timing)
      (is_some_that (λ (u : UnitRegistration). is_same_account u.lead r.key.account) (find bytes_cmp unit (registrations_in history).units))
      (is_some_that (λ (e : Lead). is_same_account e.1.lead r.key.account) (registration_on (registrations_in history).leads unit date))
      (comes_in_time timing && passes_hundred (whole_standing tables_now) r)
      (λ known off. own_alike (find bytes_cmp unit (registrations_in history).units) refl known (or_parts _ _ off).0)

-- ---- histories

-- a history that version 1 accepted, with all that is known of it
pub record WasAccepted (timetable : Timetable) (history : History) : Type 0 where
  pub here : IsAcceptedBy office_rule timetable history
  pub one : AreOfVersionOne history

-- one more row, by what it makes of units
one_more_of : (history : History) (a : Accepted)
    → (registrations_with a.row (registrations_in history)).units ≡ table_of_last bytes_cmp (entries_of unit_entry history ++ option_to_list (unit_entry a.row))
    → T (is_sorted bytes_cmp (registrations_with a.row (registrations_in history)).units)
    → (registrations_with a.row (registrations_in history)).leads ≡ one_lead_each (registrations_with a.row (registrations_in history)).units
    → AreOfVersionOne (history ++ a ∷ [])
one_more_of history a units rising leads = record {
  units = ap (λ (x : RegistrationsView). x.units) (row_by_row history a) ∙ units ∙ ap (table_of_last bytes_cmp) (sym (entries_of-append unit_entry history a));
  rising = subst (λ (x : RegistrationsView). T (is_sorted bytes_cmp x.units)) (sym (row_by_row history a)) rising;
  leads = ap (λ (x : RegistrationsView). x.leads) (row_by_row history a) ∙ leads ∙ ap (λ (x : RegistrationsView). one_lead_each x.units) (sym (row_by_row history a));
}

-- a row of units
unit_row_of : (timetable : Timetable) (history : History) (moment : ℤ) (r : UnitRow) → AreKeptIn history → AreOfVersionOne history
    → first_met (unit_refusals_of_version_one (whole_standing (registered_in timetable history)) r) ≡ None
    → AreOfVersionOne (history ++ accepted_at moment (row.Unit r) ∷ [])
unit_row_of timetable history moment r kept one accepted =
    let known : Option UnitRegistration = find bytes_cmp r.unit (registrations_in history).units in
    let same : widened known r.registration ≡ r.registration = row_is timetable history kept one r accepted known refl in
    let units : (with_unit_row r (registrations_in history)).units ≡ put bytes_cmp r.unit r.registration (registrations_in history).units = ap (λ u. put bytes_cmp r.unit u (registrations_in history).units) same in
    one_more_of history (accepted_at moment (row.Unit r))
    (units ∙ ap (put bytes_cmp r.unit r.registration) one.units ∙ sym (table_of_last-append bytes_total exact_bytes (entries_of unit_entry history) (r.unit, r.registration)))
    (is_sorted-put bytes_cmp bytes_total r.unit (widened known r.registration) (registrations_in history).units one.rising)
    (leads_are timetable history kept one r accepted known refl ∙ ap one_lead_each (sym units))

-- a row of another kind
other_row_of : (history : History) (a : Accepted) → unit_entry a.row ≡ None → registrations_with a.row (registrations_in history) ≡ registrations_in history → AreOfVersionOne history → AreOfVersionOne (history ++ a ∷ [])
other_row_of history a none same one =
    one_more_of history a
    (ap (λ (x : RegistrationsView). x.units) same ∙ one.units ∙ ap (table_of_last bytes_cmp) (sym (append-nil (entries_of unit_entry history))) ∙ ap (λ e. table_of_last bytes_cmp (entries_of unit_entry history ++ option_to_list e)) (sym none))
    (subst (λ (x : RegistrationsView). T (is_sorted bytes_cmp x.units)) (sym same) one.rising)
    (ap (λ (x : RegistrationsView). x.leads) same ∙ one.leads ∙ ap (λ (x : RegistrationsView). one_lead_each x.units) (sym same))

-- after a history that version 1 accepted a row is refused for version 1's reason, unless that is 39 or 40
same_refusals_after : (timetable : Timetable) (history : History) (a : Accepted) → AreKeptIn history → AreOfVersionOne history
    → (why : Option Refusal) → refusal_by rule_of_version_one timetable history a ≡ why → is_some_that is_lead_refusal why ≡ false → refusal_by office_rule timetable history a ≡ why
same_refusals_after timetable history a kept one why =
    elim a.row as (λ x. first_met (rule_of_version_one (registered_in timetable history) (timing_of timetable a) x) ≡ why → is_some_that is_lead_refusal why ≡ false
    → first_met (office_rule (registered_in timetable history) (timing_of timetable a) x) ≡ why) [
      | row.Unit r ↦ λ is other. same_refusal timetable history kept one r why is other
      | row.Reallocation r ↦ λ is other. same_reallocation timetable history kept one (timing_of timetable a) r ∙ is
      | row.Party r ↦ λ is other. is
      | row.Meter r ↦ λ is other. is
      | row.Price r ↦ λ is other. is
      | row.Contract r ↦ λ is other. is
    ]

row_of : (timetable : Timetable) (history : History) (a : Accepted) → AreKeptIn history → AreOfVersionOne history → refusal_by rule_of_version_one timetable history a ≡ None → AreOfVersionOne (history ++ a ∷ [])
row_of timetable history a kept one accepted = of_row a.row refl
  where
    of_row : (x : Row) → a.row ≡ x → AreOfVersionOne (history ++ a ∷ [])
    of_row (row.Unit r) is =
        subst (λ x. AreOfVersionOne (history ++ accepted_at a.moment x ∷ [])) (sym is)
        (unit_row_of timetable history a.moment r kept one
        (ap (λ x. first_met (rule_of_version_one (registered_in timetable history) (timing_of timetable (accepted_at a.moment x)) x)) (sym is) ∙ accepted))
    of_row (row.Party r) is = other_row_of history a (ap unit_entry is) (ap (λ x. registrations_with x (registrations_in history)) is) one
    of_row (row.Meter r) is = other_row_of history a (ap unit_entry is) (ap (λ x. registrations_with x (registrations_in history)) is) one
    of_row (row.Price r) is = other_row_of history a (ap unit_entry is) (ap (λ x. registrations_with x (registrations_in history)) is) one
    of_row (row.Contract r) is = other_row_of history a (ap unit_entry is) (ap (λ x. registrations_with x (registrations_in history)) is) one
    of_row (row.Reallocation r) is = other_row_of history a (ap unit_entry is) (ap (λ x. registrations_with x (registrations_in history)) is) one

pub was_accepted : (timetable : Timetable) (history : History) → IsAcceptedBy rule_of_version_one timetable history → WasAccepted timetable history
was_accepted timetable history no_rows = record { here = no_rows; one = record { units = refl; rising = tt; leads = refl } }
was_accepted timetable _ (one_more history a before accepted) =
    let was = was_accepted timetable history before in
    let kept = accepted_kept timetable history was.here in
    record {
      here = one_more history a was.here (same_refusals_after timetable history a kept was.one None accepted refl);
      one = row_of timetable history a kept was.one accepted;
    }

-- each history that version 1 accepted is accepted
pub histories_of_version_one : HistoriesOfVersionOne
histories_of_version_one timetable history accepted = (was_accepted timetable history accepted).here

-- and has what version 1 kept
pub kept_by_version_one : KeptByVersionOne
kept_by_version_one timetable history accepted =
    let was = was_accepted timetable history accepted in
    record {
      units = was.one.units;
      leads = was.one.leads;
      lead = λ unit u found date held. ap (option_map (λ e. e.1.lead)) (one_on history (accepted_kept timetable history was.here) was.one unit u found date held);
    }

pub same_refusals : SameRefusals
same_refusals timetable history a accepted other =
    let was = was_accepted timetable history accepted in
    same_refusals_after timetable history a (accepted_kept timetable history was.here) was.one (refusal_by rule_of_version_one timetable history a) refl other
