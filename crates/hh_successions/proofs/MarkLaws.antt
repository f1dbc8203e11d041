-- All rows of a unit have its mark, and no row changes the mark of a known unit.
use Rattle.std.proofs.Common.{◌≡◌, ℕ, List, [], ◌∷◌, ◌++◌, Bool, true, false, refl, sym, ap, subst, ◌∙◌, Option, Some, None, cond}
use Rattle.std.specs.Prelude.{option_map, option_to_list}
use Rattle.std.specs.Cmp.{Equal-is}
use Rattle.std.specs.FinMap.{find}
use Rattle.std.specs.FinMap.Entries.{find-put}
use Rattle.std.specs.List.{AllByRecursion}
use Rattle.std.specs.Ordering.{eq_by_cmp}
use Rattle.std.proofs.lemmas.Bool.{not-false, or_parts}
use Rattle.std.proofs.lemmas.List.{append-nil}
use Rattle.std.proofs.lemmas.Map.Lookups.{exact_bytes}
use Rattle.hh_tables.specs.Tables.{Table}
use Rattle.hh_tables.proofs.TableLaws.{false_is_not_true}
use Rattle.hh_names.specs.Accounts.{bytes_cmp}
use Rattle.hh_names.specs.Faults.{first_met}
use Rattle.hh_names.proofs.AccountLaws.{bytes_total}
use Rattle.hh_rows.specs.declared.rows.Row.TheVariants as row
use Rattle.hh_rows.specs.declared.rows.UnitRegistration.{UnitRegistration}
use Rattle.hh_rows.specs.declared.rows.UnitRow.{UnitRow}
use Rattle.hh_registrations.specs.Registrations.{RegistrationsView, widened, with_unit_row}
use Rattle.hh_rules.specs.Entries.{unit_entry}
use Rattle.hh_rules.specs.History.{History, Registered, entries_of, registered_in}
use Rattle.hh_rules.specs.Lateness.{Timetable, Accepted, timing_of}
use Rattle.hh_rules.specs.Leads.{registered_units}
use Rattle.hh_rules.specs.Refusals.{is_same_mark, is_unit_moved, last_lead, unit_refusals, whole_standing}
use Rattle.hh_rules.proofs.HistoryLaws.{entries_of-append}
use Rattle.hh_successions.specs.RegistrationHistory.{IsAcceptedBy, MarksAlike, MarksStay, no_rows, one_more, refusal_by, registrations_in, registrations_with}
use Rattle.hh_successions.specs.RowRules.{office_rule}
use Rattle.hh_successions.proofs.LeadLaws.{UnitRows}
use Rattle.hh_successions.proofs.LookBackLaws.{NoneMet, none_met, not_passed, row_by_row}

-- the rows of a unit have its mark; a unit that isn't known has none
abbrev pub HaveMark : UnitRows → List ℕ → Option UnitRegistration → Type 0
HaveMark rows unit None = AllByRecursion (λ e. eq_by_cmp bytes_cmp unit e.0 ≡ false) rows
HaveMark rows unit (Some u) = AllByRecursion (λ e. eq_by_cmp bytes_cmp unit e.0 ≡ true → e.1.interconnector ≡ u.interconnector) rows

abbrev pub HaveMarks : UnitRows → Table (List ℕ) UnitRegistration → Type 0
HaveMarks rows units = (unit : List ℕ) → HaveMark rows unit (find bytes_cmp unit units)

all_more : {X : Type 0} (P Q : X → Type 0) (xs : List X) (x : X) → ((y : X) → P y → Q y) → AllByRecursion P xs → Q x → AllByRecursion Q (xs ++ x ∷ [])
all_more P Q [] x follows all own = (own, tt)
all_more P Q (y ∷ xs) x follows all own = (follows y all.0, all_more P Q xs x follows all.1 own)

one_mark : (a b : Bool) → is_same_mark a b ≡ true → b ≡ a
one_mark true b same = same
one_mark false true same = cc
one_mark false false same = refl

module _ (tables : Registered) (rows : UnitRows) (was : HaveMarks rows tables.units) (r : UnitRow)
    (accepted : first_met (unit_refusals (whole_standing tables) r) ≡ None) where
  abbrev registered : RegistrationsView
  registered = registered_units tables

  abbrev new : UnitRegistration
  new = r.registration

  abbrev known : Option UnitRegistration
  known = find bytes_cmp r.unit registered.units

  unmet : NoneMet (unit_refusals (whole_standing tables) r)
  unmet = none_met (unit_refusals (whole_standing tables) r) accepted

  mark_kept : (u : UnitRegistration) → known ≡ Some u → new.interconnector ≡ u.interconnector
  mark_kept u is =
      let in_place : is_unit_moved u (last_lead registered.leads r.unit u) new ≡ false =
      not_passed (λ (x : UnitRegistration). is_unit_moved x (last_lead registered.leads r.unit x) new) (find bytes_cmp r.unit tables.units) u unmet.1.1.1.0 is in
      one_mark u.interconnector new.interconnector (not-false (is_same_mark u.interconnector new.interconnector) (or_parts _ _ in_place).0)

  own_marks : (o : Option UnitRegistration) → known ≡ o → HaveMark rows r.unit o → HaveMark (rows ++ (r.unit, new) ∷ []) r.unit (Some (widened o new))
  own_marks None is all = all_more (λ e. eq_by_cmp bytes_cmp r.unit e.0 ≡ false) (λ e. eq_by_cmp bytes_cmp r.unit e.0 ≡ true → e.1.interconnector ≡ new.interconnector) rows (r.unit, new)
      (λ e off own. absurd (false_is_not_true (sym off ∙ own))) all (λ own. refl)
  own_marks (Some u) is all = all_more (λ e. eq_by_cmp bytes_cmp r.unit e.0 ≡ true → e.1.interconnector ≡ u.interconnector) (λ e. eq_by_cmp bytes_cmp r.unit e.0 ≡ true → e.1.interconnector ≡ new.interconnector) rows (r.unit, new)
      (λ e same own. same own ∙ sym (mark_kept u is)) all (λ own. refl)

  other_marks : (unit : List ℕ) → eq_by_cmp bytes_cmp unit r.unit ≡ false → (o : Option UnitRegistration) → HaveMark rows unit o → HaveMark (rows ++ (r.unit, new) ∷ []) unit o
  other_marks unit apart None all = all_more (λ e. eq_by_cmp bytes_cmp unit e.0 ≡ false) (λ e. eq_by_cmp bytes_cmp unit e.0 ≡ false) rows (r.unit, new) (λ e off. off) all apart
  other_marks unit apart (Some u) all = all_more (λ e. eq_by_cmp bytes_cmp unit e.0 ≡ true → e.1.interconnector ≡ u.interconnector) (λ e. eq_by_cmp bytes_cmp unit e.0 ≡ true → e.1.interconnector ≡ u.interconnector) rows (r.unit, new)
      (λ e same. same) all (λ own. absurd (false_is_not_true (sym apart ∙ own)))

  pub marks_row : HaveMarks (rows ++ (r.unit, new) ∷ []) (with_unit_row r registered).units
  marks_row unit =
      elim (eq_by_cmp bytes_cmp unit r.unit) as (λ b. eq_by_cmp bytes_cmp unit r.unit ≡ b
      → find bytes_cmp unit (with_unit_row r registered).units ≡ cond b (Some (widened known new)) (find bytes_cmp unit registered.units)
      → HaveMark (rows ++ (r.unit, new) ∷ []) unit (find bytes_cmp unit (with_unit_row r registered).units)) [
        | true ↦ λ same is. subst (HaveMark (rows ++ (r.unit, new) ∷ []) unit) (sym is)
            (subst (λ u. HaveMark (rows ++ (r.unit, new) ∷ []) u (Some (widened known new))) (sym (exact_bytes unit r.unit ((Equal-is (bytes_cmp unit r.unit)).0 same))) (own_marks known refl (was r.unit)))
        | false ↦ λ apart is. subst (HaveMark (rows ++ (r.unit, new) ∷ []) unit) (sym is) (other_marks unit apart (find bytes_cmp unit registered.units) (was unit))
      ] refl (find-put bytes_cmp bytes_total unit r.unit (widened known new) registered.units)

  -- the row leaves the mark of each known unit
  pub row_leaves_mark : (unit : List ℕ) (u : UnitRegistration) → find bytes_cmp unit registered.units ≡ Some u
      → option_map (λ x. x.interconnector) (find bytes_cmp unit (with_unit_row r registered).units) ≡ Some u.interconnector
  row_leaves_mark unit u is =
      ap (option_map (λ x. x.interconnector)) (find-put bytes_cmp bytes_total unit r.unit (widened known new) registered.units)
      ∙ elim (eq_by_cmp bytes_cmp unit r.unit) as (λ b. eq_by_cmp bytes_cmp unit r.unit ≡ b
      → option_map (λ x. x.interconnector) (cond b (Some (widened known new)) (find bytes_cmp unit registered.units)) ≡ Some u.interconnector) [
        | true ↦ λ tied.
            let of_unit : unit ≡ r.unit = exact_bytes unit r.unit ((Equal-is (bytes_cmp unit r.unit)).0 tied) in
            ap Some (mark_of_row known ∙ mark_kept u (ap (λ q. find bytes_cmp q registered.units) (sym of_unit) ∙ is))
        | false ↦ λ apart. ap (option_map (λ x. x.interconnector)) is
      ] refl
    where
      mark_of_row : (o : Option UnitRegistration) → (widened o new).interconnector ≡ new.interconnector
      mark_of_row None = refl
      mark_of_row (Some x) = refl

abbrev HaveMarksIn : History → Type 0
HaveMarksIn history = HaveMarks (entries_of unit_entry history) (registrations_in history).units

marks_more : (timetable : Timetable) (history : History) (a : Accepted) → HaveMarksIn history → refusal_by office_rule timetable history a ≡ None
    → HaveMarks (entries_of unit_entry history ++ option_to_list (unit_entry a.row)) (registrations_with a.row (registrations_in history)).units
marks_more timetable history a was accepted =
    elim a.row as (λ x. first_met (office_rule (registered_in timetable history) (timing_of timetable a) x) ≡ None
    → HaveMarks (entries_of unit_entry history ++ option_to_list (unit_entry x)) (registrations_with x (registrations_in history)).units) [
      | row.Unit r ↦ λ e. marks_row (registered_in timetable history) (entries_of unit_entry history) was r e
      | _ ↦ λ e. subst (λ rows. HaveMarks rows (registrations_in history).units) (sym (append-nil (entries_of unit_entry history))) was
    ] accepted

have_marks : (timetable : Timetable) (history : History) → IsAcceptedBy office_rule timetable history → HaveMarksIn history
have_marks timetable history no_rows = λ unit. tt
have_marks timetable _ (one_more history a before accepted) =
    subst (λ rows. HaveMarks rows (registrations_in (history ++ a ∷ [])).units) (sym (entries_of-append unit_entry history a))
    (subst (λ (registered : RegistrationsView). HaveMarks (entries_of unit_entry history ++ option_to_list (unit_entry a.row)) registered.units) (sym (row_by_row history a))
    (marks_more timetable history a (have_marks timetable history before) accepted))

-- the mark of a unit is that of each of its rows
pub marks_alike : (timetable : Timetable) → MarksAlike office_rule timetable
marks_alike timetable history accepted unit u is = subst (HaveMark (entries_of unit_entry history) unit) is (have_marks timetable history accepted unit)

-- no row changes the mark of a known unit
pub marks_stay : (timetable : Timetable) → MarksStay office_rule timetable
marks_stay timetable history a before accepted unit known is =
    ap (λ (registered : RegistrationsView). option_map (λ u. u.interconnector) (find bytes_cmp unit registered.units)) (row_by_row history a)
    ∙ elim a.row as (λ x. first_met (office_rule (registered_in timetable history) (timing_of timetable a) x) ≡ None
    → option_map (λ u. u.interconnector) (find bytes_cmp unit (registrations_with x (registrations_in history)).units) ≡ Some known.interconnector) [
      | row.Unit r ↦ λ e. row_leaves_mark (registered_in timetable history) (entries_of unit_entry history) (have_marks timetable history before) r e unit known is
      | _ ↦ λ e. ap (option_map (λ u. u.interconnector)) is
    ] accepted
