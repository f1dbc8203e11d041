-- Writing what the machine writes for an accepted load gives what is registered and in force after the load.
use Rattle.std.proofs.Common.{◌≡◌, ℕ, List, [], ◌∷◌, ◌++◌, map, refl, sym, ap, ◌∙◌, true, false, cond, Option, Some, None, Ordering, append_assoc}
use Rattle.std.specs.Prelude.{ℤ, filter, is_none, is_some, option_to_list}
use Rattle.std.specs.Cmp.{IsTotalOrder}
use Rattle.std.specs.FinMap.{find, put}
use Rattle.std.specs.FinMap.Entries.{find-append, find-put, is_sorted-put, same_entries}
use Rattle.std.specs.List.{cons_option}
use Rattle.std.specs.Ordering.{eq_by_cmp}
use Rattle.std.specs.declared.cmp.Ordering.TheVariants.{Equal}
use Rattle.std.proofs.lemmas.List.{append-nil}
use Rattle.hh_tables.specs.Tables.{Table, in_key_order, put_all}
use Rattle.hh_tables.proofs.TableLaws.{false_is_not_true, find-in_key_order, is_sorted-in_key_order}
use Rattle.hh_names.specs.declared.values.Counterparties.{Counterparties}
use Rattle.hh_names.specs.Accounts.{bytes_cmp}
use Rattle.hh_rows.specs.declared.rows.Row.{Row}
use Rattle.hh_rows.specs.declared.rows.Row.TheVariants as row
use Rattle.hh_rows.specs.declared.rows.UnitRegistration.{UnitRegistration}
use Rattle.hh_rules.specs.Effects.{fixes_reference, put_new, with_row}
use Rattle.hh_rules.specs.Entries.{reference_entry}
use Rattle.hh_rules.specs.FileRows.{fixed_by, fixed_references, timely_rows}
use Rattle.hh_rules.specs.History.{History, Leads, Registered, leads_with_row, registered_in, units_with_row}
use Rattle.hh_rules.specs.Lateness.{Accepted, Timetable, accepted_at, is_in_time}
use Rattle.hh_rules.proofs.HistoryLaws.{looks_back}
use Rattle.hh_states.specs.Changes.{leads_through, put_row, put_rows, units_through}

-- what is registered and in force after some rows, one after another
abbrev with_rows : Timetable → History → Registered → Registered
with_rows timetable [] tables = tables
with_rows timetable (a ∷ rows) tables = with_rows timetable rows (with_row (is_in_time timetable a) a.row tables)

-- looking back over a history with more rows changes the tables by each of these rows
registered_in-append : (timetable : Timetable) (rows history : History) → registered_in timetable (history ++ rows) ≡ with_rows timetable rows (registered_in timetable history)
registered_in-append timetable [] history = ap (registered_in timetable) (append-nil history)
registered_in-append timetable (a ∷ rows) history =
    ap (registered_in timetable) (sym (append_assoc history (a ∷ []) rows))
    ∙ registered_in-append timetable rows (history ++ a ∷ [])
    ∙ ap (with_rows timetable rows) (looks_back timetable history a)

-- the references after these rows
abbrev references_after : History → Table (List ℕ) Counterparties → Table (List ℕ) Counterparties
references_after [] known = known
references_after (a ∷ rows) known = references_after rows (put_new bytes_cmp (reference_entry a.row) known)

-- a late row fixes its reference if that is new, and changes nothing else
late_row : (timetable : Timetable) (moment : ℤ) (r : Row) (tables : Registered) → is_in_time timetable (accepted_at moment r) ≡ false
    → with_row false r tables ≡ record tables { references = put_new bytes_cmp (reference_entry r) tables.references }
late_row timetable moment (row.Party r) tables late = absurd (false_is_not_true (sym late))
late_row timetable moment (row.Unit r) tables late = absurd (false_is_not_true (sym late))
late_row timetable moment (row.Meter r) tables late = absurd (false_is_not_true (sym late))
late_row timetable moment (row.Price r) tables late = absurd (false_is_not_true (sym late))
late_row timetable moment (row.Contract r) tables late = refl
late_row timetable moment (row.Reallocation r) tables late = refl

-- the tables after rows in time, with the references and what is registered of units taken apart
apart : (timetable : Timetable) (rows : History) (tables : Registered) (known : Table (List ℕ) Counterparties) (units : Table (List ℕ) UnitRegistration) (leads : Leads) →
    with_rows timetable rows (record tables { references = known; units = units; leads = leads })
    ≡ record (put_rows (timely_rows timetable rows) tables) {
      references = references_after rows known;
      units = units_through (timely_rows timetable rows) units;
      leads = leads_through (timely_rows timetable rows) leads;
    }
apart timetable [] tables known units leads = refl
apart timetable (a ∷ rows) tables known units leads =
    let rest : History = filter (is_in_time timetable) rows in
    elim (is_in_time timetable a) as (λ t. is_in_time timetable a ≡ t →
    with_rows timetable rows (with_row t a.row (record tables { references = known; units = units; leads = leads }))
    ≡ record (put_rows (map (λ (b : Accepted). b.row) (cond t (a ∷ rest) rest)) tables) {
      references = references_after rows (put_new bytes_cmp (reference_entry a.row) known);
      units = units_through (map (λ (b : Accepted). b.row) (cond t (a ∷ rest) rest)) units;
      leads = leads_through (map (λ (b : Accepted). b.row) (cond t (a ∷ rest) rest)) leads;
    }) [
      | true ↦ λ in_time. apart timetable rows (put_row a.row tables) (put_new bytes_cmp (reference_entry a.row) known) (units_with_row a.row units) (leads_with_row a.row leads)
      | false ↦ λ late. ap (with_rows timetable rows) (late_row timetable a.moment a.row (record tables { references = known; units = units; leads = leads }) late)
          ∙ apart timetable rows tables (put_new bytes_cmp (reference_entry a.row) known) units leads
    ] refl

-- putting the reference that a row fixes changes the references as the row does
fixed_row : (tables : Registered) (r : Row)
    → put_all bytes_cmp (option_to_list (fixed_by (fixes_reference tables r) (reference_entry r))) tables.references ≡ put_new bytes_cmp (reference_entry r) tables.references
fixed_row tables (row.Party r) = refl
fixed_row tables (row.Unit r) = refl
fixed_row tables (row.Meter r) = refl
fixed_row tables (row.Price r) = refl
fixed_row tables (row.Contract r) =
    elim (find bytes_cmp r.key.reference tables.references) as (λ known.
    put_all bytes_cmp (option_to_list (fixed_by (is_none known) (reference_entry (row.Contract r)))) tables.references
    ≡ cond (is_some known) tables.references (put bytes_cmp r.key.reference r.contract.counterparties tables.references)) [ None ↦ refl | Some counterparties ↦ refl ]
fixed_row tables (row.Reallocation r) = refl

put_one_more : {K V : Type 0} (R : K → K → Ordering) (o : Option (K × V)) (es : List (K × V)) (table : Table K V)
    → put_all R (cons_option o es) table ≡ put_all R es (put_all R (option_to_list o) table)
put_one_more R None es table = refl
put_one_more R (Some e) es table = refl

-- putting the references that rows fix gives the same as judging each row after those before it
fixed_references-put : (timetable : Timetable) (history rows : History)
    → put_all bytes_cmp (fixed_references timetable history rows) (registered_in timetable history).references ≡ references_after rows (registered_in timetable history).references
fixed_references-put timetable history [] = refl
fixed_references-put timetable history (a ∷ rows) =
    let tables : Registered = registered_in timetable history in
    let after : (registered_in timetable (history ++ a ∷ [])).references ≡ put_new bytes_cmp (reference_entry a.row) tables.references = ap (λ t. t.references) (looks_back timetable history a) in
    put_one_more bytes_cmp (fixed_by (fixes_reference tables a.row) (reference_entry a.row)) (fixed_references timetable (history ++ a ∷ []) rows) tables.references
    ∙ ap (put_all bytes_cmp (fixed_references timetable (history ++ a ∷ []) rows)) (fixed_row tables a.row ∙ sym after)
    ∙ fixed_references-put timetable (history ++ a ∷ []) rows
    ∙ ap (references_after rows) after

-- What is registered and in force after rows comes from the rows in time and the references that the rows fix. No row of units is
-- late, so the rows in time make all that becomes of units.
pub load_register : (timetable : Timetable) (history rows : History) →
    registered_in timetable (history ++ rows)
    ≡ record (put_rows (timely_rows timetable rows) (registered_in timetable history)) {
      references = put_all bytes_cmp (fixed_references timetable history rows) (registered_in timetable history).references;
      units = units_through (timely_rows timetable rows) (registered_in timetable history).units;
      leads = leads_through (timely_rows timetable rows) (registered_in timetable history).leads;
    }
load_register timetable history rows =
    let tables : Registered = registered_in timetable history in
    registered_in-append timetable rows history
    ∙ apart timetable rows tables tables.references tables.units tables.leads
    ∙ ap (λ references. record (put_rows (timely_rows timetable rows) tables) {
      references = references;
      units = units_through (timely_rows timetable rows) tables.units;
      leads = leads_through (timely_rows timetable rows) tables.leads;
    })
    (sym (fixed_references-put timetable history rows))

-- one more entry with a new key is put into the table
pub in_key_order-append : {K V : Type 0} {R : K → K → Ordering} → IsTotalOrder R → ((x y : K) → R x y ≡ Equal → x ≡ y) → (es : List (K × V)) (k : K) (v : V) → find R k es ≡ None
    → in_key_order R (es ++ (k, v) ∷ []) ≡ put R k v (in_key_order R es)
in_key_order-append {R = R} o exact es k v new =
    same_entries R o exact _ _ (is_sorted-in_key_order o (es ++ (k, v) ∷ [])) (is_sorted-put R o k v (in_key_order R es) (is_sorted-in_key_order o es))
    (λ q. find-in_key_order o (es ++ (k, v) ∷ []) q ∙ find-append R o es k v q new
    ∙ sym (find-put R o q k v (in_key_order R es) ∙ ap (cond (eq_by_cmp R q k) (Some v)) (find-in_key_order o es q)))
