-- Two ways to the same tables: looking back over a history with one more row, or changing the tables by the row.
use Rattle.std.proofs.Common.{◌≡◌, ℕ, List, [], ◌∷◌, ◌++◌, Bool, true, false, cond, refl, ap, ◌∙◌, Option, Some, None, Ordering}
use Rattle.std.specs.Prelude.{filter, option_to_list, T}
use Rattle.std.specs.declared.cmp.Ordering.TheVariants.{Equal}
use Rattle.std.specs.Cmp.{IsTotalOrder}
use Rattle.std.specs.FinMap.{find, is_sorted}
use Rattle.std.specs.FinMap.Entries.{is_sorted-put}
use Rattle.std.specs.List.{cons_option}
use Rattle.std.proofs.lemmas.List.{append-nil}
use Rattle.hh_rows.specs.declared.rows.Row.{Row}
use Rattle.hh_rows.specs.declared.rows.Row.TheVariants as row
use Rattle.hh_rows.specs.declared.rows.UnitRegistration.{UnitRegistration}
use Rattle.hh_registrations.specs.Registrations.{Leads, widened}
use Rattle.hh_rules.specs.History.{History, entries_of, leads_from, leads_with_row, registered_in, units_from, units_with_row}
use Rattle.hh_rules.specs.Lateness.{Timetable, Accepted, is_in_time}
use Rattle.hh_rules.specs.Entries.{party_entry, reference_entry, meter_entry, price_entry, contract_entry, reallocation_entry}
use Rattle.hh_rules.specs.Effects.{put_entry, put_in_time, put_new, with_row}
use Rattle.hh_tables.specs.Tables.{Table, table_of_last, table_of_first}
use Rattle.hh_names.specs.Accounts.{bytes_cmp}
use Rattle.hh_names.proofs.AccountLaws.{bytes_total}
use Rattle.hh_rows.proofs.KeyLaws.{settlement_period_total, unit_period_total, contract_key_total, reallocation_key_total, exact_settlement_periods, exact_unit_periods, exact_contract_keys, exact_reallocation_keys}
use Rattle.hh_tables.proofs.TableLaws.{table_of_last-append, table_of_first-append}
use Rattle.std.proofs.lemmas.Map.Lookups.{exact_bytes}

cons_option-append : {X : Type 0} (o : Option X) (xs ys : List X) → cons_option o (xs ++ ys) ≡ cons_option o xs ++ ys
cons_option-append None xs ys = refl
cons_option-append (Some x) xs ys = refl

cons_option-none : {X : Type 0} (o : Option X) → cons_option o [] ≡ option_to_list o
cons_option-none None = refl
cons_option-none (Some x) = refl

-- the entries of a history, after one more row
pub entries_of-append : {K V : Type 0} (entry : Row → Option (K × V)) (history : History) (a : Accepted) → entries_of entry (history ++ a ∷ []) ≡ entries_of entry history ++ option_to_list (entry a.row)
entries_of-append entry [] a = cons_option-none (entry a.row)
entries_of-append entry (x ∷ history) a =
    ap (cons_option (entry x.row)) (entries_of-append entry history a) ∙ cons_option-append (entry x.row) (entries_of entry history) (option_to_list (entry a.row))

-- the rows that pass a test, after one more row
pub filter-append : {X : Type 0} (test : X → Bool) (xs : List X) (x : X) → filter test (xs ++ x ∷ []) ≡ cond (test x) (filter test xs ++ x ∷ []) (filter test xs)
filter-append test [] x = refl
filter-append test (y ∷ xs) x =
    ap (λ zs. cond (test y) (y ∷ zs) zs) (filter-append test xs x)
    ∙ elim (test x) as (λ b. cond (test y) (y ∷ cond b (filter test xs ++ x ∷ []) (filter test xs)) (cond b (filter test xs ++ x ∷ []) (filter test xs)) ≡ cond b (cond (test y) (y ∷ filter test xs) (filter test xs) ++ x ∷ []) (cond (test y) (y ∷ filter test xs) (filter test xs))) [
      | true ↦ elim (test y) as (λ b. cond b (y ∷ filter test xs ++ x ∷ []) (filter test xs ++ x ∷ []) ≡ cond b (y ∷ filter test xs) (filter test xs) ++ x ∷ []) [ true ↦ refl | false ↦ refl ]
      | false ↦ refl
    ]

module _ {K V : Type 0} {R : K → K → Ordering} (o : IsTotalOrder R) (exact : (x y : K) → R x y ≡ Equal → x ≡ y) (entry : Row → Option (K × V)) where
  with_entries : (es : List (K × V)) (e : Option (K × V)) → table_of_last R (es ++ option_to_list e) ≡ put_entry R e (table_of_last R es)
  with_entries es None = ap (table_of_last R) (append-nil es)
  with_entries es (Some e) = table_of_last-append o exact es e

  pub last-append : (history : History) (a : Accepted) → table_of_last R (entries_of entry (history ++ a ∷ [])) ≡ put_entry R (entry a.row) (table_of_last R (entries_of entry history))
  last-append history a = ap (table_of_last R) (entries_of-append entry history a) ∙ with_entries (entries_of entry history) (entry a.row)

  with_first : (es : List (K × V)) (e : Option (K × V)) → table_of_first R (es ++ option_to_list e) ≡ put_new R e (table_of_first R es)
  with_first es None = ap (table_of_first R) (append-nil es)
  with_first es (Some e) = table_of_first-append o exact es e

  pub first-append : (history : History) (a : Accepted) → table_of_first R (entries_of entry (history ++ a ∷ [])) ≡ put_new R (entry a.row) (table_of_first R (entries_of entry history))
  first-append history a = ap (table_of_first R) (entries_of-append entry history a) ∙ with_first (entries_of entry history) (entry a.row)

  with_entries_if : (in_time : Bool) (es : List (K × V)) (e : Option (K × V))
      → table_of_last R (cond in_time (es ++ option_to_list e) es) ≡ put_in_time R in_time e (table_of_last R es)
  with_entries_if true es None = with_entries es None
  with_entries_if false es None = refl
  with_entries_if true es (Some e) = with_entries es (Some e)
  with_entries_if false es (Some e) = refl

  entries_if : (in_time : Bool) (history : History) (a : Accepted)
      → entries_of entry (cond in_time (history ++ a ∷ []) history) ≡ cond in_time (entries_of entry history ++ option_to_list (entry a.row)) (entries_of entry history)
  entries_if true history a = entries_of-append entry history a
  entries_if false history a = refl

  -- the rows in time, after one more row: a late row changes nothing
  pub timely-append : (timetable : Timetable) (history : History) (a : Accepted) →
      table_of_last R (entries_of entry (filter (is_in_time timetable) (history ++ a ∷ []))) ≡ put_in_time R (is_in_time timetable a) (entry a.row) (table_of_last R (entries_of entry (filter (is_in_time timetable) history)))
  timely-append timetable history a =
      let in_time : History = filter (is_in_time timetable) history in
      ap (λ h. table_of_last R (entries_of entry h)) (filter-append (is_in_time timetable) history a)
      ∙ ap (table_of_last R) (entries_if (is_in_time timetable a) in_time a)
      ∙ with_entries_if (is_in_time timetable a) (entries_of entry in_time) (entry a.row)

-- what is registered of each unit, after one more row
pub units-append : (units : Table (List ℕ) UnitRegistration) (history : History) (a : Accepted) → units_from units (history ++ a ∷ []) ≡ units_with_row a.row (units_from units history)
units-append units [] a = refl
units-append units (x ∷ history) a = units-append (units_with_row x.row units) history a

-- units rise in the order of their ids
pub unit_row-rises : (r : Row) (units : Table (List ℕ) UnitRegistration) → T (is_sorted bytes_cmp units) → T (is_sorted bytes_cmp (units_with_row r units))
unit_row-rises (row.Unit r) units rising = is_sorted-put bytes_cmp bytes_total r.unit (widened (find bytes_cmp r.unit units) r.registration) units rising
unit_row-rises (row.Party r) units rising = rising
unit_row-rises (row.Meter r) units rising = rising
unit_row-rises (row.Price r) units rising = rising
unit_row-rises (row.Contract r) units rising = rising
unit_row-rises (row.Reallocation r) units rising = rising

pub units-rise : (units : Table (List ℕ) UnitRegistration) (history : History) → T (is_sorted bytes_cmp units) → T (is_sorted bytes_cmp (units_from units history))
units-rise units [] rising = rising
units-rise units (a ∷ history) rising = units-rise (units_with_row a.row units) history (unit_row-rises a.row units rising)

-- the registrations of units, after one more row
pub leads-append : (leads : Leads) (history : History) (a : Accepted) → leads_from leads (history ++ a ∷ []) ≡ leads_with_row a.row (leads_from leads history)
leads-append leads [] a = refl
leads-append leads (x ∷ history) a = leads-append (leads_with_row x.row leads) history a

pub looks_back : (timetable : Timetable) (history : History) (a : Accepted)
    → registered_in timetable (history ++ a ∷ []) ≡ with_row (is_in_time timetable a) a.row (registered_in timetable history)
looks_back timetable history a = λ i. record {
  parties = last-append bytes_total exact_bytes party_entry history a i;
  units = units-append [] history a i;
  leads = leads-append [] history a i;
  references = first-append bytes_total exact_bytes reference_entry history a i;
  meters = last-append unit_period_total exact_unit_periods meter_entry history a i;
  prices = last-append settlement_period_total exact_settlement_periods price_entry history a i;
  contracts = timely-append contract_key_total exact_contract_keys contract_entry timetable history a i;
  reallocations = timely-append reallocation_key_total exact_reallocation_keys reallocation_entry timetable history a i;
}
