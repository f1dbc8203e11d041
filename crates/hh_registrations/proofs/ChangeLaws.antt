-- Changes of registrations: in which order their rows are put, and that none begins after the last accepted date.
use Rattle.std.proofs.Common.{◌≡◌, ◌<◌, ◌≤◌, ◌+◌, ℕ, List, [], ◌∷◌, Bool, true, false, cond, refl, sym, ap, subst, ◌∙◌, Option, Some, None, Result, Ok, Err, OnOk, get_or, length, take}
use Rattle.std.proofs.Common.{◌<◌, ◌+◌, ◌++◌, append_assoc, arith, drop, get_or, length, rules, suc, take, zero}
use Rattle.std.proofs.Math.Seq.{take-suc}
use Rattle.std.specs.Cmp.Rules.{comparing}
use Rattle.std.specs.Cmp.Lexicographic.{pointwise}
use Rattle.std.specs.Prelude.{◌-◌, nat_eq, nat_lt, filter, is_some, not, ◌&&◌, IsSome, OnErr, T}
use Rattle.std.specs.Cmp.{Equal-is, eq_by_cmp_equiv}
use Rattle.std.specs.FinMap.{find, put, is_sorted}
use Rattle.std.specs.FinMap.Entries.{by_order, find-put, is_sorted-put, same_entries}
use Rattle.std.specs.List.{cons_option}
use Rattle.std.specs.Ordering.{eq_by_cmp}
use Rattle.std.specs.declared.cmp.Ordering.TheVariants.{Less, Equal, Greater}
use Rattle.std.proofs.lemmas.Bool.{le-leb}
use Rattle.std.proofs.lemmas.List.{take_all}
use Rattle.hh_tables.specs.Ends.{last_of}
use Rattle.hh_tables.specs.Tables.{IsTable, Table, put_all, without}
use Rattle.hh_tables.proofs.BehindLaws.{put_into_none, rising_in_order}
use Rattle.hh_tables.proofs.MergeLaws.{from_true, put_more, true_from}
use Rattle.hh_tables.proofs.WithoutLaws.{find-without, sorted-without}
use Rattle.hh_names.specs.Accounts.{bytes_cmp}
use Rattle.hh_names.proofs.AccountLaws.{bytes_total}
use Rattle.hh_time.specs.Days.{last_date}
use Rattle.hh_rows.specs.DateRanges.{Range}
use Rattle.hh_rows.specs.Keys.{lead_key_cmp}
use Rattle.hh_rows.specs.declared.keys.LeadKey.{LeadKey}
use Rattle.hh_rows.specs.declared.rows.LeadTerm.{LeadTerm}
use Rattle.hh_rows.specs.declared.rows.Row.{Row}
use Rattle.hh_rows.specs.declared.rows.UnitRegistration.{UnitRegistration}
use Rattle.hh_rows.specs.declared.rows.UnitRow.{UnitRow}
use Rattle.hh_rows.proofs.KeyLaws.{exact_lead_keys, lead_key_total}
use Rattle.hh_registrations.specs.declared.changes.FormerLead.{FormerLead}
use Rattle.hh_registrations.specs.declared.changes.FormerLead.TheVariants as former
use Rattle.hh_registrations.specs.declared.changes.LeadChange.{LeadChange}
use Rattle.hh_registrations.specs.Registrations.{BeginByLastDate, Lead, Leads, beside_former, former_lead, is_begun, is_of_unit, is_succession, last_begun, last_registration, RegistrationsView, lead_change, leads_after, leads_with, leads_with_row, registrations_with, succession_range, succession_ranges}
use Rattle.hh_registrations.specs.UnitSteps.{steps_of_row, steps_of_rows}
use Rattle.hh_registrations.specs.declared.unit_steps.UnitStep.{UnitStep}
use Rattle.hh_registrations.specs.steps.Dates.{AreInOrder}

-- ---- a registration put before another is taken out

module _ (key : LeadKey) (term : LeadTerm) (old : LeadKey) (leads : Leads) (rising : T (is_sorted lead_key_cmp leads)) where
  abbrev put_first : Leads
  put_first = put lead_key_cmp key term leads

  abbrev put_last : Leads
  put_last = put lead_key_cmp key term (without lead_key_cmp old leads)

  last_rising : T (is_sorted lead_key_cmp put_last)
  last_rising = is_sorted-put lead_key_cmp lead_key_total key term (without lead_key_cmp old leads) (sorted-without lead_key_total old leads rising)

  found_last : (q : LeadKey) → find lead_key_cmp q put_last ≡ cond (eq_by_cmp lead_key_cmp q key) (Some term) (cond (not (eq_by_cmp lead_key_cmp old q)) (find lead_key_cmp q leads) None)
  found_last q = find-put lead_key_cmp lead_key_total q key term (without lead_key_cmp old leads)
      ∙ ap (cond (eq_by_cmp lead_key_cmp q key) (Some term)) (find-without lead_key_total q old leads)

  found_first : (q : LeadKey) → find lead_key_cmp q put_first ≡ cond (eq_by_cmp lead_key_cmp q key) (Some term) (find lead_key_cmp q leads)
  found_first q = find-put lead_key_cmp lead_key_total q key term leads

  -- its own key may be taken out before
  pub replaced_itself : old ≡ key → put_first ≡ put_last
  replaced_itself same = same_entries lead_key_cmp lead_key_total exact_lead_keys _ _ (is_sorted-put lead_key_cmp lead_key_total key term leads rising) last_rising
      (λ q. found_first q ∙ alike q (eq_by_cmp lead_key_cmp q key) refl ∙ sym (found_last q))
    where
      alike : (q : LeadKey) (b : Bool) → eq_by_cmp lead_key_cmp q key ≡ b
          → cond b (Some term) (find lead_key_cmp q leads) ≡ cond b (Some term) (cond (not (eq_by_cmp lead_key_cmp old q)) (find lead_key_cmp q leads) None)
      alike q true is = refl
      alike q false is = ap (λ b. cond (not b) (find lead_key_cmp q leads) None)
          (sym (ap (λ k. eq_by_cmp lead_key_cmp k q) same ∙ (eq_by_cmp_equiv lead_key_total).symm key q ∙ is))

  -- another key may be taken out after
  pub replaced_other : eq_by_cmp lead_key_cmp old key ≡ false → without lead_key_cmp old put_first ≡ put_last
  replaced_other apart = same_entries lead_key_cmp lead_key_total exact_lead_keys _ _ (sorted-without lead_key_total old put_first (is_sorted-put lead_key_cmp lead_key_total key term leads rising)) last_rising
      (λ q. find-without lead_key_total q old put_first ∙ ap (λ f. cond (not (eq_by_cmp lead_key_cmp old q)) f None) (found_first q)
      ∙ alike q (eq_by_cmp lead_key_cmp q key) refl ∙ sym (found_last q))
    where
      alike : (q : LeadKey) (b : Bool) → eq_by_cmp lead_key_cmp q key ≡ b
          → cond (not (eq_by_cmp lead_key_cmp old q)) (cond b (Some term) (find lead_key_cmp q leads)) None
          ≡ cond b (Some term) (cond (not (eq_by_cmp lead_key_cmp old q)) (find lead_key_cmp q leads) None)
      alike q true is = ap (λ c. cond (not c) (Some term) None)
          (ap (eq_by_cmp lead_key_cmp old) (exact_lead_keys q key ((Equal-is (lead_key_cmp q key)).0 is)) ∙ apart)
      alike q false is = refl

-- two keys are told apart, or are the same
pub keys_apart : (a b : LeadKey) → not (pointwise nat_eq a.unit b.unit && nat_eq a.from b.from) ≡ true → eq_by_cmp lead_key_cmp a b ≡ false
keys_apart a b apart = search (comparing, rules)

pub keys_same : (a b : LeadKey) → not (pointwise nat_eq a.unit b.unit && nat_eq a.from b.from) ≡ false → a ≡ b
keys_same a b same = exact_lead_keys a b (search (comparing, rules))

-- ---- rising keys

rising_beside : (changed : FormerLead) (leads : Leads) → T (is_sorted lead_key_cmp leads) → T (is_sorted lead_key_cmp (beside_former changed leads))
rising_beside former.Absent leads h = h
rising_beside (former.Replaced key) leads h = sorted-without lead_key_total key leads h
rising_beside (former.Ended key term) leads h = is_sorted-put lead_key_cmp lead_key_total key term leads h

-- the keys of the registrations still rise after a row of units
rising_with : (leads : Leads) (r : UnitRow) → IsTable lead_key_cmp leads → IsTable lead_key_cmp (leads_after r leads)
rising_with leads r rising =
    let change : LeadChange = lead_change leads r in
    true_from _ (is_sorted-put lead_key_cmp lead_key_total change.key change.term (beside_former change.former leads) (rising_beside change.former leads (from_true _ rising)))

-- one more of registrations is put; those before are put already
pub one_more_put : (leads : Leads) → IsTable lead_key_cmp leads → (i : ℕ) (e : Lead) → i < length leads → e ≡ get_or leads i e
    → (before after : Leads) → before ≡ put_all lead_key_cmp (take i leads) [] → after ≡ put lead_key_cmp e.0 e.1 before → after ≡ put_all lead_key_cmp (take (i + 1) leads) []
one_more_put leads rising i e inside at before after so_far is =
    put_more lead_key_total leads (rising_in_order lead_key_total leads rising) i e inside at [] before after so_far is

-- registrations that are all put, one after the other into none, are the same registrations
pub all_put : (leads : Leads) → IsTable lead_key_cmp leads → (rows : Leads) → rows ≡ leads → (i : ℕ) → length rows ≤ i
    → (copy : Leads) → copy ≡ put_all lead_key_cmp (take i rows) [] → copy ≡ leads
all_put leads rising rows are i at_end copy is =
    is ∙ ap (λ l. put_all lead_key_cmp l []) (take_all i rows at_end ∙ are)
    ∙ sym (put_into_none lead_key_total leads [] [] 0 refl refl refl rising)

-- ---- first dates

abbrev Dated : Lead → Type 0
Dated e = e.0.from ≤ last_date

dated_put : (key : LeadKey) (term : LeadTerm) (leads : Leads) → key.from ≤ last_date → BeginByLastDate leads → BeginByLastDate (put lead_key_cmp key term leads)
dated_put key term [] own all = (own, tt)
dated_put key term (e ∷ es) own all = elim (lead_key_cmp key e.0) as (λ r. BeginByLastDate (by_order r ((key, term) ∷ e ∷ es) ((e.0, term) ∷ es) (e ∷ put lead_key_cmp key term es))) [
  | Less ↦ (own, all)
  | Equal ↦ all
  | Greater ↦ (all.0, dated_put key term es own all.1)
]

dated_filter : (test : Lead → Bool) (leads : Leads) → BeginByLastDate leads → BeginByLastDate (filter test leads)
dated_filter test [] all = tt
dated_filter test (e ∷ es) all = elim (test e) as (λ b. BeginByLastDate (cond b (e ∷ filter test es) (filter test es))) [
  | true ↦ (all.0, dated_filter test es all.1)
  | false ↦ dated_filter test es all.1
]

dated_last : (leads : Leads) → BeginByLastDate leads → (e : Lead) → last_of leads ≡ Some e → Dated e
dated_last [] all e is = cc
dated_last (x ∷ []) all e is = subst Dated (some_same x e is) all.0
  where
    some_same : (a b : Lead) → Some a ≡ Some b → a ≡ b
    some_same a b h = cc
dated_last (x ∷ y ∷ es) all e is = dated_last (y ∷ es) all.1 e is

dated_beside : (leads : Leads) → BeginByLastDate leads → (last : Option Lead) → ((e : Lead) → last ≡ Some e → Dated e) → (new : UnitRegistration)
    → BeginByLastDate (beside_former (former_lead last new) leads)
dated_beside leads all None own new = all
dated_beside leads all (Some last) own new =
    elim (is_succession last new && nat_lt last.0.from new.range.from) as (λ b. BeginByLastDate (beside_former (cond b (former.Ended last.0 (record last.1 { to = new.range.from - 1 })) (former.Replaced last.0)) leads)) [
      | true ↦ dated_put last.0 _ leads (own last refl) all
      | false ↦ dated_filter _ leads all
    ]

-- no registration begins after the last accepted date, if the row doesn't
pub dated_with : (leads : Leads) (r : UnitRow) → r.registration.range.from ≤ last_date → BeginByLastDate leads → BeginByLastDate (leads_after r leads)
dated_with leads r own all =
    dated_put (lead_change leads r).key (lead_change leads r).term _ own
    (dated_beside leads all (last_registration leads r.unit)
    (λ e is. dated_last _ (dated_filter (λ x. is_of_unit r.unit x.0) leads all) e is) r.registration)

-- so each has begun on that date
pub last_is_begun : (leads : Leads) (unit : List ℕ) → BeginByLastDate leads → last_begun leads unit last_date ≡ last_registration leads unit
last_is_begun leads unit all = ap last_of (alike leads all)
  where
    alike : (es : Leads) → BeginByLastDate es → filter (λ e. is_begun unit last_date e.0) es ≡ filter (λ e. is_of_unit unit e.0) es
    alike [] all = refl
    alike (e ∷ es) all =
        ap (λ b. cond (is_of_unit unit e.0 && b) (e ∷ filter (λ x. is_begun unit last_date x.0) es) (filter (λ x. is_begun unit last_date x.0) es)) (le-leb e.0.from last_date all.0)
        ∙ elim (is_of_unit unit e.0) as (λ b. cond (b && true) (e ∷ filter (λ x. is_begun unit last_date x.0) es) (filter (λ x. is_begun unit last_date x.0) es) ≡ cond b (e ∷ filter (λ x. is_of_unit unit x.0) es) (filter (λ x. is_of_unit unit x.0) es)) [
          | true ↦ ap (λ xs. e ∷ xs) (alike es all.1)
          | false ↦ alike es all.1
        ]

-- ---- what the code computes

-- a change made of its parts
pub change_is : (leads : Leads) (r : UnitRow)
    → (last : Option Lead) → last ≡ last_registration leads r.unit → (changed : FormerLead) → changed ≡ former_lead last r.registration
    → (ends : ℕ × ℕ) → ends ≡ (r.registration.range.from, r.registration.range.to)
    → record { former = changed; key = record { unit = r.unit; from = ends.0 }; term = record { lead = r.registration.lead; to = ends.1 } } ≡ lead_change leads r
change_is leads r last is changed then ends are = λ i. record {
  former = (then ∙ ap (λ o. former_lead o r.registration) is) i;
  key = record { unit = r.unit; from = (are i).0 };
  term = record { lead = r.registration.lead; to = (are i).1 };
}

-- what is known of kept registrations is still so when a change is made
change_kept : (leads : Leads) (r : UnitRow) (change : LeadChange) → change ≡ lead_change leads r → change.key.from ≤ last_date → AreInOrder leads
    → (new : Leads) → new ≡ leads_with change leads → AreInOrder new
change_kept leads r change is own kept new made =
    subst AreInOrder (sym (made ∙ ap (λ x. leads_with x leads) is))
    (record { rising = rising_with leads r kept.rising; dated = dated_with leads r (subst (λ (x : LeadChange). x.key.from ≤ last_date) is own) kept.dated })

-- nor does it change if memory was refused
pub kept_either : {X E : Type 0} (leads : Leads) (r : UnitRow) (change : LeadChange) → change ≡ lead_change leads r → change.key.from ≤ last_date → AreInOrder leads
    → (new : Leads) (result : Result X E) → OnOk result (new ≡ leads_with change leads) → OnErr result (new ≡ leads) → AreInOrder new
kept_either leads r change is own kept new (Ok x) ok err = change_kept leads r change is own kept new ok
kept_either leads r change is own kept new (Err e) ok err = subst AreInOrder (sym err) kept

-- what was put for a unit is there
pub found_put : (unit : List ℕ) (u : UnitRegistration) (units new : Table (List ℕ) UnitRegistration) → new ≡ put bytes_cmp unit u units → IsSome (find bytes_cmp unit new)
found_put unit u units new is =
    ap is_some (ap (find bytes_cmp unit) is ∙ find-put bytes_cmp bytes_total unit unit u units
    ∙ ap (λ b. cond b (Some u) (find bytes_cmp unit units)) ((eq_by_cmp_equiv bytes_total).refl unit))

-- a registration that begins by the last accepted date is put, or memory is refused
pub put_in_order : {X E : Type 0} (key : LeadKey) (term : LeadTerm) (leads : Leads) → key.from ≤ last_date → AreInOrder leads
    → (new : Leads) (result : Result X E) → OnOk result (new ≡ put lead_key_cmp key term leads) → OnErr result (new ≡ leads) → AreInOrder new
put_in_order key term leads own all new (Ok x) ok err = subst AreInOrder (sym ok) (record {
  rising = true_from _ (is_sorted-put lead_key_cmp lead_key_total key term leads (from_true _ all.rising));
  dated = dated_put key term leads own all.dated;
})
put_in_order key term leads own all new (Err e) ok err = subst AreInOrder (sym err) all

-- ---- rows one after the other

-- the items of a list from the `i`-th on
next_of : {X : Type 0} (xs : List X) (i : ℕ) (x : X) → i < length xs → x ≡ get_or xs i x → drop i xs ≡ x ∷ drop (i + 1) xs
next_of [] i x low is = absurd (omega (arith, low))
next_of (y ∷ xs) zero x low is = ap (λ z. z ∷ xs) (sym is)
next_of (y ∷ xs) (suc i) x low is = next_of xs i x (omega (arith, low)) is ∙ ap (λ n. x ∷ drop n (y ∷ xs)) (let e : suc (i + 1) ≡ suc i + 1 = omega arith in e)

taken_next : {X : Type 0} (xs : List X) (i : ℕ) (x : X) → i < length xs → x ≡ get_or xs i x → take (i + 1) xs ≡ take i xs ++ x ∷ []
taken_next xs i x low is = ap (λ n. take n xs) (let e : i + 1 ≡ suc i = omega arith in e) ∙ take-suc xs i x low ∙ ap (λ y. take i xs ++ y ∷ []) (sym is)

put_behind : (rows : Leads) (e : Lead) (leads : Leads) → put lead_key_cmp e.0 e.1 (put_all lead_key_cmp rows leads) ≡ put_all lead_key_cmp (rows ++ e ∷ []) leads
put_behind [] e leads = refl
put_behind (x ∷ rows) e leads = put_behind rows e (put lead_key_cmp x.0 x.1 leads)

-- one more row of the table is put
pub put_next : (rows : Leads) (i : ℕ) (e : Lead) → i < length rows → e ≡ get_or rows i e
    → put lead_key_cmp e.0 e.1 (put_all lead_key_cmp (take i rows) []) ≡ put_all lead_key_cmp (take (i + 1) rows) []
put_next rows i e low is = put_behind (take i rows) e [] ∙ ap (λ rs. put_all lead_key_cmp rs []) (sym (taken_next rows i e low is))

-- one more row: its steps come behind the steps so far
pub steps_more : (steps : List UnitStep) (rows : List Row) (i : ℕ) (r : Row) (held : RegistrationsView) (all : List UnitStep) → i < length rows → r ≡ get_or rows i r
    → steps ++ steps_of_rows (drop i rows) held ≡ all → (steps ++ steps_of_row r held) ++ steps_of_rows (drop (i + 1) rows) (registrations_with r held) ≡ all
steps_more steps rows i r held all low is kept =
    append_assoc steps (steps_of_row r held) _
    ∙ ap (λ rs. steps ++ steps_of_rows rs held) (sym (next_of rows i r low is))
    ∙ kept

-- and its dates, if it is a succession, behind those of the successions so far
pub ranges_more : (ranges : List Range) (rows : List Row) (i : ℕ) (r : Row) (held : Leads) (all : List Range) → i < length rows → r ≡ get_or rows i r
    → ranges ++ succession_ranges (drop i rows) held ≡ all → (ranges ++ cons_option (succession_range r held) []) ++ succession_ranges (drop (i + 1) rows) (leads_with_row r held) ≡ all
ranges_more ranges rows i r held all low is kept =
    append_assoc ranges (cons_option (succession_range r held) []) _
    ∙ ap (λ rs. ranges ++ rs) (sym (in_front (succession_range r held) (succession_ranges (drop (i + 1) rows) (leads_with_row r held))))
    ∙ ap (λ rs. ranges ++ succession_ranges rs held) (sym (next_of rows i r low is))
    ∙ kept
  where
    in_front : (o : Option Range) (more : List Range) → cons_option o more ≡ cons_option o [] ++ more
    in_front None more = refl
    in_front (Some range) more = refl

-- if all registrations begin by the last accepted date, so does each
pub begun_at : (rows : Leads) (i : ℕ) (e : Lead) → i < length rows → e ≡ get_or rows i e → BeginByLastDate rows → e.0.from ≤ last_date
begun_at [] i e low is all = absurd (omega (arith, low))
begun_at (x ∷ rows) zero e low is all = subst (λ (l : Lead). l.0.from ≤ last_date) (sym is) all.0
begun_at (x ∷ rows) (suc i) e low is all = begun_at rows i e (omega (arith, low)) is all.1
