-- A part of a register that serves for a row judges it as the whole register does, and serves for the rows that follow.
use Rattle.std.proofs.Common.{◌≡◌, ℕ, ◌+◌, ℤ, List, [], ◌∷◌, Bool, true, false, cond, refl, sym, ap, subst, ◌∙◌, Option, Some, None, Ordering}
use Rattle.std.specs.Prelude.{pos, ◌+ℤ◌, not, ◌&&◌, ◌||◌, nat_le, int_lt, is_none, is_some, slice_index_or, filter, T}
use Rattle.std.specs.Cmp.{IsTotalOrder}
use Rattle.std.proofs.lemmas.List.Elements.{All-head, All-tail}
use Rattle.std.specs.FinMap.{find, put, is_sorted}
use Rattle.std.specs.FinMap.Entries.{find-put, is_sorted-put}
use Rattle.jiff.specs.declared.tz.timezone.TimeZone.{TimeZone}
use Rattle.std.specs.List.{list_any}
use Rattle.std.specs.Ordering.{eq_by_cmp}
use Rattle.std.proofs.Math.Bool.{and_assoc}
use Rattle.hh_tables.specs.Tables.{Table, IsTable}
use Rattle.hh_tables.proofs.FilterLaws.{filter-put, rising_of}
use Rattle.hh_rows.specs.Totals.{total}
use Rattle.hh_rows.proofs.TotalLaws.{total-filter, total-same}
use Rattle.hh_names.specs.declared.fault.Refusal.TheVariants as refusal
use Rattle.hh_names.specs.declared.values.Reallocation.{Reallocation}
use Rattle.hh_names.specs.Accounts.{bytes_cmp, is_same_account}
use Rattle.hh_names.proofs.AccountLaws.{bytes_total}
use Rattle.hh_names.specs.CounterpartyRule.{counterparty_refusals}
use Rattle.hh_names.specs.Faults.{first_met}
use Rattle.hh_rows.specs.DateRanges.{holds, is_inside}
use Rattle.hh_rows.specs.Keys.{reallocation_key_cmp, unit_period_cmp}
use Rattle.hh_rows.proofs.KeyLaws.{contract_key_total, exact_reallocation_keys, reallocation_key_total, settlement_period_total, unit_period_total}
use Rattle.hh_rows.specs.declared.keys.ReallocationKey.{ReallocationKey}
use Rattle.hh_rows.specs.declared.rows.Row.{Row}
use Rattle.hh_rows.specs.declared.rows.Row.TheVariants as row
use Rattle.hh_rows.specs.declared.rows.UnitRow.{UnitRow}
use Rattle.hh_rows.specs.Quantities.{hundred_percent}
use Rattle.hh_rules.specs.declared.timing.Timing.{Timing}
use Rattle.hh_registrations.specs.Registrations.{is_succession, registration_on, widened}
use Rattle.hh_rules.specs.History.{Registered, leads_with_row, units_with_row}
use Rattle.hh_rules.specs.Lateness.{accepted_at, comes_in_time, is_in_time, lacks_period, timing_of}
use Rattle.hh_rules.specs.Percents.{percent_of_others}
use Rattle.hh_rules.specs.Refusals.{Standing, is_shrunk, is_some_that, is_to_lead_of, is_unit_moved, last_lead, most_parties, most_units, refusals_of}
use Rattle.hh_rules.specs.Effects.{count_new, put_entry, put_in_time, put_new, with_row}
use Rattle.hh_rules.specs.Entries.{contract_entry, meter_entry, party_entry, price_entry, reallocation_entry, reference_entry, unit_entry}
use Rattle.hh_rules.specs.RegisterView.{AgreesOn, JudgesAsWhole, RegisterView, ServesAfter, ServesFor, after_row, in_time_at, judged, judged_at, reallocations_at, reallocations_of, refusal_at, register_after, tables_in, timetable_in, timetable_of}

-- after an entry in time, the entries that pass a test: the entry is put if it passes too
abbrev put_here : (ReallocationKey → Bool) → Bool → Option (ReallocationKey × Reallocation) → Table ReallocationKey Reallocation → Table ReallocationKey Reallocation
put_here test in_time None rows = rows
put_here test false (Some e) rows = rows
put_here test true (Some e) rows = cond (test e.0) (put reallocation_key_cmp e.0 e.1 rows) rows

sorted_table : {K V : Type 0} (R : K → K → Ordering) (es : Table K V) → IsTable R es → T (is_sorted R es)
sorted_table R es rising = subst T (sym rising) tt

rising-put_in_time : (in_time : Bool) (e : Option (ReallocationKey × Reallocation)) (es : Table ReallocationKey Reallocation) → IsTable reallocation_key_cmp es
    → IsTable reallocation_key_cmp (put_in_time reallocation_key_cmp in_time e es)
rising-put_in_time in_time None es rising = rising
rising-put_in_time false (Some e) es rising = rising
rising-put_in_time true (Some e) es rising = rising_of reallocation_key_cmp (put reallocation_key_cmp e.0 e.1 es) (is_sorted-put reallocation_key_cmp reallocation_key_total e.0 e.1 es (sorted_table reallocation_key_cmp es rising))

both_tests : (a b : Bool) (x : ℤ) → cond (a && b) x (pos 0) ≡ cond a (cond b x (pos 0)) (pos 0)
both_tests true b x = refl
both_tests false b x = refl

-- the percentage of other accounts depends only on the reallocations of the unit in the period
others_at : (tables : Registered) (key : ReallocationKey)
    → percent_of_others key tables.reallocations ≡ total (λ e. cond (not (is_same_account e.0.account key.account)) e.1.percent (pos 0)) (reallocations_at tables key.unit_period)
others_at tables key =
    let rows : Table ReallocationKey Reallocation = tables.reallocations in
    let is_here : ReallocationKey × Reallocation → Bool = λ e. eq_by_cmp unit_period_cmp e.0.unit_period key.unit_period in
    let is_other : ReallocationKey × Reallocation → Bool = λ e. not (is_same_account e.0.account key.account) in
    total-same (λ e. cond (is_here e && is_other e) e.1.percent (pos 0)) (λ e. cond (is_here e) (cond (is_other e) e.1.percent (pos 0)) (pos 0)) rows (λ e. both_tests (is_here e) (is_other e) e.1.percent)
    ∙ sym (total-filter (λ e. cond (is_other e) e.1.percent (pos 0)) is_here rows)

-- a test of elements that pass another asks those alone
any_passing : {X : Type 0} (p q test : X → Bool) → ((x : X) → test x ≡ (p x && q x)) → (xs : List X) → list_any test xs ≡ list_any q (filter p xs)
any_passing p q test both [] = refl
any_passing p q test both (x ∷ xs) =
    (λ i. both x i || any_passing p q test both xs i)
    ∙ elim (p x) as (λ b. (b && q x || list_any q (filter p xs)) ≡ list_any q (cond b (x ∷ filter p xs) (filter p xs))) [ true ↦ refl | false ↦ refl ]

-- whether a reallocation is to the account of a row of units depends only on the unit's reallocations
any_of_unit : (tables : Registered) (r : UnitRow)
    → list_any (λ e. is_to_lead_of r e.0) tables.reallocations
    ≡ list_any (λ (e : ReallocationKey × Reallocation). holds r.registration.range e.0.unit_period.at.date && is_same_account e.0.account r.registration.lead) (reallocations_of tables r.unit)
any_of_unit tables r =
    any_passing (λ (e : ReallocationKey × Reallocation). eq_by_cmp bytes_cmp e.0.unit_period.unit r.unit)
    (λ (e : ReallocationKey × Reallocation). holds r.registration.range e.0.unit_period.at.date && is_same_account e.0.account r.registration.lead)
    (λ (e : ReallocationKey × Reallocation). is_to_lead_of r e.0)
    (λ e. and_assoc (eq_by_cmp bytes_cmp e.0.unit_period.unit r.unit) (holds r.registration.range e.0.unit_period.at.date) (is_same_account e.0.account r.registration.lead))
    tables.reallocations

module _ (timing : Timing) (whole part : Standing) (parties : part.party_count ≡ whole.party_count) (units : part.unit_count ≡ whole.unit_count) where
  judged_alike : (r : Row) → AgreesOn whole.tables part.tables r → first_met (refusals_of part timing r) ≡ first_met (refusals_of whole timing r)
  judged_alike (row.Party r) party = λ i. first_met (
      (refusal.ShrinksRange, is_some_that (λ p. not (is_inside p.range r.registration.range)) (party i))
      ∷ (refusal.TooMany, is_none (party i) && nat_le most_parties (parties i)) ∷ [])
  judged_alike (row.Unit r) (party, unit, rows, leads) =
      let to_lead : list_any (λ e. is_to_lead_of r e.0) part.tables.reallocations ≡ list_any (λ e. is_to_lead_of r e.0) whole.tables.reallocations =
      any_of_unit part.tables r
      ∙ ap (list_any (λ (e : ReallocationKey × Reallocation). holds r.registration.range e.0.unit_period.at.date && is_same_account e.0.account r.registration.lead)) rows
      ∙ sym (any_of_unit whole.tables r) in
      λ i. first_met (
      (refusal.UnknownParty, is_none (party i))
      ∷ (refusal.NotEffective, is_some_that (λ p. not (is_inside r.registration.range p.range)) (party i))
      ∷ (refusal.ShrinksRange, is_some_that (λ u. is_shrunk u (last_lead (leads i) r.unit u) r.registration) (unit i))
      ∷ (refusal.UnitMoved, is_some_that (λ u. is_unit_moved u (last_lead (leads i) r.unit u) r.registration) (unit i))
      ∷ (refusal.LeadIsSubsidiary, is_some_that (λ u. is_succession (last_lead (leads i) r.unit u) r.registration && to_lead i) (unit i))
      ∷ (refusal.TooMany, is_none (unit i) && nat_le most_units (units i)) ∷ [])
  judged_alike (row.Meter r) (unit, reading, leads) = λ i. first_met (
      (refusal.UnknownUnit, is_none (unit i))
      ∷ (refusal.NotEffective, is_some_that (λ u. not (holds u.range r.key.at.date)) (unit i))
      ∷ (refusal.NoSuchPeriod, lacks_period timing) ∷ [])
  judged_alike (row.Price r) _ = refl
  judged_alike (row.Contract r) (seller, buyer, reference, volume) = λ i. first_met (
      (refusal.UnknownParty, is_none (seller i) || is_none (buyer i))
      ∷ (refusal.NotEffective, is_some_that (λ p. not (holds p.range r.key.at.date)) (seller i) || is_some_that (λ p. not (holds p.range r.key.at.date)) (buyer i))
      ∷ (refusal.NoSuchPeriod, lacks_period timing)
      ∷ counterparty_refusals (reference i) r.contract.counterparties)
  judged_alike (row.Reallocation r) (party, unit, rows, leads) =
      let others : percent_of_others r.key part.tables.reallocations ≡ percent_of_others r.key whole.tables.reallocations =
      others_at part.tables r.key
      ∙ ap (total (λ e. cond (not (is_same_account e.0.account r.key.account)) e.1.percent (pos 0))) rows
      ∙ sym (others_at whole.tables r.key) in
      λ i. first_met (
      (refusal.UnknownParty, is_none (party i))
      ∷ (refusal.UnknownUnit, is_none (unit i))
      ∷ (refusal.NotEffective, is_some_that (λ u. not (holds u.range r.key.unit_period.at.date)) (unit i) || is_some_that (λ p. not (holds p.range r.key.unit_period.at.date)) (party i))
      ∷ (refusal.NoSuchPeriod, lacks_period timing)
      ∷ (refusal.OwnLead, is_some_that (λ e. is_same_account e.1.lead r.key.account) (registration_on (leads i) r.key.unit_period.unit r.key.unit_period.at.date))
      ∷ (refusal.OverHundred, comes_in_time timing && int_lt hundred_percent (others i +ℤ r.reallocation.percent)) ∷ [])

-- a part that serves for a row refuses it for the same reason as the whole, or accepts it as the whole does
pub part_refuses : (zone : TimeZone) (part whole : RegisterView) (moment : ℤ) (r : Row) (rows : List Row) → ServesFor (r ∷ rows) whole part
    → refusal_at zone part moment r ≡ refusal_at zone whole moment r
part_refuses zone part whole moment r rows serves =
    ap (λ minutes. first_met (refusals_of part.standing (timing_of (timetable_in zone minutes) (accepted_at moment r)) r)) serves.lead_minutes
    ∙ judged_alike (timing_of (timetable_of zone whole) (accepted_at moment r)) whole.standing part.standing serves.parties serves.units r (All-head (AgreesOn whole.standing.tables part.standing.tables) r rows serves.agrees)

-- so the row gets the answer that the whole gives
pub part_judges : (zone : TimeZone) (register : RegisterView) (moment : ℤ) (r : Row) → JudgesAsWhole zone register moment r (judged_at zone register moment r)
part_judges zone register moment r whole rows serves = ap judged (part_refuses zone register whole moment r rows serves)

-- under an entry's key, the part has the same as the whole
abbrev AgreesAt : {K V : Type 0} → (K → K → Ordering) → Option (K × V) → Table K V → Table K V → Type 0
AgreesAt R None whole part = Unit {0}
AgreesAt R (Some e) whole part = find R e.0 part ≡ find R e.0 whole

-- both still agree after the same entries are put
module _ {K V : Type 0} {R : K → K → Ordering} (o : IsTotalOrder R) (whole part : Table K V) (q : K) (same : find R q part ≡ find R q whole) where
  alike-put : (k : K) (v : V) → find R q (put R k v part) ≡ find R q (put R k v whole)
  alike-put k v = find-put R o q k v part ∙ ap (cond (eq_by_cmp R q k) (Some v)) same ∙ sym (find-put R o q k v whole)

  alike-put_entry : (e : Option (K × V)) → find R q (put_entry R e part) ≡ find R q (put_entry R e whole)
  alike-put_entry None = same
  alike-put_entry (Some e) = alike-put e.0 e.1

  alike-put_in_time : (in_time : Bool) (e : Option (K × V)) → find R q (put_in_time R in_time e part) ≡ find R q (put_in_time R in_time e whole)
  alike-put_in_time in_time None = same
  alike-put_in_time true (Some e) = alike-put e.0 e.1
  alike-put_in_time false (Some e) = same

  alike-put_new : (e : Option (K × V)) → AgreesAt R e whole part → find R q (put_new R e part) ≡ find R q (put_new R e whole)
  alike-put_new None own = same
  alike-put_new (Some e) own =
      ap (λ b. find R q (cond b part (put R e.0 e.1 part))) (ap is_some own)
      ∙ elim (is_some (find R e.0 whole)) as (λ b. find R q (cond b part (put R e.0 e.1 part)) ≡ find R q (cond b whole (put R e.0 e.1 whole))) [
        | true ↦ same
        | false ↦ alike-put e.0 e.1
      ]

-- a new entry is counted in both, or in neither
same_count : {K V : Type 0} (R : K → K → Ordering) (e : Option (K × V)) (whole part : Table K V) (m n : ℕ) → AgreesAt R e whole part → m ≡ n
    → count_new R e part m ≡ count_new R e whole n
same_count R None whole part m n own same = same
same_count R (Some e) whole part m n own same = λ i. cond (is_some (own i)) (same i) (same i + 1)

module _ (whole part : Registered) where
  own_party : (r : Row) → AgreesOn whole part r → AgreesAt bytes_cmp (party_entry r) whole.parties part.parties
  own_party (row.Party r) agrees = agrees
  own_party (row.Unit r) agrees = tt
  own_party (row.Meter r) agrees = tt
  own_party (row.Price r) agrees = tt
  own_party (row.Contract r) agrees = tt
  own_party (row.Reallocation r) agrees = tt

  own_unit : (r : Row) → AgreesOn whole part r → AgreesAt bytes_cmp (unit_entry r) whole.units part.units
  own_unit (row.Party r) agrees = tt
  own_unit (row.Unit r) (party, unit, rows, leads) = unit
  own_unit (row.Meter r) agrees = tt
  own_unit (row.Price r) agrees = tt
  own_unit (row.Contract r) agrees = tt
  own_unit (row.Reallocation r) agrees = tt

  own_reference : (r : Row) → AgreesOn whole part r → AgreesAt bytes_cmp (reference_entry r) whole.references part.references
  own_reference (row.Party r) agrees = tt
  own_reference (row.Unit r) agrees = tt
  own_reference (row.Meter r) agrees = tt
  own_reference (row.Price r) agrees = tt
  own_reference (row.Contract r) (seller, buyer, reference, volume) = reference
  own_reference (row.Reallocation r) agrees = tt

  -- the reallocations in force whose keys pass a test, after a row
  reallocations_after : (tables : Registered) → IsTable reallocation_key_cmp tables.reallocations → (in_time : Bool) (e : Option (ReallocationKey × Reallocation)) (test : ReallocationKey → Bool)
      → filter (λ (f : ReallocationKey × Reallocation). test f.0) (put_in_time reallocation_key_cmp in_time e tables.reallocations)
      ≡ put_here test in_time e (filter (λ (f : ReallocationKey × Reallocation). test f.0) tables.reallocations)
  reallocations_after tables rising in_time None test = refl
  reallocations_after tables rising false (Some e) test = refl
  reallocations_after tables rising true (Some e) test =
      filter-put reallocation_key_total exact_reallocation_keys test e.0 e.1 tables.reallocations (sorted_table reallocation_key_cmp tables.reallocations rising)

  -- so both have the same of them after a row, if they had
  reallocations_alike : IsTable reallocation_key_cmp whole.reallocations → IsTable reallocation_key_cmp part.reallocations
      → (in_time : Bool) (r : Row) (test : ReallocationKey → Bool)
      → filter (λ (f : ReallocationKey × Reallocation). test f.0) part.reallocations ≡ filter (λ (f : ReallocationKey × Reallocation). test f.0) whole.reallocations
      → filter (λ (f : ReallocationKey × Reallocation). test f.0) (with_row in_time r part).reallocations ≡ filter (λ (f : ReallocationKey × Reallocation). test f.0) (with_row in_time r whole).reallocations
  reallocations_alike rising rising_part in_time r test same =
      reallocations_after part rising_part in_time (reallocation_entry r) test
      ∙ ap (put_here test in_time (reallocation_entry r)) same
      ∙ sym (reallocations_after whole rising in_time (reallocation_entry r) test)

  -- what is registered of a unit, after a row
  units_alike : (unit : List ℕ) → find bytes_cmp unit part.units ≡ find bytes_cmp unit whole.units → (r : Row) → AgreesOn whole part r
      → find bytes_cmp unit (units_with_row r part.units) ≡ find bytes_cmp unit (units_with_row r whole.units)
  units_alike unit same (row.Unit x) (party, own, rows, leads) =
      find-put bytes_cmp bytes_total unit x.unit (widened (find bytes_cmp x.unit part.units) x.registration) part.units
      ∙ (λ i. cond (eq_by_cmp bytes_cmp unit x.unit) (Some (widened (own i) x.registration)) (same i))
      ∙ sym (find-put bytes_cmp bytes_total unit x.unit (widened (find bytes_cmp x.unit whole.units) x.registration) whole.units)
  units_alike unit same (row.Party x) own = same
  units_alike unit same (row.Meter x) own = same
  units_alike unit same (row.Price x) own = same
  units_alike unit same (row.Contract x) own = same
  units_alike unit same (row.Reallocation x) own = same

  -- after a row that both accept, the part still agrees with the whole on another row
  agrees_after : IsTable reallocation_key_cmp whole.reallocations → IsTable reallocation_key_cmp part.reallocations
      → (in_time : Bool) (r : Row) → AgreesOn whole part r → (other : Row) → AgreesOn whole part other → AgreesOn (with_row in_time r whole) (with_row in_time r part) other
  agrees_after rising rising_part in_time r own (row.Party x) party =
      alike-put_entry bytes_total whole.parties part.parties x.party party (party_entry r)
  agrees_after rising rising_part in_time r own (row.Unit x) (party, unit, rows, leads) = (
    alike-put_entry bytes_total whole.parties part.parties x.registration.lead.party party (party_entry r),
    units_alike x.unit unit r own,
    reallocations_alike rising rising_part in_time r (λ k. eq_by_cmp bytes_cmp k.unit_period.unit x.unit) rows,
    ap (leads_with_row r) leads,
  )
  agrees_after rising rising_part in_time r own (row.Meter x) (unit, reading, leads) = (
    units_alike x.key.unit unit r own,
    alike-put_entry unit_period_total whole.meters part.meters x.key reading (meter_entry r),
    ap (leads_with_row r) leads,
  )
  agrees_after rising rising_part in_time r own (row.Price x) price =
      alike-put_entry settlement_period_total whole.prices part.prices x.at price (price_entry r)
  agrees_after rising rising_part in_time r own (row.Contract x) (seller, buyer, reference, volume) = (
    alike-put_entry bytes_total whole.parties part.parties x.contract.counterparties.seller.party seller (party_entry r),
    alike-put_entry bytes_total whole.parties part.parties x.contract.counterparties.buyer.party buyer (party_entry r),
    alike-put_new bytes_total whole.references part.references x.key.reference reference (reference_entry r) (own_reference r own),
    alike-put_in_time contract_key_total whole.contracts part.contracts x.key volume in_time (contract_entry r),
  )
  agrees_after rising rising_part in_time r own (row.Reallocation x) (party, unit, rows, leads) = (
    alike-put_entry bytes_total whole.parties part.parties x.key.account.party party (party_entry r),
    units_alike x.key.unit_period.unit unit r own,
    reallocations_alike rising rising_part in_time r (λ k. eq_by_cmp unit_period_cmp k.unit_period x.key.unit_period) rows,
    ap (leads_with_row r) leads,
  )

-- a part that serves for a row and for more rows serves for those after a row that both accept
pub part_serves : (zone : TimeZone) (old : RegisterView) (moment : ℤ) (r : Row)
    → ServesAfter zone old moment r (register_after zone old moment r)
part_serves zone old moment r whole rows serves =
    let in_time : Bool = in_time_at zone whole moment r in
    let same : in_time_at zone old moment r ≡ in_time = ap (λ minutes. is_in_time (timetable_in zone minutes) (accepted_at moment r)) serves.lead_minutes in
    let own : AgreesOn (tables_in whole) (tables_in old) r = All-head (AgreesOn (tables_in whole) (tables_in old)) r rows serves.agrees in
    subst (λ t. ServesFor rows (after_row in_time r whole) (after_row t r old)) (sym same) (record {
      rising = rising-put_in_time in_time (reallocation_entry r) (tables_in whole).reallocations serves.rising;
      part_rising = rising-put_in_time in_time (reallocation_entry r) (tables_in old).reallocations serves.part_rising;
      lead_minutes = serves.lead_minutes;
      parties = same_count bytes_cmp (party_entry r) (tables_in whole).parties (tables_in old).parties _ _ (own_party (tables_in whole) (tables_in old) r own) serves.parties;
      units = same_count bytes_cmp (unit_entry r) (tables_in whole).units (tables_in old).units _ _ (own_unit (tables_in whole) (tables_in old) r own) serves.units;
      agrees = λ k d below. agrees_after (tables_in whole) (tables_in old) serves.rising serves.part_rising in_time r own (slice_index_or rows k d) (All-tail (AgreesOn (tables_in whole) (tables_in old)) r rows serves.agrees k d below);
    })
