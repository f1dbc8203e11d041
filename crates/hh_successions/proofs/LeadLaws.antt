-- The registrations that accepted rows make one after the other give each unit on each date the lead account that looking back finds.
use Rattle.std.proofs.Common.{◌≡◌, ◌+◌, ◌-◌, ◌<◌, ◌≤◌, ℕ, List, [], ◌∷◌, ◌++◌, Bool, true, false, cond, refl, sym, ap, subst, ◌∙◌, Option, Some, None, arith, inl, inr}
use Rattle.std.specs.Prelude.{◌⊎◌, ◌==◌, nat_le, nat_lt, filter, is_some, option_map, not, ◌&&◌, IsSome, T}
use Rattle.std.specs.Cmp.{eq_by_cmp_equiv}
use Rattle.std.specs.FinMap.{find, put, is_sorted}
use Rattle.std.specs.FinMap.Entries.{find-put, is_sorted-put}
use Rattle.std.specs.Ordering.{eq_by_cmp}
use Rattle.std.specs.Cmp.{unsigned_tied}
use Rattle.std.specs.declared.cmp.Ordering.TheVariants.{Less}
use Rattle.std.proofs.lemmas.Bool.{and_from, and_parts, eqb-true, eqb-false, le-leb, leb-false, leb-true, lt-ltb}
use Rattle.std.proofs.lemmas.Option.{same_Some}
use Rattle.hh_tables.specs.Ends.{last_of}
use Rattle.hh_tables.specs.Tables.{without}
use Rattle.hh_tables.proofs.FilterLaws.{filter-put}
use Rattle.hh_tables.proofs.LastLaws.{filter-without, greatest, last_of-append, none_pass}
use Rattle.hh_tables.proofs.TableLaws.{false_is_not_true}
use Rattle.hh_tables.proofs.WithoutLaws.{find-without, sorted-without}
use Rattle.hh_names.specs.Accounts.{bytes_cmp, is_same_account}
use Rattle.hh_names.proofs.AccountLaws.{bytes_total}
use Rattle.hh_rows.specs.DateRanges.{holds}
use Rattle.hh_rows.specs.Keys.{lead_key_cmp}
use Rattle.hh_rows.specs.declared.keys.LeadKey.{LeadKey}
use Rattle.hh_rows.specs.declared.rows.LeadTerm.{LeadTerm}
use Rattle.hh_rows.specs.declared.rows.UnitRegistration.{UnitRegistration}
use Rattle.hh_rows.proofs.KeyLaws.{exact_lead_keys, lead_key_total}
use Rattle.hh_registrations.specs.declared.changes.FormerLead.TheVariants as former
use Rattle.hh_registrations.specs.Registrations.{Lead, Leads, beside_former, former_lead, is_begun, is_of_unit, last_begun, last_registration, widened}
use Rattle.hh_registrations.proofs.KeyLaws.{at, begins_before, dates_apart, units_apart}
use Rattle.hh_registrations.proofs.UpToLaws.{one_unit}
use Rattle.hh_rules.proofs.HistoryLaws.{filter-append}
use Rattle.hh_successions.proofs.RowFacts.{Succeeds, Widens, earlier_is, earlier_left, earlier_right, holds_from, holds_parts, off_range}

-- the registration that a unit's row would make by itself
abbrev pub lead_key : List ℕ → UnitRegistration → LeadKey
lead_key unit new = record { unit = unit; from = new.range.from }

abbrev pub lead_term : UnitRegistration → LeadTerm
lead_term new = record { lead = new.lead; to = new.range.to }

-- the registrations after a further row of a unit
abbrev pub with_registration : List ℕ → UnitRegistration → Leads → Leads
with_registration unit new leads =
    put lead_key_cmp (lead_key unit new) (lead_term new) (beside_former (former_lead (last_registration leads unit) new) leads)

pub is_this : (unit : List ℕ) → eq_by_cmp bytes_cmp unit unit ≡ true
is_this unit = (eq_by_cmp_equiv bytes_total).refl unit

-- How a unit's registrations stand to what is registered of it: they begin with it, and the last has its lead account and its end; of
-- several the last begins no later than a day after that end.
pub record AreOf (leads : Leads) (unit : List ℕ) (known : UnitRegistration) : Type 0 where
  pub start : ℕ
  pub last : find lead_key_cmp (at unit start) leads ≡ Some (record { lead = known.lead; to = known.range.to })
  pub begins : known.range.from ≤ start
  pub ends : known.range.from < start → start ≤ known.range.to + 1
  pub within : (from : ℕ) → IsSome (find lead_key_cmp (at unit from) leads) → (known.range.from ≤ from) × (from ≤ start)

-- a table with the key of a unit's last registration
module _ (leads : Leads) (rising : T (is_sorted lead_key_cmp leads)) (unit : List ℕ) (start : ℕ) (term : LeadTerm)
    (last : find lead_key_cmp (at unit start) leads ≡ Some term) (most : (from : ℕ) → IsSome (find lead_key_cmp (at unit from) leads) → from ≤ start) where
  none_later : (q : LeadKey) → is_of_unit unit q ≡ true → IsSome (find lead_key_cmp q leads) → lead_key_cmp (at unit start) q ≡ Less → ⊥
  none_later q own there above =
      let same : q.unit ≡ unit = one_unit q.unit unit own in
      let low : q.from ≤ start = most q.from (subst (λ u. IsSome (find lead_key_cmp (at u q.from) leads)) same there) in
      let high : start < q.from = begins_before unit start q.from (subst (λ u. lead_key_cmp (at unit start) (at u q.from) ≡ Less) same above) in
      omega arith

  -- it is the unit's last registration
  pub last_is : last_registration leads unit ≡ Some (at unit start, term)
  last_is = greatest lead_key_total exact_lead_keys (is_of_unit unit) (at unit start) term leads rising last (is_this unit) none_later

  -- and the one on each date from its first on
  pub last_holds : (date : ℕ) → start ≤ date → last_begun leads unit date ≡ Some (at unit start, term)
  last_holds date begun =
      greatest lead_key_total exact_lead_keys (is_begun unit date) (at unit start) term leads rising last
      (and_from (is_of_unit unit (at unit start)) (nat_le start date) (is_this unit) (le-leb start date begun))
      (λ q own there above. none_later q (and_parts (is_of_unit unit q) (nat_le q.from date) own).0 there above)

-- a registration that begins after a date, or of another unit, is not begun on it
pub not_begun : (unit : List ℕ) (date from : ℕ) → date < from → is_begun unit date (at unit from) ≡ false
not_begun unit date from late =
    elim (nat_le from date) as (λ b. nat_le from date ≡ b → (is_of_unit unit (at unit from) && b) ≡ false) [
      | true ↦ λ is. (let low : from ≤ date = leb-true from date is in absurd (omega arith))
      | false ↦ λ is. elim (is_of_unit unit (at unit from)) as (λ b. (b && false) ≡ false) [ true ↦ refl | false ↦ refl ]
    ] refl

not_of : (unit other : List ℕ) (date from : ℕ) → eq_by_cmp bytes_cmp unit other ≡ false → is_begun unit date (at other from) ≡ false
not_of unit other date from apart = ap (λ b. b && nat_le from date) ((eq_by_cmp_equiv bytes_total).symm other unit ∙ apart)

module _ (leads : Leads) (rising : T (is_sorted lead_key_cmp leads)) where
  -- a registration that isn't begun changes nothing of the date
  pub unbegun : (unit : List ℕ) (date : ℕ) (key : LeadKey) (term : LeadTerm) → is_begun unit date key ≡ false → last_begun (put lead_key_cmp key term leads) unit date ≡ last_begun leads unit date
  unbegun unit date key term off =
      ap last_of (filter-put lead_key_total exact_lead_keys (is_begun unit date) key term leads rising
      ∙ ap (λ b. cond b (put lead_key_cmp key term (filter (λ e. is_begun unit date e.0) leads)) (filter (λ e. is_begun unit date e.0) leads)) off)

  pub unbegun_without : (unit : List ℕ) (date : ℕ) (key : LeadKey) → is_begun unit date key ≡ false → last_begun (without lead_key_cmp key leads) unit date ≡ last_begun leads unit date
  unbegun_without unit date key off = ap last_of (filter-without lead_key_total exact_lead_keys (is_begun unit date) key off leads)

not_equal : (a b : ℕ) → (a ≡ b → ⊥) → (a == b) ≡ false
not_equal a b differ = elim (a == b) as (λ t. (a == b) ≡ t → t ≡ false) [
  | true ↦ λ is. absurd (differ (eqb-true a b is))
  | false ↦ λ is. refl
] refl

-- what is found under a key after a row of the unit
module _ (unit : List ℕ) (from : ℕ) where
  found_new : (term : LeadTerm) (leads : Leads) → find lead_key_cmp (at unit from) (put lead_key_cmp (at unit from) term leads) ≡ Some term
  found_new term leads =
      find-put lead_key_cmp lead_key_total (at unit from) (at unit from) term leads
      ∙ ap (λ b. cond b (Some term) (find lead_key_cmp (at unit from) leads)) ((eq_by_cmp_equiv lead_key_total).refl (at unit from))

  found_else : (other : ℕ) (term : LeadTerm) (leads : Leads) → (from ≡ other → ⊥)
      → find lead_key_cmp (at unit from) (put lead_key_cmp (at unit other) term leads) ≡ find lead_key_cmp (at unit from) leads
  found_else other term leads differ =
      find-put lead_key_cmp lead_key_total (at unit from) (at unit other) term leads
      ∙ ap (λ b. cond b (Some term) (find lead_key_cmp (at unit from) leads)) (dates_apart (at unit from) (at unit other) (unsigned_tied from other ∙ not_equal from other differ))

  -- what stands there with one more registration is that one or stood there
  there_put : (other : ℕ) (term : LeadTerm) (leads : Leads) → IsSome (find lead_key_cmp (at unit from) (put lead_key_cmp (at unit other) term leads))
      → (from ≡ other) ⊎ ((from ≡ other → ⊥) × IsSome (find lead_key_cmp (at unit from) leads))
  there_put other term leads there = elim (from == other) as (λ b. (from == other) ≡ b → (from ≡ other) ⊎ ((from ≡ other → ⊥) × IsSome (find lead_key_cmp (at unit from) leads))) [
    | true ↦ λ is. inl (eqb-true from other is)
    | false ↦ λ is. (let differ : from ≡ other → ⊥ = eqb-false from other is in inr (differ, subst IsSome (found_else other term leads differ) there))
  ] refl

  -- what stands there without a registration isn't that one
  there_without : (other : ℕ) (leads : Leads) → IsSome (find lead_key_cmp (at unit from) (without lead_key_cmp (at unit other) leads))
      → (from ≡ other → ⊥) × IsSome (find lead_key_cmp (at unit from) leads)
  there_without other leads there =
      elim (eq_by_cmp lead_key_cmp (at unit other) (at unit from)) as (λ b. eq_by_cmp lead_key_cmp (at unit other) (at unit from) ≡ b
      → IsSome (cond (not b) (find lead_key_cmp (at unit from) leads) None) → (from ≡ other → ⊥) × IsSome (find lead_key_cmp (at unit from) leads)) [
        | true ↦ λ is none. absurd (false_is_not_true none)
        | false ↦ λ is some. (
          λ same. false_is_not_true (sym is ∙ ap (λ n. eq_by_cmp lead_key_cmp (at unit other) (at unit n)) same ∙ (eq_by_cmp_equiv lead_key_total).refl (at unit other)),
          some,
        )
      ] refl (subst IsSome (find-without lead_key_total (at unit from) (at unit other) leads) there)

-- registrations of other units than one are the same in two tables, and the new one rises
pub record SameElsewhere (unit : List ℕ) (old new : Leads) : Type 0 where
  pub rising : T (is_sorted lead_key_cmp new)
  pub found : (q : List ℕ) (from : ℕ) → eq_by_cmp bytes_cmp q unit ≡ false → find lead_key_cmp (at q from) new ≡ find lead_key_cmp (at q from) old
  pub on : (q : List ℕ) (date : ℕ) → eq_by_cmp bytes_cmp q unit ≡ false → last_begun new q date ≡ last_begun old q date

module _ (unit : List ℕ) (leads : Leads) (rising : T (is_sorted lead_key_cmp leads)) (from : ℕ) where
  put_elsewhere : (term : LeadTerm) → SameElsewhere unit leads (put lead_key_cmp (at unit from) term leads)
  put_elsewhere term = record {
    rising = is_sorted-put lead_key_cmp lead_key_total (at unit from) term leads rising;
    found = λ q date apart. find-put lead_key_cmp lead_key_total (at q date) (at unit from) term leads
        ∙ ap (λ b. cond b (Some term) (find lead_key_cmp (at q date) leads)) (units_apart (at q date) (at unit from) apart);
    on = λ q date apart. unbegun leads rising q date (at unit from) term (not_of q unit date from apart);
  }

  without_elsewhere : SameElsewhere unit leads (without lead_key_cmp (at unit from) leads)
  without_elsewhere = record {
    rising = sorted-without lead_key_total (at unit from) leads rising;
    found = λ q date apart. find-without lead_key_total (at q date) (at unit from) leads
        ∙ ap (λ b. cond (not b) (find lead_key_cmp (at q date) leads) None) ((eq_by_cmp_equiv lead_key_total).symm (at unit from) (at q date) ∙ units_apart (at q date) (at unit from) apart);
    on = λ q date apart. unbegun_without leads rising q date (at unit from) (not_of q unit date from apart);
  }

pub elsewhere_then : (unit : List ℕ) (a b c : Leads) → SameElsewhere unit a b → SameElsewhere unit b c → SameElsewhere unit a c
elsewhere_then unit a b c first second = record {
  rising = second.rising;
  found = λ q from apart. second.found q from apart ∙ first.found q from apart;
  on = λ q date apart. second.on q date apart ∙ first.on q date apart;
}

-- ---- rows of units, and what they have made

-- the rows of units, in the order of acceptance
abbrev pub UnitRows : Type 0
UnitRows = List (List ℕ × UnitRegistration)

-- the last of them that is of a unit and holds a date
abbrev pub row_on : UnitRows → List ℕ → ℕ → Option (List ℕ × UnitRegistration)
row_on rows unit date = last_of (filter (λ e. eq_by_cmp bytes_cmp unit e.0 && holds e.1.range date) rows)

pub row_on-append : (rows : UnitRows) (unit : List ℕ) (date : ℕ) (e : List ℕ × UnitRegistration)
    → row_on (rows ++ e ∷ []) unit date ≡ cond (eq_by_cmp bytes_cmp unit e.0 && holds e.1.range date) (Some e) (row_on rows unit date)
row_on-append rows unit date e =
    let test : List ℕ × UnitRegistration → Bool = λ x. eq_by_cmp bytes_cmp unit x.0 && holds x.1.range date in
    ap last_of (filter-append test rows e)
    ∙ elim (test e) as (λ b. last_of (cond b (filter test rows ++ e ∷ []) (filter test rows)) ≡ cond b (Some e) (last_of (filter test rows))) [
      | true ↦ last_of-append (filter test rows) e
      | false ↦ refl
    ]

-- a unit has a registration on a date that lasts until it or longer, with the lead account of its last row that holds the date
pub record IsLedOn (rows : UnitRows) (leads : Leads) (unit : List ℕ) (date : ℕ) : Type 0 where
  pub lead : Lead
  pub on : last_begun leads unit date ≡ Some lead
  pub by : option_map (λ e. e.1.lead) (row_on rows unit date) ≡ Some lead.1.lead
  pub until : date ≤ lead.1.to

-- so it is on each date of the unit, and no row of it holds another
pub record AreDaysLed (rows : UnitRows) (leads : Leads) (unit : List ℕ) (known : UnitRegistration) : Type 0 where
  pub held : (date : ℕ) → holds known.range date ≡ true → IsLedOn rows leads unit date
  pub off : (date : ℕ) → holds known.range date ≡ false → row_on rows unit date ≡ None

-- what is kept of a unit that is registered so, or not at all
abbrev pub IsKept : UnitRows → Leads → List ℕ → Option UnitRegistration → Type 0
IsKept rows leads unit None = ((from : ℕ) → find lead_key_cmp (at unit from) leads ≡ None) × ((date : ℕ) → row_on rows unit date ≡ None)
IsKept rows leads unit (Some known) = AreOf leads unit known × AreDaysLed rows leads unit known

-- a row of another unit leaves it
module _ (rows : UnitRows) (old new : Leads) (unit : List ℕ) (row : UnitRegistration) (same : SameElsewhere unit old new) (q : List ℕ) (apart : eq_by_cmp bytes_cmp q unit ≡ false) where
  same_row : (date : ℕ) → row_on (rows ++ (unit, row) ∷ []) q date ≡ row_on rows q date
  same_row date = row_on-append rows q date (unit, row) ∙ ap (λ b. cond (b && holds row.range date) (Some (unit, row)) (row_on rows q date)) apart

  pub others_kept : (o : Option UnitRegistration) → IsKept rows old q o → IsKept (rows ++ (unit, row) ∷ []) new q o
  others_kept None was = (λ from. same.found q from apart ∙ was.0 from, λ date. same_row date ∙ was.1 date)
  others_kept (Some known) was = (
    record {
      start = was.0.start;
      last = same.found q was.0.start apart ∙ was.0.last;
      begins = was.0.begins;
      ends = was.0.ends;
      within = λ from there. was.0.within from (subst IsSome (same.found q from apart) there);
    },
    record {
      held = λ date held. (let on = was.1.held date held in record {
        lead = on.lead;
        on = same.on q date apart ∙ on.on;
        by = ap (option_map (λ e. e.1.lead)) (same_row date) ∙ on.by;
        until = on.until;
      });
      off = λ date off. same_row date ∙ was.1.off date off;
    },
  )

-- a row of the unit itself
module _ (rows : UnitRows) (unit : List ℕ) (new : UnitRegistration) where
  own_row : (date : ℕ) → row_on (rows ++ (unit, new) ∷ []) unit date ≡ cond (holds new.range date) (Some (unit, new)) (row_on rows unit date)
  own_row date = row_on-append rows unit date (unit, new) ∙ ap (λ b. cond (b && holds new.range date) (Some (unit, new)) (row_on rows unit date)) (is_this unit)

  -- on its own dates its registration leads the unit, if that is the unit's last
  led_by_new : (leads : Leads) → T (is_sorted lead_key_cmp leads) → find lead_key_cmp (at unit new.range.from) leads ≡ Some (lead_term new)
      → ((from : ℕ) → IsSome (find lead_key_cmp (at unit from) leads) → from ≤ new.range.from) → (date : ℕ) → holds new.range date ≡ true → IsLedOn (rows ++ (unit, new) ∷ []) leads unit date
  led_by_new leads rising last most date held =
      let range = holds_parts new.range date held in
      record {
        lead = (lead_key unit new, lead_term new);
        on = last_holds leads rising unit new.range.from (lead_term new) last most date range.0;
        by = ap (option_map (λ e. e.1.lead)) (own_row date ∙ ap (λ b. cond b (Some (unit, new)) (row_on rows unit date)) held);
        until = range.1;
      }

  -- on a date off its own it leaves the last row that holds the date
  still_by : (date : ℕ) → holds new.range date ≡ false → row_on (rows ++ (unit, new) ∷ []) unit date ≡ row_on rows unit date
  still_by date off = own_row date ∙ ap (λ b. cond b (Some (unit, new)) (row_on rows unit date)) off

-- the first row of a unit
module _ (rows : UnitRows) (leads : Leads) (rising : T (is_sorted lead_key_cmp leads)) (unit : List ℕ) (new : UnitRegistration) (was : IsKept rows leads unit None) where
  abbrev first_leads : Leads
  first_leads = put lead_key_cmp (lead_key unit new) (lead_term new) leads

  first_alone : (from : ℕ) → IsSome (find lead_key_cmp (at unit from) first_leads) → from ≡ new.range.from
  first_alone from there = by_cases (there_put unit from new.range.from (lead_term new) leads there)
    where
      by_cases : (from ≡ new.range.from) ⊎ ((from ≡ new.range.from → ⊥) × IsSome (find lead_key_cmp (at unit from) leads)) → from ≡ new.range.from
      by_cases (inl same) = same
      by_cases (inr (differ, some)) = absurd (false_is_not_true (sym (ap is_some (was.0 from)) ∙ some))

  pub first_kept : IsKept (rows ++ (unit, new) ∷ []) first_leads unit (Some new)
  first_kept = (
    record {
      start = new.range.from;
      last = found_new unit new.range.from (lead_term new) leads;
      begins = omega arith;
      ends = λ below. absurd (omega arith);
      within = λ from there. (let same : from ≡ new.range.from = first_alone from there in (omega arith, omega arith));
    },
    record {
      held = led_by_new rows unit new first_leads (is_sorted-put lead_key_cmp lead_key_total (lead_key unit new) (lead_term new) leads rising)
          (found_new unit new.range.from (lead_term new) leads) (λ from there. (let same : from ≡ new.range.from = first_alone from there in omega arith));
      off = λ date off. still_by rows unit new date off ∙ was.1 date;
    },
  )

  pub first_is : with_registration unit new leads ≡ first_leads
  first_is = ap (λ (xs : Leads). put lead_key_cmp (lead_key unit new) (lead_term new) (beside_former (former_lead (last_of xs) new) leads))
      (none_pass lead_key_total exact_lead_keys (is_of_unit unit) leads (λ q of_unit. ap (λ u. find lead_key_cmp (at u q.from) leads) (one_unit q.unit unit of_unit) ∙ was.0 q.from))

  pub first_elsewhere : SameElsewhere unit leads first_leads
  first_elsewhere = put_elsewhere unit leads rising new.range.from (lead_term new)

-- a further row of a unit
module _ (rows : UnitRows) (leads : Leads) (rising : T (is_sorted lead_key_cmp leads)) (unit : List ℕ) (known new : UnitRegistration) (was : IsKept rows leads unit (Some known)) where
  abbrev own : AreOf leads unit known
  own = was.0

  abbrev start : ℕ
  start = own.start

  abbrev term : LeadTerm
  term = record { lead = known.lead; to = known.range.to }

  -- what is registered of the unit then
  abbrev then_known : UnitRegistration
  then_known = widened (Some known) new

  most : (from : ℕ) → IsSome (find lead_key_cmp (at unit from) leads) → from ≤ start
  most from there = (own.within from there).1

  pub last_known : last_registration leads unit ≡ Some (at unit start, term)
  last_known = last_is leads rising unit start term own.last most

  low_known : then_known.range.from ≤ known.range.from
  low_known = earlier_left known.range.from new.range.from

  low_new : then_known.range.from ≤ new.range.from
  low_new = earlier_right known.range.from new.range.from

  low_either : (n : ℕ) → then_known.range.from ≤ n → n < new.range.from → known.range.from ≤ n
  low_either n low below = by_cases (earlier_is known.range.from new.range.from)
    where
      by_cases : ((then_known.range.from ≡ known.range.from) × (known.range.from ≤ new.range.from)) ⊎ ((then_known.range.from ≡ new.range.from) × (new.range.from < known.range.from)) → known.range.from ≤ n
      by_cases (inl h) = let same : then_known.range.from ≡ known.range.from = h.0 in omega arith
      by_cases (inr h) = let same : then_known.range.from ≡ new.range.from = h.0 in absurd (omega arith)

  not_first : then_known.range.from < new.range.from → known.range.from < new.range.from
  not_first below = by_cases (earlier_is known.range.from new.range.from)
    where
      by_cases : ((then_known.range.from ≡ known.range.from) × (known.range.from ≤ new.range.from)) ⊎ ((then_known.range.from ≡ new.range.from) × (new.range.from < known.range.from)) → known.range.from < new.range.from
      by_cases (inl h) = let same : then_known.range.from ≡ known.range.from = h.0 in omega arith
      by_cases (inr h) = let same : then_known.range.from ≡ new.range.from = h.0 in absurd (omega arith)

  -- no row of the unit holds a date that the unit hasn't then
  still_off : known.range.to ≤ new.range.to → (date : ℕ) → holds then_known.range date ≡ false → row_on (rows ++ (unit, new) ∷ []) unit date ≡ None
  still_off high date off =
      still_by rows unit new date (elim (holds new.range date) as (λ b. holds new.range date ≡ b → b ≡ false) [
        | true ↦ λ is. (let range = holds_parts new.range date is in let low : new.range.from ≤ date = range.0 in let low_too = low_new in absurd (off_range then_known.range date off (omega arith) range.1))
        | false ↦ λ is. refl
      ] refl)
      ∙ was.1.off date (elim (holds known.range date) as (λ b. holds known.range date ≡ b → b ≡ false) [
        | true ↦ λ is. (let range = holds_parts known.range date is in let low : known.range.from ≤ date = range.0 in let top : date ≤ known.range.to = range.1 in let low_too = low_known in
            absurd (off_range then_known.range date off (omega arith) (omega arith)))
        | false ↦ λ is. refl
      ] refl)

  -- a date that the unit has then, and that isn't one of the row's, it had before, and the row begins after it
  had_before : (known.range.from < new.range.from → new.range.from ≤ known.range.to + 1) → (date : ℕ) → holds then_known.range date ≡ true → holds new.range date ≡ false
      → (date < new.range.from) × (holds known.range date ≡ true)
  had_before reaches date held off =
      let range = holds_parts then_known.range date held in
      let low : then_known.range.from ≤ date = range.0 in
      let top : date ≤ new.range.to = range.1 in
      let below : date < new.range.from = elim (nat_le new.range.from date) as (λ b. nat_le new.range.from date ≡ b → date < new.range.from) [
        | true ↦ λ is. absurd (off_range new.range date off (leb-true new.range.from date is) top)
        | false ↦ λ is. leb-false new.range.from date is
      ] refl in
      let low_too : known.range.from ≤ date = low_either date low below in
      let reach : new.range.from ≤ known.range.to + 1 = reaches (omega arith) in
      (below, holds_from known.range date low_too (omega arith))

  -- what is led before the row begins
  module _ (now : Leads) (now_rising : T (is_sorted lead_key_cmp now)) (now_last : find lead_key_cmp (at unit new.range.from) now ≡ Some (lead_term new))
      (now_most : (from : ℕ) → IsSome (find lead_key_cmp (at unit from) now) → from ≤ new.range.from)
      (reaches : known.range.from < new.range.from → new.range.from ≤ known.range.to + 1)
      (led_before : (date : ℕ) → date < new.range.from → IsLedOn rows leads unit date → (l : Lead) × (last_begun now unit date ≡ Some l) × (option_map (λ e. e.1.lead) (row_on rows unit date) ≡ Some l.1.lead) × (date ≤ l.1.to)) where
    days_led : (date : ℕ) → holds then_known.range date ≡ true → IsLedOn (rows ++ (unit, new) ∷ []) now unit date
    days_led date held = elim (holds new.range date) as (λ b. holds new.range date ≡ b → IsLedOn (rows ++ (unit, new) ∷ []) now unit date) [
      | true ↦ λ is. led_by_new rows unit new now now_rising now_last now_most date is
      | false ↦ λ is.
          let before = had_before reaches date held is in
          let l = led_before date before.0 (was.1.held date before.1) in
          record { lead = l.0; on = l.1; by = ap (option_map (λ e. e.1.lead)) (still_by rows unit new date is) ∙ l.2; until = l.3 }
    ] refl

  -- a widening
  module _ (w : Widens known start new) (same : known.lead ≡ new.lead) where
    abbrev widened_leads : Leads
    widened_leads = put lead_key_cmp (lead_key unit new) (lead_term new) (without lead_key_cmp (at unit start) leads)

    -- where the row begins after the unit, it begins with the last registration
    begins_with : known.range.from < new.range.from → new.range.from ≡ start
    begins_with below =
        let low : new.range.from ≤ start = w.low in
        let high : start ≤ new.range.from = w.keeps (omega arith) in
        omega arith

    widening_reaches : known.range.from < new.range.from → new.range.from ≤ known.range.to + 1
    widening_reaches below =
        let same_start : new.range.from ≡ start = begins_with below in
        let reach : start ≤ known.range.to + 1 = own.ends (omega arith) in
        omega arith

    widened_within : (from : ℕ) → IsSome (find lead_key_cmp (at unit from) widened_leads) → (then_known.range.from ≤ from) × (from ≤ new.range.from)
    widened_within from there = by_cases (there_put unit from new.range.from (lead_term new) (without lead_key_cmp (at unit start) leads) there)
      where
        by_cases : (from ≡ new.range.from) ⊎ ((from ≡ new.range.from → ⊥) × IsSome (find lead_key_cmp (at unit from) (without lead_key_cmp (at unit start) leads))) → (then_known.range.from ≤ from) × (from ≤ new.range.from)
        by_cases (inl is) = let low = low_new in (omega arith, omega arith)
        by_cases (inr (differ, some)) =
            let was_there = there_without unit from start leads some in
            let bounds = own.within from was_there.1 in
            let low : known.range.from ≤ from = bounds.0 in
            let high : from ≤ start = bounds.1 in
            let apart : from ≡ start → ⊥ = was_there.0 in
            let high_too : start ≤ new.range.from = w.keeps (omega arith) in
            let low_too = low_known in
            (omega arith, omega arith)

    widened_rising : T (is_sorted lead_key_cmp widened_leads)
    widened_rising = is_sorted-put lead_key_cmp lead_key_total (lead_key unit new) (lead_term new) (without lead_key_cmp (at unit start) leads) (sorted-without lead_key_total (at unit start) leads rising)

    widened_before : (date : ℕ) → date < new.range.from → IsLedOn rows leads unit date → (l : Lead) × (last_begun widened_leads unit date ≡ Some l) × (option_map (λ e. e.1.lead) (row_on rows unit date) ≡ Some l.1.lead) × (date ≤ l.1.to)
    widened_before date below before = (
      before.lead,
      unbegun (without lead_key_cmp (at unit start) leads) (sorted-without lead_key_total (at unit start) leads rising) unit date (lead_key unit new) (lead_term new) (not_begun unit date new.range.from below)
          ∙ unbegun_without leads rising unit date (at unit start) (not_begun unit date start (let low : new.range.from ≤ start = w.low in omega arith))
          ∙ before.on,
      before.by,
      before.until,
    )

    pub widening_kept : IsKept (rows ++ (unit, new) ∷ []) widened_leads unit (Some then_known)
    widening_kept = (
      record {
        start = new.range.from;
        last = found_new unit new.range.from (lead_term new) (without lead_key_cmp (at unit start) leads);
        begins = low_new;
        ends = λ below. (let reach : new.range.from ≤ known.range.to + 1 = widening_reaches (not_first below) in let high : known.range.to ≤ new.range.to = w.high in omega arith);
        within = widened_within;
      },
      record {
        held = days_led widened_leads widened_rising (found_new unit new.range.from (lead_term new) (without lead_key_cmp (at unit start) leads))
            (λ from there. (widened_within from there).1) widening_reaches widened_before;
        off = still_off w.high;
      },
    )

    pub widened_elsewhere : SameElsewhere unit leads widened_leads
    widened_elsewhere = elsewhere_then unit leads (without lead_key_cmp (at unit start) leads) widened_leads (without_elsewhere unit leads rising start)
        (put_elsewhere unit (without lead_key_cmp (at unit start) leads) (sorted-without lead_key_total (at unit start) leads rising) new.range.from (lead_term new))

    pub widened_is : is_same_account known.lead new.lead ≡ true → with_registration unit new leads ≡ widened_leads
    widened_is one = ap (λ o. put lead_key_cmp (lead_key unit new) (lead_term new) (beside_former (former_lead o new) leads)) last_known
        ∙ ap (λ b. put lead_key_cmp (lead_key unit new) (lead_term new) (beside_former (cond (not b && nat_lt start new.range.from) (former.Ended (at unit start) (record term { to = new.range.from - 1 })) (former.Replaced (at unit start))) leads)) one

  -- a succession
  module _ (w : Succeeds known start new) where
    abbrev ended : LeadTerm
    ended = record term { to = new.range.from - 1 }

    abbrev ended_leads : Leads
    ended_leads = put lead_key_cmp (at unit start) ended leads

    abbrev succeeded_leads : Leads
    succeeded_leads = put lead_key_cmp (lead_key unit new) (lead_term new) ended_leads

    ended_within : (from : ℕ) → IsSome (find lead_key_cmp (at unit from) ended_leads) → (known.range.from ≤ from) × (from ≤ start)
    ended_within from there = by_cases (there_put unit from start ended leads there)
      where
        by_cases : (from ≡ start) ⊎ ((from ≡ start → ⊥) × IsSome (find lead_key_cmp (at unit from) leads)) → (known.range.from ≤ from) × (from ≤ start)
        by_cases (inl is) = let low : known.range.from ≤ start = own.begins in (omega arith, omega arith)
        by_cases (inr (differ, some)) = own.within from some

    succeeded_within : (from : ℕ) → IsSome (find lead_key_cmp (at unit from) succeeded_leads) → (then_known.range.from ≤ from) × (from ≤ new.range.from)
    succeeded_within from there = by_cases (there_put unit from new.range.from (lead_term new) ended_leads there)
      where
        by_cases : (from ≡ new.range.from) ⊎ ((from ≡ new.range.from → ⊥) × IsSome (find lead_key_cmp (at unit from) ended_leads)) → (then_known.range.from ≤ from) × (from ≤ new.range.from)
        by_cases (inl is) = let low = low_new in (omega arith, omega arith)
        by_cases (inr (differ, some)) =
            let bounds = ended_within from some in
            let low : known.range.from ≤ from = bounds.0 in
            let high : from ≤ start = bounds.1 in
            let later : start < new.range.from = w.later in
            let low_too = low_known in
            (omega arith, omega arith)

    ended_rising : T (is_sorted lead_key_cmp ended_leads)
    ended_rising = is_sorted-put lead_key_cmp lead_key_total (at unit start) ended leads rising

    succeeded_before : (date : ℕ) → date < new.range.from → IsLedOn rows leads unit date → (l : Lead) × (last_begun succeeded_leads unit date ≡ Some l) × (option_map (λ e. e.1.lead) (row_on rows unit date) ≡ Some l.1.lead) × (date ≤ l.1.to)
    succeeded_before date below before =
        let still : last_begun succeeded_leads unit date ≡ last_begun ended_leads unit date =
        unbegun ended_leads ended_rising unit date (lead_key unit new) (lead_term new) (not_begun unit date new.range.from below) in
        elim (nat_le start date) as (λ b. nat_le start date ≡ b → (l : Lead) × (last_begun succeeded_leads unit date ≡ Some l) × (option_map (λ e. e.1.lead) (row_on rows unit date) ≡ Some l.1.lead) × (date ≤ l.1.to)) [
          | true ↦ λ is.
              let begun : start ≤ date = leb-true start date is in
              let one : before.lead ≡ (at unit start, term) = same_Some _ _ (sym before.on ∙ last_holds leads rising unit start term own.last most date begun) in (
                (at unit start, ended),
                still ∙ last_holds ended_leads ended_rising unit start ended (found_new unit start ended leads) (λ from there. (ended_within from there).1) date begun,
                before.by ∙ ap (λ (l : Lead). Some l.1.lead) one,
                omega arith,
              )
          | false ↦ λ is. (
            before.lead,
            still ∙ unbegun leads rising unit date (at unit start) ended (not_begun unit date start (leb-false start date is)) ∙ before.on,
            before.by,
            before.until,
          )
        ] refl

    pub succession_kept : IsKept (rows ++ (unit, new) ∷ []) succeeded_leads unit (Some then_known)
    succession_kept = (
      record {
        start = new.range.from;
        last = found_new unit new.range.from (lead_term new) ended_leads;
        begins = low_new;
        ends = λ below. (let reach : new.range.from ≤ known.range.to + 1 = w.adjoins in let high : known.range.to ≤ new.range.to = w.high in omega arith);
        within = succeeded_within;
      },
      record {
        held = days_led succeeded_leads (is_sorted-put lead_key_cmp lead_key_total (lead_key unit new) (lead_term new) ended_leads ended_rising)
            (found_new unit new.range.from (lead_term new) ended_leads) (λ from there. (succeeded_within from there).1) (λ below. w.adjoins) succeeded_before;
        off = still_off w.high;
      },
    )

    pub succeeded_elsewhere : SameElsewhere unit leads succeeded_leads
    succeeded_elsewhere = elsewhere_then unit leads ended_leads succeeded_leads (put_elsewhere unit leads rising start ended)
        (put_elsewhere unit ended_leads ended_rising new.range.from (lead_term new))

    pub succeeded_is : is_same_account known.lead new.lead ≡ false → with_registration unit new leads ≡ succeeded_leads
    succeeded_is other = ap (λ o. put lead_key_cmp (lead_key unit new) (lead_term new) (beside_former (former_lead o new) leads)) last_known
        ∙ ap (λ b. put lead_key_cmp (lead_key unit new) (lead_term new) (beside_former (cond (not b && nat_lt start new.range.from) (former.Ended (at unit start) ended) (former.Replaced (at unit start))) leads)) other
        ∙ ap (λ b. put lead_key_cmp (lead_key unit new) (lead_term new) (beside_former (cond b (former.Ended (at unit start) ended) (former.Replaced (at unit start))) leads)) (lt-ltb start new.range.from w.later)
