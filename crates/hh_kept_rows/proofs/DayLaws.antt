-- What a Settlement Day is settled from, found by going through the tables.
use Rattle.std.proofs.Common.{◌≡◌, ℕ, zero, suc, ◌+◌, ◌<◌, List, [], ◌∷◌, ◌++◌, map, length, take, get_or, refl, sym, ap, ◌∙◌, Bool, true, false, cond, Some, None, arith}
use Rattle.std.specs.Prelude.{ℤ, ◌&&◌, ◌==◌, All, Option, filter, filter_map, find, option_map, unwrap_or}
use Rattle.std.specs.FinMap.{find as entry_at}
use Rattle.std.specs.List.{AllByRecursion, cons_option, flat_map}
use Rattle.std.specs.Option.{option_or}
use Rattle.std.specs.Ordering.{eq_by_cmp}
use Rattle.std.proofs.lemmas.List.{take_more}
use Rattle.std.proofs.lemmas.List.Concat.{flat_map-append}
use Rattle.std.proofs.lemmas.List.Elements.{All-from_recursion, All-map}
use Rattle.hh_names.specs.declared.account.Account.{Account}
use Rattle.hh_names.specs.declared.values.Counterparties.{Counterparties}
use Rattle.hh_names.specs.Accounts.{bytes_cmp}
use Rattle.hh_rows.specs.Keys.{settlement_period_cmp}
use Rattle.hh_rows.specs.declared.keys.ContractKey.{ContractKey}
use Rattle.hh_rows.specs.declared.keys.UnitPeriod.{UnitPeriod}
use Rattle.hh_rows.specs.declared.rows.ContractRow.{ContractRow}
use Rattle.hh_rows.specs.declared.rows.UnitRegistration.{UnitRegistration}
use Rattle.hh_rows.specs.declared.settlement_period.SettlementPeriod.{SettlementPeriod}
use Rattle.hh_registrations.specs.Registrations.{registered_lead_on}
use Rattle.hh_rules.specs.History.{Registered}
use Rattle.hh_rules.specs.Leads.{lead_on, registered_units}
use Rattle.hh_calc.specs.Terms.{unit_data}
use Rattle.hh_states.specs.DaySettlement.{from_one_to, periods_on}
use Rattle.hh_states.specs.PeriodSettlement.{reading_of, row_in_force, rows_in_force, subsidiaries_of, unit_at}
use Rattle.hh_kept_rows.specs.steps.DayRolls.{AreLedOn, led_on, row_on}
use Rattle.hh_kept_rows.specs.steps.KeptContracts.{is_in_period}
use Rattle.hh_kept_rows.proofs.ContractLaws.{same_period}

-- a search that goes on with the next element of a list
module _ {X : Type 0} (test : X → Bool) where
  pub find-append : (xs ys : List X) → find test (xs ++ ys) ≡ option_or (find test xs) (find test ys)
  find-append [] ys = refl
  find-append (x ∷ xs) ys = elim (test x) as (λ b. cond b (Some x) (find test (xs ++ ys)) ≡ option_or (cond b (Some x) (find test xs)) (find test ys)) [
    | true ↦ refl
    | false ↦ find-append xs ys
  ]

  -- if no element so far passes, and the next doesn't, none passes up to it
  pub not_yet : (xs : List X) (i : ℕ) (x : X) → i < length xs → x ≡ get_or xs i x → find test (take i xs) ≡ None → test x ≡ false → find test (take (i + 1) xs) ≡ None
  not_yet xs i x inside is so_far fails =
      ap (find test) (take_more xs i x inside ∙ ap (λ y. take i xs ++ y ∷ []) (sym is))
      ∙ find-append (take i xs) (x ∷ [])
      ∙ (λ j. option_or (so_far j) (cond (fails j) (Some x) None))

  -- if no element so far passes, but the next does, the next is found
  pub now_found : (xs : List X) (i : ℕ) (x : X) → i < length xs → x ≡ get_or xs i x → find test (take i xs) ≡ None → test x ≡ true → find test xs ≡ Some x
  now_found [] i x inside is so_far passes = absurd (nothing_below i inside)
    where
      nothing_below : (i : ℕ) → i < 0 → ⊥
      nothing_below i h = omega (arith, h)
  now_found (y ∷ xs) zero x inside is so_far passes = ap (λ b. cond b (Some y) (find test xs)) (ap test (sym is) ∙ passes) ∙ ap Some (sym is)
  now_found (y ∷ xs) (suc i) x inside is so_far passes =
      elim (test y) as (λ b. test y ≡ b → cond b (Some y) (find test (take i xs)) ≡ None → cond b (Some y) (find test xs) ≡ Some x) [
        | true ↦ λ t found. absurd (some_is_not_none y found)
        | false ↦ λ t rest. now_found xs i x (omega (arith, inside)) is rest passes
      ] refl so_far
    where
      some_is_not_none : (y : X) → Some y ≡ None → ⊥
      some_is_not_none y e = cc

-- a search over a mapped list
pub find-map : {X Y : Type 0} (test : Y → Bool) (f : X → Y) (xs : List X) → find test (map f xs) ≡ option_map f (find (λ x. test (f x)) xs)
find-map test f [] = refl
find-map test f (x ∷ xs) = elim (test (f x)) as (λ b. cond b (Some (f x)) (find test (map f xs)) ≡ option_map f (cond b (Some x) (find (λ y. test (f y)) xs))) [
  | true ↦ refl
  | false ↦ find-map test f xs
]

-- the same over lists of lists
module _ {X Y : Type 0} (test : Y → Bool) (parts : X → List Y) where
  pub not_yet_in : (xs : List X) (i : ℕ) (x : X) → i < length xs → x ≡ get_or xs i x → find test (flat_map parts (take i xs)) ≡ None → find test (parts x) ≡ None
      → find test (flat_map parts (take (i + 1) xs)) ≡ None
  not_yet_in xs i x inside is so_far none =
      ap (λ l. find test (flat_map parts l)) (take_more xs i x inside ∙ ap (λ y. take i xs ++ y ∷ []) (sym is))
      ∙ ap (find test) (flat_map-append parts (take i xs) (x ∷ []))
      ∙ find-append test (flat_map parts (take i xs)) (parts x ++ [])
      ∙ (λ j. option_or (so_far j) (find test (parts x ++ [])))
      ∙ find-append test (parts x) []
      ∙ ap (λ o. option_or o None) none

  pub now_found_in : (xs : List X) (i : ℕ) (x : X) (y : Y) → i < length xs → x ≡ get_or xs i x → find test (flat_map parts (take i xs)) ≡ None → find test (parts x) ≡ Some y
      → find test (flat_map parts xs) ≡ Some y
  now_found_in [] i x y inside is so_far found = absurd (nothing_below i inside)
    where
      nothing_below : (i : ℕ) → i < 0 → ⊥
      nothing_below i h = omega (arith, h)
  now_found_in (z ∷ xs) zero x y inside is so_far found =
      find-append test (parts z) (flat_map parts xs) ∙ ap (λ o. option_or o (find test (flat_map parts xs))) (ap (λ w. find test (parts w)) (sym is) ∙ found)
  now_found_in (z ∷ xs) (suc i) x y inside is so_far found =
      find-append test (parts z) (flat_map parts xs)
      ∙ elim (find test (parts z)) as (λ o. option_or o (find test (flat_map parts (take i xs))) ≡ None → option_or o (find test (flat_map parts xs)) ≡ Some y) [
        | None ↦ λ rest. now_found_in xs i x y (omega (arith, inside)) is rest found
        | Some w ↦ λ e. absurd (some_is_not_none w e)
      ] (sym (find-append test (parts z) (flat_map parts (take i xs))) ∙ so_far)
    where
      some_is_not_none : (w : Y) → Some w ≡ None → ⊥
      some_is_not_none w e = cc

-- if a date has a property, so have the dates of all its Settlement Periods
pub all_on_date : (P : ℕ → Type 0) (date count : ℕ) → P date → All (λ at. P at.date) (periods_on date count)
all_on_date P date count h = All-map (λ at. P at.date) (λ p. record { date = date; period = p }) (from_one_to count) (each (from_one_to count))
  where
    each : (ps : List ℕ) → All (λ p. P date) ps
    each ps = All-from_recursion (λ p. P date) ps (each_of ps)
      where
        each_of : (ps : List ℕ) → AllByRecursion (λ p. P date) ps
        each_of [] = tt
        each_of (p ∷ ps) = (h, each_of ps)

-- ---- units with their lead accounts of a date

-- a unit that has its lead account of a date is led by it there
led_again : (tables : Registered) (date : ℕ) (u : List ℕ × UnitRegistration) → lead_on tables u.0 (led_on tables date u).1 date ≡ lead_on tables u.0 u.1 date
led_again tables date u = by_lead (registered_lead_on (registered_units tables) u.0 date)
  where
    by_lead : (o : Option Account) → unwrap_or o (unwrap_or o u.1.lead) ≡ unwrap_or o u.1.lead
    by_lead None = refl
    by_lead (Some lead) = refl

pub are_led : (tables : Registered) (date : ℕ) (us : List (List ℕ × UnitRegistration)) → AreLedOn tables date (map (led_on tables date) us)
are_led tables date us = All-from_recursion (λ u. u.1.lead ≡ lead_on tables u.0 u.1 date) (map (led_on tables date) us) (each us)
  where
    each : (vs : List (List ℕ × UnitRegistration)) → AllByRecursion (λ u. u.1.lead ≡ lead_on tables u.0 u.1 date) (map (led_on tables date) vs)
    each [] = tt
    each (u ∷ vs) = (sym (led_again tables date u), each vs)

-- and it is settled from the same
pub units_led : (tables : Registered) (at : SettlementPeriod) (us : List (List ℕ × UnitRegistration))
    → filter_map (unit_at tables at) (map (led_on tables at.date) us) ≡ filter_map (unit_at tables at) us
units_led tables at [] = refl
units_led tables at (u ∷ us) = λ i.
    cons_option (option_map (λ reading. unit_data u.0 (led_again tables at.date u i) u.1.interconnector reading (subsidiaries_of tables (record { unit = u.0; at = at })))
    (reading_of tables (record { unit = u.0; at = at }))) (units_led tables at us i)

-- their Settlement Periods are those of the units
pub periods_led : (tables : Registered) (at : SettlementPeriod) (us : List (List ℕ × UnitRegistration))
    → map (λ e. record { unit = e.0; at = at }) (map (led_on tables at.date) us) ≡ map {B = UnitPeriod} (λ e. record { unit = e.0; at = at }) us
periods_led tables at [] = refl
periods_led tables at (u ∷ us) = ap (λ keys. record { unit = u.0; at = at } ∷ keys) (periods_led tables at us)

-- the rows of a Settlement Period are those of its date that have its number
module _ (tables : Registered) (at : SettlementPeriod) where
  abbrev is_here : ContractKey × ℤ → Bool
  is_here e = eq_by_cmp settlement_period_cmp e.0.at at

  abbrev row_of : ContractKey × ℤ → Counterparties → ContractRow
  row_of e c = record { key = e.0; contract = record { counterparties = c; volume = e.1 } }

  at_period : (es : List (ContractKey × ℤ)) → filter (is_in_period at.period) (filter_map (row_on tables at.date) es) ≡ filter_map (row_in_force tables) (filter is_here es)
  at_period [] = refl
  at_period (e ∷ es) =
      let rest = at_period es in
      (elim (e.0.at.date == at.date) as (λ d. filter (is_in_period at.period) (cons_option (cond d (row_in_force tables e) None) (filter_map (row_on tables at.date) es))
      ≡ filter_map (row_in_force tables) (cond (d && (e.0.at.period == at.period)) (e ∷ filter is_here es) (filter is_here es))) [
        | true ↦ elim (e.0.at.period == at.period) as (λ q. (e.0.at.period == at.period) ≡ q
            → filter (is_in_period at.period) (cons_option (row_in_force tables e) (filter_map (row_on tables at.date) es))
            ≡ filter_map (row_in_force tables) (cond q (e ∷ filter is_here es) (filter is_here es))) [
              | true ↦ λ now. elim (entry_at bytes_cmp e.0.reference tables.references) as (λ o. filter (is_in_period at.period) (cons_option (option_map (row_of e) o) (filter_map (row_on tables at.date) es))
                  ≡ cons_option (option_map (row_of e) o) (filter_map (row_in_force tables) (filter is_here es))) [
                    | None ↦ rest
                    | Some c ↦ (λ i. cond (now i) (row_of e c ∷ rest i) (rest i))
                  ]
              | false ↦ λ not_now. elim (entry_at bytes_cmp e.0.reference tables.references) as (λ o. filter (is_in_period at.period) (cons_option (option_map (row_of e) o) (filter_map (row_on tables at.date) es))
                  ≡ filter_map (row_in_force tables) (filter is_here es)) [
                    | None ↦ rest
                    | Some c ↦ (λ i. cond (not_now i) (row_of e c ∷ rest i) (rest i))
                  ]
            ] refl
        | false ↦ rest
      ])
      ∙ ap (λ b. filter_map (row_in_force tables) (cond b (e ∷ filter is_here es) (filter is_here es))) (sym (same_period e.0.at at))

  pub rows_at : filter (is_in_period at.period) (filter_map (row_on tables at.date) tables.contracts) ≡ rows_in_force tables at
  rows_at = at_period tables.contracts
