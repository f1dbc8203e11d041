-- No run lacked anything when it was ordered, so each unit is credited by its reading.
use Rattle.std.proofs.Common.{◌≡◌, ℕ, List, [], ◌∷◌, ◌++◌, length, refl, sym, subst, Bool, true, false, cond, Option, Some, None, take_all, arith}
use Rattle.std.specs.Prelude.{All, ℤ, filter_map, if◌then◌else◌, find, is_none, option_map}
use Rattle.std.specs.List.{AllByRecursion, cons_option, flat_map}
use Rattle.std.specs.Option.{option_or}
use Rattle.std.proofs.lemmas.List.Elements.{recursion_from_All}
use Rattle.std.proofs.lemmas.Option.{same_Some}
use Rattle.hh_tables.specs.Tables.{Table}
use Rattle.hh_tables.proofs.TableLaws.{false_is_not_true}
use Rattle.hh_time.specs.Days.{Midnights, is_over, period_count}
use Rattle.hh_names.specs.declared.fault.Fault.{Fault}
use Rattle.hh_names.specs.declared.fault.Refusal.TheVariants.{DayNotOver, MissingPrice, TooLarge}
use Rattle.hh_names.specs.declared.values.Reading.{Reading}
use Rattle.hh_names.specs.Faults.{first_met, plain_fault}
use Rattle.hh_rows.specs.declared.keys.UnitPeriod.{UnitPeriod}
use Rattle.hh_rows.specs.declared.rows.UnitRegistration.{UnitRegistration}
use Rattle.hh_rows.specs.declared.settlement_period.SettlementPeriod.{SettlementPeriod}
use Rattle.hh_rules.specs.History.{History, Registered, registered_in}
use Rattle.hh_rules.specs.Lateness.{Timetable}
use Rattle.hh_calc.specs.Formulas.{loss_adjusted}
use Rattle.hh_calc.specs.Terms.{UnitDataView}
use Rattle.hh_runs.specs.NextRun.{order_refusals}
use Rattle.hh_runs.specs.declared.run_key.RunKey.{RunKey}
use Rattle.hh_states.specs.declared.run_keys.CreditKey.{CreditKey}
use Rattle.hh_states.specs.Content.{tables_of}
use Rattle.hh_states.specs.DaySettlement.{missing_meter, missing_price, periods_on, too_large, unit_periods_at}
use Rattle.hh_states.specs.PeriodSettlement.{reading_of, terms_at, unit_with, units_on}
use Rattle.hh_states.specs.Runs.{Run, periods_of, seen_by}
use Rattle.hh_states.specs.States.{State}
use Rattle.hh_states.specs.Steps.{IsReached, at_first, by_load, by_run, first_there, kinds_on, missing_meter_fault, new_run, period_fault, registered_at, rows_coming, run_fault, timetable_at}
use Rattle.hh_states.specs.Sums.{EachUnitCredited, IsCreditedByReading, credited_from}
use Rattle.hh_state_laws.proofs.ApartLaws.{all-append, all-before-map, all-weaken}
use Rattle.hh_state_laws.proofs.CreditSumLaws.{credits_sum_exactly}
use Rattle.hh_state_laws.proofs.ReachLaws.{AreWithin, reached_within, seen_same}
use Rattle.hh_state_laws.proofs.ReadyLaws.{all_both}

-- if there is no first value, there is no value
none_there : {X : Type 0} (os : List (Option X)) → first_there os ≡ None → AllByRecursion (λ o. o ≡ None) os
none_there [] none = tt
none_there (o ∷ os) none = elim o as (λ x. option_or x (first_there os) ≡ None → (x ≡ None) × AllByRecursion (λ y. y ≡ None) os) [
  | Some x ↦ λ e. cc
  | None ↦ λ e. (refl, none_there os e)
] none

-- if a map gives no value, there was no value
nothing_made : {X Y : Type 0} (make : X → Y) (o : Option X) → option_map make o ≡ None → o ≡ None
nothing_made make None none = refl
nothing_made make (Some x) none = cc

-- if a search finds nothing, no element passes its test
pub none_passes : {X : Type 0} (test : X → Bool) (xs : List X) → find test xs ≡ None → AllByRecursion (λ x. test x ≡ false) xs
none_passes test [] none = tt
none_passes test (x ∷ xs) none = elim (test x) as (λ b. cond b (Some x) (find test xs) ≡ None → (b ≡ false) × AllByRecursion (λ y. test y ≡ false) xs) [
  | true ↦ λ e. cc
  | false ↦ λ e. (refl, none_passes test xs e)
] none

-- an option that is not None has a value
value_there : {X : Type 0} (o : Option X) → is_none o ≡ false → (x : X) × (o ≡ Some x)
value_there None there = absurd (false_is_not_true (sym there))
value_there (Some x) there = (x, refl)

module _ {X : Type 0} (P : X → Type 0) where
  -- if all elements of two lists have a property, so do all elements of each list
  all_parts : (xs ys : List X) → AllByRecursion P (xs ++ ys) → AllByRecursion P xs × AllByRecursion P ys
  all_parts [] ys h = (tt, h)
  all_parts (x ∷ xs) ys h = let rest = all_parts xs ys h.1 in ((h.0, rest.0), rest.1)

  -- if the elements of all blocks have a property, so do the elements of each block
  all_blocks : {Y : Type 0} (block : Y → List X) (ys : List Y) → AllByRecursion P (flat_map block ys) → AllByRecursion (λ y. AllByRecursion P (block y)) ys
  all_blocks block [] h = tt
  all_blocks block (y ∷ ys) h = let parts = all_parts (block y) (flat_map block ys) h in (parts.0, all_blocks block ys parts.1)

-- if all values made by a filter_map have a property, so has the value made of each element for which something is found
each_made : {X Y Z : Type 0} (see : X → Option Z) (make : X → Z → Y) (P : Y → Type 0) (xs : List X)
    → AllByRecursion P (filter_map (λ x. option_map (make x) (see x)) xs) → AllByRecursion (λ x. (z : Z) → see x ≡ Some z → P (make x z)) xs
each_made see make P [] h = tt
each_made {Y = Y} {Z = Z} see make P (x ∷ xs) h =
    let rest : List Y = filter_map (λ y. option_map (make y) (see y)) xs in
    let Wanted : Type 0 = AllByRecursion (λ y. (z : Z) → see y ≡ Some z → P (make y z)) xs in
    elim (see x) as (λ o. AllByRecursion P (cons_option (option_map (make x) o) rest) → ((z : Z) → o ≡ Some z → P (make x z)) × Wanted) [
      | None ↦ λ all. (λ z is. cc, each_made see make P xs all)
      | Some w ↦ λ all. (λ z is. subst (λ v. P (make x v)) (same_Some w z is) all.0, each_made see make P xs all.1)
    ] h

-- What is registered and in force has all that a run of these Settlement Periods needs: each of them has a price, each unit has a
-- reading in each of them, and none passes a limit of settlement.
pub record IsComplete (tables : Registered) (periods : List SettlementPeriod) : Type 0 where
  pub prices : missing_price tables periods ≡ None
  pub readings : missing_meter tables periods ≡ None
  pub limits : too_large tables periods ≡ None

-- if a run can be ordered, what is registered and in force lacks nothing for it
ordered_complete : (midnight : Midnights) (s : State) (moment : ℤ) (key : RunKey) → run_fault midnight s moment key ≡ None
    → IsComplete (registered_at midnight s) (periods_on key.date (period_count midnight key.date))
ordered_complete midnight s moment key none =
    let tables : Registered = registered_at midnight s in
    let periods : List SettlementPeriod = periods_on key.date (period_count midnight key.date) in
    let others : List (Option Fault) = option_map (period_fault MissingPrice) (missing_price tables periods)
    ∷ option_map missing_meter_fault (missing_meter tables periods)
    ∷ option_map (period_fault TooLarge) (too_large tables periods)
    ∷ [] in
    let all = none_there
    (option_map plain_fault (first_met (order_refusals (kinds_on s key.date) key.kind))
    ∷ (if is_over midnight key.date moment then None else Some (plain_fault DayNotOver))
    ∷ others) none in
    record {
      prices = nothing_made (period_fault MissingPrice) (missing_price tables periods) all.1.1.0;
      readings = nothing_made missing_meter_fault (missing_meter tables periods) all.1.1.1.0;
      limits = nothing_made (period_fault TooLarge) (too_large tables periods) all.1.1.1.1.0;
    }

-- later rows don't change what runs saw
still_complete : (midnight : Midnights) (timetable : Timetable) (history more : History) (runs : List Run) → AreWithin (length history) runs
    → AllByRecursion (λ r. IsComplete (seen_by timetable history r) (periods_of midnight r)) runs → AllByRecursion (λ r. IsComplete (seen_by timetable (history ++ more) r) (periods_of midnight r)) runs
still_complete midnight timetable history more [] within all = tt
still_complete midnight timetable history more (r ∷ runs) within all =
    (subst (λ saw. IsComplete saw (periods_of midnight r)) (sym (seen_same timetable history more r within.0)) all.0, still_complete midnight timetable history more runs within.1 all.1)

-- in each reached state each run lacked nothing when it was ordered
pub runs_complete : (midnight : Midnights) (s : State) → IsReached midnight s
    → AllByRecursion (λ r. IsComplete (seen_by (timetable_at midnight s) s.history r) (periods_of midnight r)) s.runs
runs_complete midnight s (at_first settings fine) = tt
runs_complete midnight s (by_load t load reached can) =
    still_complete midnight (timetable_at midnight t) t.history (rows_coming load) t.runs (reached_within midnight t reached) (runs_complete midnight t reached)
runs_complete midnight s (by_run t moment key reached can) =
    all-append (λ r. IsComplete (seen_by (timetable_at midnight t) t.history r) (periods_of midnight r)) t.runs (new_run t key ∷ []) (runs_complete midnight t reached) (
      subst (λ h. IsComplete (registered_in (timetable_at midnight t) h) (periods_on key.date (period_count midnight key.date)))
          (sym (take_all (length t.history) t.history (omega arith))) (ordered_complete midnight t moment key can.1),
      tt,
    )

module _ (tables : Registered) (credits : Table CreditKey ℤ) (run : RunKey) where
  -- what is credited from a unit in a Settlement Period is its loss-adjusted volume
  abbrev IsExact : SettlementPeriod → UnitDataView → Type 0
  IsExact at u = credited_from u.unit at.period run credits ≡ loss_adjusted u

  -- the reading of a unit in a Settlement Period, if there is one
  abbrev its_reading : SettlementPeriod → List ℕ × UnitRegistration → Option Reading
  its_reading at e = reading_of tables (record { unit = e.0; at = at })

  -- a unit with a reading is credited by it, if the credits are exact for each reading that the unit has
  one_unit : (at : SettlementPeriod) (e : List ℕ × UnitRegistration)
      → (is_none (its_reading at e) ≡ false) × ((reading : Reading) → its_reading at e ≡ Some reading → IsExact at (unit_with tables at e reading))
      → IsCreditedByReading tables credits run at e.0
  one_unit at e (there, exact) =
      let found = value_there (its_reading at e) there in
      record { reading = found.0; counting = found.1; exact = exact found.0 found.1 }

  -- this holds for each unit of a Settlement Period
  one_period : (at : SettlementPeriod)
      → AllByRecursion (λ key. is_none (reading_of tables key) ≡ false) (unit_periods_at tables at) × All (IsExact at) (terms_at tables at).units
      → AllByRecursion (λ e. IsCreditedByReading tables credits run at e.0) (units_on tables at.date)
  one_period at (there, exact) =
      let es : Table (List ℕ) UnitRegistration = units_on tables at.date in
      all-weaken (λ e. (is_none (its_reading at e) ≡ false) × ((reading : Reading) → its_reading at e ≡ Some reading → IsExact at (unit_with tables at e reading)))
      (λ e. IsCreditedByReading tables credits run at e.0) (one_unit at) es
      (all_both (λ e. is_none (its_reading at e) ≡ false) (λ e. (reading : Reading) → its_reading at e ≡ Some reading → IsExact at (unit_with tables at e reading)) es
      (all-before-map (λ (key : UnitPeriod). is_none (reading_of tables key) ≡ false) (λ (e : List ℕ × UnitRegistration). record { unit = e.0; at = at }) es there)
      (each_made (its_reading at) (unit_with tables at) (IsExact at) es (recursion_from_All (IsExact at) (terms_at tables at).units exact)))

  -- and for each unit in each of the Settlement Periods
  each_period : (periods : List SettlementPeriod) → missing_meter tables periods ≡ None → AllByRecursion (λ at. All (IsExact at) (terms_at tables at).units) periods
      → AllByRecursion (λ at. AllByRecursion (λ e. IsCreditedByReading tables credits run at e.0) (units_on tables at.date)) periods
  each_period periods none exact =
      all-weaken (λ at. AllByRecursion (λ key. is_none (reading_of tables key) ≡ false) (unit_periods_at tables at) × All (IsExact at) (terms_at tables at).units)
      (λ at. AllByRecursion (λ e. IsCreditedByReading tables credits run at e.0) (units_on tables at.date)) one_period periods
      (all_both (λ at. AllByRecursion (λ key. is_none (reading_of tables key) ≡ false) (unit_periods_at tables at)) (λ at. All (IsExact at) (terms_at tables at).units) periods
      (all_blocks (λ key. is_none (reading_of tables key) ≡ false) (unit_periods_at tables) periods
      (none_passes (λ key. is_none (reading_of tables key)) (flat_map (unit_periods_at tables) periods) none)) exact)

-- in the tables of a reached state each unit is credited by its reading, in each Settlement Period of each run
pub each_unit_credited : EachUnitCredited
each_unit_credited midnight s reached =
    let Exact : Run → Type 0 = λ r. AllByRecursion (λ at. All (IsExact (seen_by (timetable_at midnight s) s.history r) (tables_of midnight s).credits r.key at) (terms_at (seen_by (timetable_at midnight s) s.history r) at).units) (periods_of midnight r) in
    let Complete : Run → Type 0 = λ r. IsComplete (seen_by (timetable_at midnight s) s.history r) (periods_of midnight r) in
    all-weaken (λ r. Complete r × Exact r)
    (λ r. AllByRecursion (λ at. AllByRecursion (λ e. IsCreditedByReading (seen_by (timetable_at midnight s) s.history r) (tables_of midnight s).credits r.key at e.0)
    (units_on (seen_by (timetable_at midnight s) s.history r) at.date)) (periods_of midnight r))
    (λ r h. each_period (seen_by (timetable_at midnight s) s.history r) (tables_of midnight s).credits r.key (periods_of midnight r) h.0.readings h.1) s.runs
    (all_both Complete Exact s.runs (runs_complete midnight s reached) (credits_sum_exactly midnight s reached))
