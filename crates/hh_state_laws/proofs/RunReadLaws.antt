-- What is read of the runs of a state from the tables that represent it.
use Rattle.std.proofs.Common.{◌≡◌, ℕ, ◌≤◌, ◌<◌, List, [], ◌∷◌, ◌++◌, map, refl, sym, ap, subst, ◌∙◌, Bool, true, false, cond, Option, Some, None, arith}
use Rattle.std.specs.Prelude.{ℤ, ◌==◌, ◌||◌, ◌≢◌, filter, option_map}
use Rattle.std.specs.Cmp.{nat_cmp_total}
use Rattle.std.specs.List.{AllByRecursion, list_any}
use Rattle.std.specs.Option.{option_or}
use Rattle.std.specs.Ordering.{eq_by_cmp, is_eq, nat_cmp, ordering_then}
use Rattle.std.proofs.lemmas.Bool.{eqb-true, ltb-false}
use Rattle.std.proofs.lemmas.Cmp.{tied_itself}
use Rattle.std.proofs.lemmas.List.{append-nil}
use Rattle.std.proofs.lemmas.List.Elements.{filter-append}
use Rattle.hh_tables.specs.Tables.{in_key_order}
use Rattle.hh_tables.proofs.TableLaws.{false_is_not_true, find-in_key_order}
use Rattle.hh_time.specs.Days.{Midnights}
use Rattle.hh_names.specs.Faults.{first_met, plain_fault}
use Rattle.hh_rules.specs.Lateness.{Timetable}
use Rattle.hh_runs.specs.declared.run_kind.RunKind.{RunKind}
use Rattle.hh_runs.specs.declared.summary.Summary.{Summary}
use Rattle.hh_runs.specs.NextRun.{is_earlier_kind, order_refusals}
use Rattle.hh_runs.specs.RunKinds.{run_kind_cmp, run_kind_number}
use Rattle.hh_runs.specs.declared.run_key.RunKey.{RunKey}
use Rattle.hh_states.specs.Content.{all_summaries, runs_with_former, tables_of}
use Rattle.hh_states.specs.Reads.{runs_in}
use Rattle.hh_states.specs.RunReads.{HoldsRuns, HoldsSummaries}
use Rattle.hh_states.specs.Runs.{Run, latest_run, run_key_cmp, runs_of_date, summary_after, with_former}
use Rattle.hh_states.specs.States.{State}
use Rattle.hh_states.specs.Steps.{IsReached, at_first, by_load, by_run, kinds_on, new_run, run_fault, timetable_at}
use Rattle.hh_states.proofs.KeyLaws.{exact_run_keys, run_key_total}
use Rattle.hh_state_laws.proofs.ApartLaws.{NoneAlike, all-filter, all-weaken, distinct-append, distinct-map}
use Rattle.hh_state_laws.proofs.RisingLaws.{Rises, all-both, distinct-before-map, filter-passes, filter-map, filter_map-if, is_not_below, less_number, map-map, read_as_they_came, second_below}
use Rattle.hh_state_laws.proofs.RunLaws.{others}

-- the summary of a run in the tables is the summary of that run
pub holds_summaries : HoldsSummaries
holds_summaries midnight s key = find-in_key_order run_key_total (all_summaries (timetable_at midnight s) s) key

-- if neither of two options has a value, the first has none
none_at_first : {X : Type 0} (o rest : Option X) → option_or o rest ≡ None → o ≡ None
none_at_first None rest none = refl
none_at_first (Some x) rest none = cc

-- if a map gives no value, there was no value
none_mapped : {X Y : Type 0} (f : X → Y) (o : Option X) → option_map f o ≡ None → o ≡ None
none_mapped f None none = refl
none_mapped f (Some x) none = cc

-- if no condition is met, the first is not met
first_not_met : {X : Type 0} (b : Bool) (x : X) (rest : Option X) → cond b (Some x) rest ≡ None → b ≡ false
first_not_met true x rest none = cc
first_not_met false x rest none = refl

-- if neither of two tests holds, each fails
neither : (a b : Bool) → (a || b) ≡ false → (a ≡ false) × (b ≡ false)
neither true b h = cc
neither false b h = (refl, h)

-- if a test holds for no element after a map, it fails for each mapped element
none_passes : {X Y : Type 0} (test : Y → Bool) (f : X → Y) (xs : List X) → list_any test (map f xs) ≡ false → AllByRecursion (λ x. test (f x) ≡ false) xs
none_passes test f [] h = tt
none_passes test f (x ∷ xs) h = let parts = neither (test (f x)) (list_any test (map f xs)) h in (parts.0, none_passes test f xs parts.1)

-- a run that may be made comes after no run of a later kind
not_behind : (midnight : Midnights) (s : State) (moment : ℤ) (key : RunKey) → run_fault midnight s moment key ≡ None
    → AllByRecursion (λ r. is_earlier_kind key.kind r.key.kind ≡ false) (runs_of_date key.date s.runs)
not_behind midnight s moment key none =
    none_passes (is_earlier_kind key.kind) (λ (r : Run). r.key.kind) (runs_of_date key.date s.runs)
    (first_not_met _ _ _ (none_mapped plain_fault (first_met (order_refusals (kinds_on s key.date) key.kind)) (none_at_first _ _ none)))

-- of two runs of a date with different keys, the one whose kind is not later comes before
comes_before : (x y : RunKey) → x.date ≡ y.date → eq_by_cmp run_key_cmp y x ≡ false → is_earlier_kind y.kind x.kind ≡ false → is_not_below run_key_cmp x y ≡ false
comes_before x y same apart not_earlier =
    let most : run_kind_number x.kind ≤ run_kind_number y.kind = ltb-false (run_kind_number y.kind) (run_kind_number x.kind) not_earlier in
    second_below (nat_cmp x.date y.date) (run_kind_cmp x.kind y.kind) (ap (nat_cmp x.date) (sym same) ∙ tied_itself nat_cmp_total x.date)
    (less_number (run_kind_number x.kind) (run_kind_number y.kind) (below most))
  where
    -- keys of the same date whose kinds have the same number are equal
    ties : run_kind_number x.kind ≡ run_kind_number y.kind → eq_by_cmp run_key_cmp y x ≡ true
    ties e =
        ap is_eq ((λ i. ordering_then (nat_cmp y.date (same i)) (nat_cmp (run_kind_number y.kind) (e i)))
        ∙ (λ i. ordering_then (tied_itself nat_cmp_total y.date i) (tied_itself nat_cmp_total (run_kind_number y.kind) i)))

    -- so the numbers of their kinds differ
    different : run_kind_number x.kind ≢ run_kind_number y.kind
    different e = false_is_not_true (sym apart ∙ ties e)

    -- a number that is at most another and differs from it is less
    below : run_kind_number x.kind ≤ run_kind_number y.kind → run_kind_number x.kind < run_kind_number y.kind
    below most = let ne : run_kind_number x.kind ≢ run_kind_number y.kind = different in omega arith

-- in each reached state the runs of a date rise by their keys, because each was made after those of earlier kinds
pub runs_rise : (midnight : Midnights) (s : State) (date : ℕ) → IsReached midnight s → Rises run_key_cmp (λ (r : Run). r.key) (runs_of_date date s.runs)
runs_rise midnight s date (at_first settings fine) = tt
runs_rise midnight s date (by_load t load reached can) = runs_rise midnight t date reached
runs_rise midnight s date (by_run t moment key reached can) =
    let former : List Run = runs_of_date date t.runs in
    let rise = runs_rise midnight t date reached in
    subst (Rises run_key_cmp (λ (r : Run). r.key)) (sym (filter-append (λ (r : Run). r.key.date == date) t.runs (new_run t key ∷ [])))
    (elim (key.date == date) as (λ b. (key.date == date) ≡ b → Rises run_key_cmp (λ (r : Run). r.key) (former ++ cond b (new_run t key ∷ []) [])) [
      | true ↦ λ is.
          let same : key.date ≡ date = eqb-true key.date date is in
          distinct-append (λ (x y : Run). is_not_below run_key_cmp x.key y.key) former (new_run t key ∷ []) rise (tt, tt)
          (all-weaken (λ r. ((r.key.date == date) ≡ true) × ((eq_by_cmp run_key_cmp key r.key ≡ false) × (is_earlier_kind key.kind r.key.kind ≡ false)))
          (λ r. AllByRecursion (λ (y : Run). is_not_below run_key_cmp r.key y.key ≡ false) (new_run t key ∷ []))
          (λ r h. (comes_before r.key key (eqb-true r.key.date date h.0 ∙ sym same) h.1.0 h.1.1, tt))
          former
          (all-both (λ r. (r.key.date == date) ≡ true) (λ r. (eq_by_cmp run_key_cmp key r.key ≡ false) × (is_earlier_kind key.kind r.key.kind ≡ false)) former
          (filter-passes (λ (r : Run). r.key.date == date) t.runs)
          (all-both (λ r. eq_by_cmp run_key_cmp key r.key ≡ false) (λ r. is_earlier_kind key.kind r.key.kind ≡ false) former
          (all-filter (λ r. eq_by_cmp run_key_cmp key r.key ≡ false) (λ (r : Run). r.key.date == date) t.runs (others midnight t key can.0))
          (subst (λ d. AllByRecursion (λ r. is_earlier_kind key.kind r.key.kind ≡ false) (runs_of_date d t.runs)) same (not_behind midnight t moment key can.1)))))
      | false ↦ λ is. subst (Rises run_key_cmp (λ (r : Run). r.key)) (sym (append-nil former)) rise
    ] refl)

module _ (midnight : Midnights) (s : State) (date : ℕ) where
  -- the timetable: local midnights, and when notifications close
  abbrev timetable : Timetable
  timetable = timetable_at midnight s

  -- a run paired with its former, as its key and its summary
  abbrev entry : Option Run × Run → RunKey × Summary
  entry r = (r.1.key, summary_after timetable s.history r.0 r.1)

  -- the kind and summary of a run, from its key and summary
  abbrev shown : RunKey × Summary → RunKind × Summary
  shown e = (e.0.kind, e.1)

  -- whether a run is of the date
  abbrev of_date : RunKey → Bool
  of_date key = key.date == date

  -- the entries of the date are those of the date's runs, in their order
  keys_shown : (earlier runs : List Run) → map (λ e. e.0) (filter (λ e. of_date e.0) (map entry (with_former earlier runs))) ≡ map (λ r. r.key) (runs_of_date date runs)
  keys_shown earlier [] = refl
  keys_shown earlier (r ∷ runs) =
      let rest : List (RunKey × Summary) = filter (λ e. of_date e.0) (map entry (with_former (earlier ++ r ∷ []) runs)) in
      elim (of_date r.key) as (λ b. map (λ e. e.0) (cond b (entry (latest_run r.key.date earlier, r) ∷ rest) rest) ≡ map (λ r. r.key) (cond b (r ∷ runs_of_date date runs) (runs_of_date date runs))) [
        | true ↦ ap (λ keys. r.key ∷ keys) (keys_shown (earlier ++ r ∷ []) runs)
        | false ↦ keys_shown (earlier ++ r ∷ []) runs
      ]

  module _ (reached : IsReached midnight s) where
    -- they rise by their keys
    entries_rise : Rises run_key_cmp (λ e. e.0) (filter (λ e. of_date e.0) (all_summaries timetable s))
    entries_rise =
        distinct-before-map (is_not_below run_key_cmp) (λ e. e.0) (filter (λ e. of_date e.0) (all_summaries timetable s))
        (subst (NoneAlike (is_not_below run_key_cmp)) (sym (keys_shown [] s.runs))
        (distinct-map (is_not_below run_key_cmp) (λ (r : Run). r.key) (runs_of_date date s.runs) (runs_rise midnight s date reached)))

    -- so they are read in the order in which the runs were made
    runs_read : runs_in (tables_of midnight s) date ≡ map shown (filter (λ e. of_date e.0) (all_summaries timetable s))
    runs_read =
        filter_map-if (λ e. of_date e.0) shown (in_key_order run_key_cmp (all_summaries timetable s))
        ∙ ap (map shown) (read_as_they_came run_key_total exact_run_keys of_date (all_summaries timetable s) entries_rise)

-- the runs of a date, each by its kind with its summary, in the order in which they were made
abbrev pub summaries_on : Timetable → State → ℕ → List (RunKind × Summary)
summaries_on timetable s date =
    map (λ r. (r.1.key.kind, summary_after timetable s.history r.0 r.1))
    (filter (λ r. r.1.key.date == date) (runs_with_former s))

-- the runs of a date in the tables are the date's runs with their summaries
pub holds_runs_of_dates : (midnight : Midnights) (s : State) (date : ℕ) → IsReached midnight s
    → runs_in (tables_of midnight s) date ≡ summaries_on (timetable_at midnight s) s date
holds_runs_of_dates midnight s date reached =
    let summarized : Option Run × Run → RunKey × Summary = entry midnight s date in
    runs_read midnight s date reached
    ∙ ap (map (shown midnight s date)) (filter-map (λ (e : RunKey × Summary). e.0.date == date) summarized (runs_with_former s))
    ∙ map-map (shown midnight s date) summarized (filter (λ r. r.1.key.date == date) (runs_with_former s))

-- the kinds of the runs of a date in the tables are those of the date's runs
pub holds_runs : HoldsRuns
holds_runs midnight s date reached =
    let entries : List (RunKey × Summary) = filter (λ e. e.0.date == date) (all_summaries (timetable_at midnight s) s) in
    ap (map (λ r. r.0)) (runs_read midnight s date reached)
    ∙ map-map (λ (r : RunKind × Summary). r.0) (λ (e : RunKey × Summary). (e.0.kind, e.1)) entries
    ∙ sym (map-map (λ (key : RunKey). key.kind) (λ (e : RunKey × Summary). e.0) entries)
    ∙ ap (map (λ (key : RunKey). key.kind)) (keys_shown midnight s date [] s.runs)
    ∙ map-map (λ (key : RunKey). key.kind) (λ (r : Run). r.key) (runs_of_date date s.runs)
