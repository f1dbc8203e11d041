-- Days that are accounted for still are after a load, with what its rows in time and its successions touch.
use Rattle.std.proofs.Common.{◌≡◌, ℕ, List, [], ◌∷◌, ◌++◌, map, refl, sym, ap, subst, ◌∙◌, Bool, true, false, cond, Some}
use Rattle.std.specs.Prelude.{◌&&◌, ◌||◌, filter, filter_map, is_some, IsFalse, IsTrue}
use Rattle.std.specs.List.{AllByRecursion, flat_map}
use Rattle.std.proofs.lemmas.Bool.{or_left, or_right}
use Rattle.hh_tables.proofs.TableLaws.{false_is_not_true}
use Rattle.hh_time.specs.Days.{Midnights}
use Rattle.hh_names.specs.declared.account.Account.{Account}
use Rattle.hh_rows.specs.declared.settlement_period.SettlementPeriod.{SettlementPeriod}
use Rattle.hh_registrations.specs.Registrations.{succession_ranges}
use Rattle.hh_rules.specs.History.{Registered}
use Rattle.hh_calc.specs.Limits.{is_within_limits}
use Rattle.hh_calc.specs.Terms.{Settled}
use Rattle.hh_runs.specs.declared.run_key.RunKey.{RunKey}
use Rattle.hh_runs.specs.declared.summary.Summary.{Summary}
use Rattle.hh_states.specs.Changes.{LoadChangeView, effect_of_load, load_change}
use Rattle.hh_states.specs.Content.{Content, tables_of}
use Rattle.hh_states.specs.DaySettlement.{from_one_to, periods_on}
use Rattle.hh_states.specs.PeriodSettlement.{price_of, settled}
use Rattle.hh_states.specs.Steps.{CanLoad, IsReached, Load, after_load, registered_at, rows_coming, timetable_at}
use Rattle.hh_state_laws.proofs.AcceptedLaws.{rows_valued}
use Rattle.hh_state_laws.proofs.ApartLaws.{all-before-map, all-map, all-weaken}
use Rattle.hh_state_laws.proofs.ConsistentLaws.{reached_stands}
use Rattle.hh_state_laws.proofs.ReachLaws.{load_effect}
use Rattle.hh_states.specs.Beside.{are_days_accounted_for, is_among, is_accounted_for, is_same_period, is_still, latest_on, period_of_run, terms_for}
use Rattle.hh_states.specs.States.{State}
use Rattle.hh_beside.specs.Keeping.{is_held, touched_by, touched_by_successions}
use Rattle.hh_beside.proofs.DayAccountedFor.{among_first, among_second, days_accounted_for, each_among, holds_of_latest, latest_accounted_for, latest_of_date}
use Rattle.hh_beside.proofs.DayRows.{IsPeriodSame, rows_stay, same_terms}

pub untouched_stays : (midnight : Midnights) (s : State) (load : Load) (at : SettlementPeriod) → IsReached midnight s
    → CanLoad midnight s load → IsFalse (is_among (filter_map touched_by (load_change midnight s load).rows) at)
    → IsFalse (is_held (succession_ranges (load_change midnight s load).rows (registered_at midnight s).leads) at.date)
    → (price_of (registered_at midnight (after_load midnight s load)) at ≡ price_of (registered_at midnight s) at)
    × ((accounts : List Account) → terms_for accounts (registered_at midnight (after_load midnight s load)) at
    ≡ terms_for accounts (registered_at midnight s) at)
untouched_stays midnight s load at reached can untouched off =
    let old : Registered = registered_at midnight s in
    let new : Registered = registered_at midnight (after_load midnight s load) in
    let stays : IsPeriodSame at old new =
    rows_stay at (timetable_at midnight s) (rows_coming load) s.history 1 (rows_valued load.key.kind load.moment load.rows can.file.each) can.accepted (reached_stands midnight s reached) untouched off in
    (stays.price, same_terms at old new stays)

-- a period stays as it would be settled if its price and what it would be settled from stay the same
still_same : (at : SettlementPeriod) (old new : Registered) → price_of new at ≡ price_of old at → ((accounts : List Account) → terms_for accounts new at ≡ terms_for accounts old at)
    → (s : Settled) → is_still new at s ≡ is_still old at s
still_same at old new price terms s = λ i.
    (is_some (price i) && is_within_limits (terms (map (λ r. r.account) s.accounts) i)) && is_same_period (settled (terms (map (λ r. r.account) s.accounts) i)) s

-- if what was touched is still touched, and what held still holds, then one of the two still holds if one did
pub touched_or_still : (touched more was is : Bool) → (touched ≡ true → more ≡ true) → (was ≡ true → is ≡ true) → (touched || was) ≡ true → (more || is) ≡ true
touched_or_still true more was is still_touched still_so accounted = or_left more is (still_touched refl)
touched_or_still false more was is still_touched still_so accounted = or_right more is (still_so accounted)

-- the blocks of elements that pass a test are among those of all that pass
passing_among : {X : Type 0} (block : X → List SettlementPeriod) (test : X → Bool) (xs : List X)
    → AllByRecursion (λ x. test x ≡ true → AllByRecursion (λ at. is_among (flat_map block (filter test xs)) at ≡ true) (block x)) xs
passing_among block test [] = tt
passing_among block test (x ∷ xs) =
    elim (test x) as (λ b. test x ≡ b → AllByRecursion (λ y. test y ≡ true → AllByRecursion (λ at. is_among (flat_map block (cond b (x ∷ filter test xs) (filter test xs))) at ≡ true) (block y)) (x ∷ xs)) [
      | true ↦ λ passes. (
        λ own. all-weaken (λ at. is_among (block x) at ≡ true) (λ at. is_among (block x ++ flat_map block (filter test xs)) at ≡ true)
            (among_first (block x) (flat_map block (filter test xs))) (block x) (each_among (block x)),
        all-weaken (λ y. test y ≡ true → AllByRecursion (λ at. is_among (flat_map block (filter test xs)) at ≡ true) (block y))
            (λ y. test y ≡ true → AllByRecursion (λ at. is_among (block x ++ flat_map block (filter test xs)) at ≡ true) (block y))
            (λ y is own. all-weaken (λ at. is_among (flat_map block (filter test xs)) at ≡ true) (λ at. is_among (block x ++ flat_map block (filter test xs)) at ≡ true)
            (among_second (block x) (flat_map block (filter test xs))) (block y) (is own)) xs (passing_among block test xs),
      )
      | false ↦ λ fails. (λ own. absurd (false_is_not_true (sym fails ∙ own)), passing_among block test xs)
    ] refl

module _ (midnight : Midnights) (s : State) (load : Load) (touched : List SettlementPeriod) (reached : IsReached midnight s) (can : CanLoad midnight s load) where
  abbrev content : Content
  content = tables_of midnight s

  abbrev change : LoadChangeView
  change = load_change midnight s load

  abbrev after : Content
  after = effect_of_load change content

  abbrev by_rows : List SettlementPeriod
  by_rows = filter_map touched_by change.rows

  abbrev by_successions : List SettlementPeriod
  by_successions = touched_by_successions change.rows content.registered.leads content.runs

  abbrev all_touched : List SettlementPeriod
  all_touched = by_rows ++ (by_successions ++ touched)

  effect : tables_of midnight (after_load midnight s load) ≡ after
  effect = load_effect midnight s load reached can

  -- on a date that no succession holds, a period that is accounted for still is
  stays : (run : RunKey) (at : SettlementPeriod) → is_held (succession_ranges change.rows content.registered.leads) at.date ≡ false
      → is_accounted_for content touched run at ≡ true → is_accounted_for after all_touched run at ≡ true
  stays run at off was =
      elim (is_among by_rows at) as (λ b. is_among by_rows at ≡ b → is_accounted_for after all_touched run at ≡ true) [
        | true ↦ λ is. or_left _ _ (among_first by_rows (by_successions ++ touched) at is)
        | false ↦ λ untouched.
            let same = untouched_stays midnight s load at reached can untouched off in
            touched_or_still (is_among touched at) (is_among all_touched at) (is_still content.registered at (period_of_run content run at.period))
            (is_still after.registered at (period_of_run content run at.period))
            (λ is. among_second by_rows (by_successions ++ touched) at (among_second by_successions touched at is))
            (λ so. sym (ap (λ (c : Content). is_still c.registered at (period_of_run content run at.period)) effect)
            ∙ still_same at content.registered (registered_at midnight (after_load midnight s load)) same.0 same.1 (period_of_run content run at.period) ∙ so) was
      ] refl

  -- on a date that a succession holds, each period of its latest run is touched
  touched_there : (date : ℕ) (e : RunKey × Summary) → latest_on content date ≡ Some e → is_held (succession_ranges change.rows content.registered.leads) date ≡ true
      → AllByRecursion (λ at. is_accounted_for after all_touched e.0 at ≡ true) (periods_on date e.1.periods)
  touched_there date e is held =
      let of_date : e.0.date ≡ date = latest_of_date content touched date e is in
      all-weaken (λ at. is_among by_successions at ≡ true) (λ at. is_accounted_for after all_touched e.0 at ≡ true)
      (λ at among. or_left _ _ (among_second by_rows (by_successions ++ touched) at (among_first by_successions touched at among))) (periods_on date e.1.periods)
      (subst (λ d. AllByRecursion (λ at. is_among by_successions at ≡ true) (periods_on d e.1.periods)) of_date
      (holds_of_latest content touched
      (λ x. is_held (succession_ranges change.rows content.registered.leads) x.0.date ≡ true → AllByRecursion (λ at. is_among by_successions at ≡ true) (periods_on x.0.date x.1.periods))
      (passing_among (λ x. periods_on x.0.date x.1.periods) (λ x. is_held (succession_ranges change.rows content.registered.leads) x.0.date) content.runs) date e is
      (ap (is_held (succession_ranges change.rows content.registered.leads)) of_date ∙ held)))

  pub accounted_for_after_loads : IsTrue (are_days_accounted_for content touched) → IsTrue (are_days_accounted_for (tables_of midnight (after_load midnight s load)) all_touched)
  accounted_for_after_loads accounted =
      subst (λ c. are_days_accounted_for c all_touched ≡ true) (sym effect) (days_accounted_for after all_touched each)
    where
      each : (date : ℕ) (e : RunKey × Summary) → latest_on after date ≡ Some e → AllByRecursion (λ at. is_accounted_for after all_touched e.0 at ≡ true) (periods_on date e.1.periods)
      each date e is =
          elim (is_held (succession_ranges change.rows content.registered.leads) date) as (λ b. is_held (succession_ranges change.rows content.registered.leads) date ≡ b
          → AllByRecursion (λ at. is_accounted_for after all_touched e.0 at ≡ true) (periods_on date e.1.periods)) [
            | true ↦ λ held. touched_there date e is held
            | false ↦ λ off.
                all-map (λ at. is_accounted_for after all_touched e.0 at ≡ true) (λ (p : ℕ). record { date = date; period = p }) (from_one_to e.1.periods)
                (all-weaken (λ p. is_accounted_for content touched e.0 (record { date = date; period = p }) ≡ true) (λ p. is_accounted_for after all_touched e.0 (record { date = date; period = p }) ≡ true)
                (λ p was. stays e.0 (record { date = date; period = p }) off was) (from_one_to e.1.periods)
                (all-before-map (λ at. is_accounted_for content touched e.0 at ≡ true) (λ (p : ℕ). record { date = date; period = p }) (from_one_to e.1.periods)
                (latest_accounted_for content touched accounted date e is)))
          ] refl
